-- A ranking, and one task more.
use Rattle.std.proofs.Common.{◌≡◌, ℕ, ◌+◌, ◌<◌, ◌≤◌, true, false, not, ◌||◌, eqb, ltb, List, [], ◌∷◌, ◌++◌, map, length, get_or, take, set, replicate, sym, refl, ap, ◌∙◌, subst, ap₂, inl, inr, arith, length-append}
use Rattle.std.proofs.lemmas.List.{take_more_set, get_or-set_same, get_or-set_other, map-append, get_or-replicate, get_or_past}
use Rattle.std.proofs.lemmas.Bool.{eq-eqb, ne_eqb, cases_eq, cases_lt, true≢false, and_parts, ltb-true, lt-ltb}
use Rattle.tasks.specs.Sets.{holds, members}
use Rattle.search.specs.declared.ranking.Ranking.{Ranking}
use Rattle.search.specs.declared.search.Search.{Search}
use Rattle.orders.specs.Orders.{word, count, unplaced, Order}
use Rattle.search.specs.Ranks.{ranks, all_below}
use Rattle.orders.proofs.Counts.{same_is, same_other, count_append, count_upto, count_unplaced, Front, Free, length_unplaced, front_push, order_from_front}
use Rattle.orders.proofs.Words.{holds_present, same_bits}
use Rattle.orders.proofs.Members.{holds_word, members_word}

-- tasks of n

pub no_other : (n : ℕ) (v : List ℕ) → all_below n v ≡ true → (i : ℕ) → n ≤ i → count i v ≡ 0
no_other n [] h i g = refl
no_other n (x ∷ v) h i g =
    let parts = and_parts (ltb x n) (all_below n v) h in
    omega (arith, ltb-true x n parts.0, same_other i x (λ e. omega (arith, ltb-true x n parts.0)), no_other n v parts.1 i g)

pub one_below : (n : ℕ) (v : List ℕ) (t : ℕ) → all_below n v ≡ true → t < n → all_below n (v ++ (t ∷ [])) ≡ true
one_below n [] t h l = rw (lt-ltb t n l) refl
one_below n (x ∷ v) t h l =
    let parts = and_parts (ltb x n) (all_below n v) h in
    rw parts.0 (one_below n v t parts.1 l)

-- as many as one of them is counted
count_length : (i : ℕ) (xs : List ℕ) → count i xs ≤ length xs
count_length i [] = omega arith
count_length i (x ∷ xs) = elim (cases_eq i x) [
  | inl e ↦ omega (arith, same_is i x e, count_length i xs)
  | inr ne ↦ omega (arith, same_other i x ne, count_length i xs)
]

-- the times of tasks while another task is given one
pub times_kept : (times : List ℕ) (t time : ℕ) (v : List ℕ) → count t v ≡ 0
    → map (λ i. get_or (set times t time) i 0) v ≡ map (λ i. get_or times i 0) v
times_kept times t time [] h = refl
times_kept times t time (i ∷ v) h =
    let ne : i ≡ t → ⊥ = λ e. omega (arith, same_is t i (sym e)) in
    ap₂ (λ x xs. x ∷ xs) (get_or-set_other times t i time 0 ne) (times_kept times t time v (omega arith))

pub brief_more : (times : List ℕ) (t time : ℕ) → t < length times → time ≤ 4294967295 → ((i : ℕ) → get_or times i 0 ≤ 4294967295)
    → (i : ℕ) → get_or (set times t time) i 0 ≤ 4294967295
brief_more times t time low h all i = elim (cases_eq i t) [
  | inl e ↦ rw (e, get_or-set_same times t time 0 low) h
  | inr ne ↦ rw (get_or-set_other times t i time 0 ne) (all i)
]

module _ (r : Ranking) where
  pub front : Front 16 (ranks r)
  front = record { once = r.once; else_none = r.among }

  pub front_below : (n : ℕ) → all_below n (ranks r) ≡ true → Front n (ranks r)
  front_below n h = record { once = r.once; else_none = no_other n (ranks r) h }

  pub level_is : members r.placed.word ≡ length (ranks r)
  level_is = ap members (sym r.marked) ∙ members_word (ranks r) r.once (λ i h. r.among i (omega arith))

  pub bit_is : (i : ℕ) → holds r.placed.word i ≡ not (eqb (count i (ranks r)) 0)
  bit_is i = ap (λ w. holds w i) (sym r.marked) ∙ holds_word (ranks r) r.once i

  pub free_is : (i : ℕ) → holds r.placed.word i ≡ false → count i (ranks r) ≡ 0
  free_is i h = elim (cases_lt 0 (count i (ranks r))) [
    | inl l ↦ absurd (true≢false (sym (holds_present (ranks r) r.once i l) ∙ ap (λ w. holds w i) r.marked ∙ h))
    | inr g ↦ omega arith
  ]

  module _ (t : ℕ) (low : t < 16) (absent : holds r.placed.word t ≡ false) where
    free : Free 16 (ranks r) t
    free = record { below = low; not_placed = free_is t absent }

    pub room_left : length (ranks r) < 16
    room_left = omega (
      arith,
      length_unplaced 16 (ranks r) front,
      count_length t (unplaced 16 (ranks r)),
      count_unplaced 16 t (ranks r) free.not_placed,
      count_upto 16 t low,
    )

    pub front_more : Front 16 (ranks r ++ (t ∷ []))
    front_more = front_push 16 (ranks r) front t free

    module _ (w : ℕ) (bits : (j : ℕ) → holds w j ≡ (eqb j t || holds r.placed.word j)) where
      pub word_more : word (ranks r ++ (t ∷ [])) ≡ w
      word_more = same_bits (word (ranks r ++ (t ∷ []))) w (λ j. holds_word (ranks r ++ (t ∷ [])) front_more.once j ∙ bit j ∙ sym (bits j))
        where
          bit : (j : ℕ) → not (eqb (count j (ranks r ++ (t ∷ []))) 0) ≡ (eqb j t || holds r.placed.word j)
          bit j = elim (cases_eq j t) [
            | inl e ↦
                rw (eq-eqb j t e)
                (ap not (ne_eqb (count j (ranks r ++ (t ∷ []))) 0 (λ z. omega (arith, count_append j (ranks r) (t ∷ []), same_is j t e))))
            | inr ne ↦
                let same_count : count j (ranks r ++ (t ∷ [])) ≡ count j (ranks r) = omega (arith, count_append j (ranks r) (t ∷ []), same_other j t ne) in
                rw (ne_eqb j t ne, same_count) (sym (bit_is j))
          ]

      pub ranks_more : (l : ℕ) → l ≡ length (ranks r) → length r.order ≡ 16 → take (members w) (set r.order l t) ≡ ranks r ++ (t ∷ [])
      ranks_more l e long =
          ap (λ k. take k (set r.order l t)) size ∙ take_more_set r.order l t (omega (arith, room_left))
          ∙ ap (λ k. take k r.order ++ (t ∷ [])) (e ∙ sym level_is)
        where
          size : members w ≡ l + 1
          size =
              ap members (sym word_more)
              ∙ members_word (ranks r ++ (t ∷ [])) front_more.once (λ i h. front_more.else_none i (omega arith))
              ∙ omega (arith, length-append (ranks r) (t ∷ []))

    pub times_more : (time : ℕ) → length r.times ≡ 16
        → map (λ i. get_or (set r.times t time) i 0) (ranks r ++ (t ∷ [])) ≡ map (λ i. get_or r.times i 0) (ranks r) ++ (time ∷ [])
    times_more time long =
        map-append (λ i. get_or (set r.times t time) i 0) (ranks r) (t ∷ [])
        ∙ ap₂ (λ xs x. xs ++ (x ∷ [])) (times_kept r.times t time (ranks r) free.not_placed) (get_or-set_same r.times t time 0 (omega arith))

-- sixteen zeros
pub zeros : (i : ℕ) → get_or (0 ∷ 0 ∷ 0 ∷ 0 ∷ 0 ∷ 0 ∷ 0 ∷ 0 ∷ 0 ∷ 0 ∷ 0 ∷ 0 ∷ 0 ∷ 0 ∷ 0 ∷ 0 ∷ []) i 0 ≤ 4294967295
zeros i = elim (cases_lt i 16) [
  | inl l ↦ omega (arith, get_or-replicate {A = ℕ} 16 i 0 0 l)
  | inr g ↦ omega (arith, get_or_past {X = ℕ} (replicate 16 0) i 0 g)
]

-- the best order of a search has every task once
pub best_is_order : (s : Search) (n : ℕ) → n ≡ s.size → Order n (ranks s.best)
best_is_order s n e = record {
  once = λ i l. s.once i (omega arith);
  else_none = λ i h. s.no_other i (omega arith);
}

-- at the last level a ranking is an order
pub last_is_order : (r : Ranking) (n size : ℕ) → n ≡ size → all_below size (ranks r) ≡ true → length (ranks r) ≡ n → Order n (ranks r)
last_is_order r n size e h last =
    order_from_front n (ranks r) (front_below r n (subst (λ k. all_below k (ranks r) ≡ true) (sym e) h)) last
