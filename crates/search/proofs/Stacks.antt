-- What is pushed on the stack, and that there is room for it.
use Rattle.std.proofs.Common.{◌≡◌, ℕ, zero, suc, ◌+◌, ◌-◌, ◌<◌, ◌≤◌, Bool, true, false, cond, not, ltb, List, [], ◌∷◌, ◌++◌, map, reverse, length, get_or, take, drop, filter, sym, ap, ◌∙◌, ap₂, inl, inr, arith, length-append}
use Rattle.std.proofs.lemmas.List.{length-map, reverse-append, length-reverse, drop_more, drop_all, take-append-drop, get_or_append_left, get_or_push}
use Rattle.std.proofs.lemmas.Bool.{lt-ltb, cond-true, cond-false, cases_lt}
use Rattle.tasks.specs.Sets.{holds, members}
use Rattle.search.specs.declared.ranking.Ranking.{Ranking}
use Rattle.search.specs.declared.vertex.Vertex.{Vertex}
use Rattle.orders.specs.Orders.{upto, unplaced}
use Rattle.search.specs.Ranks.{ranks, ranked, waiting, room, all_below, sound}
use Rattle.orders.specs.Search as orders
use Rattle.orders.proofs.Counts.{length_unplaced, length_upto}
use Rattle.orders.proofs.Members.{unplaced_word}
use Rattle.search.proofs.Rankings.{front, level_is}

-- ---- a vertex is put on

pub pushed : (zs ys : List Vertex) (v : Vertex) → zs ≡ ys ++ v ∷ [] → map waiting (reverse zs) ≡ waiting v ∷ map waiting (reverse ys)
pushed zs ys v e = ap (λ xs. map waiting (reverse xs)) e ∙ ap (map waiting) (reverse-append ys (v ∷ []))

pub pushed_sound : (zs ys : List Vertex) (v : Vertex) → zs ≡ ys ++ v ∷ [] → (n : ℕ) → v.task < n
    → all_below n (ranks v.above) ≡ true → length ys < room (suc (length (ranks v.above))) → sound n (reverse ys) ≡ true
    → sound n (reverse zs) ≡ true
pushed_sound zs ys v e n low above under s =
    let top = room (suc (members v.above.placed.word)) in
    let roomy : ltb (length (reverse ys)) top ≡ true = lt-ltb _ _ (rw (length-reverse, level_is v.above) under) in
    let known : ltb v.task n ≡ true = lt-ltb _ _ low in
    rw (e, reverse-append ys (v ∷ []), roomy, known, above) s

-- ---- the vertices below a ranking, from the last position down

-- more places down to a lower level, and at most 136
pub room_up : (l m : ℕ) → l ≤ m → room l ≤ room m
room_up zero m h = omega arith
room_up (suc l) zero h = absurd (omega arith)
room_up (suc l) (suc m) h = elim (cases_lt (suc l) (suc m)) [
  | inl k ↦ omega (arith, room_up (suc l) m (omega arith))
  | inr g ↦ let same : suc l ≡ suc m = omega arith in omega (arith, ap room same)
]

-- the positions from i on that are not in a set
abbrev pub left : ℕ → ℕ → ℕ → List ℕ
left w i n = filter (λ j. not (holds w j)) (drop i (upto n))

pub left_none : (w n : ℕ) → left w n n ≡ []
left_none w n = ap (filter (λ j. not (holds w j))) (drop_all n (upto n) (omega (arith, length_upto n)))

upto_at : (n i : ℕ) → i < n → get_or (upto n) i 0 ≡ i
upto_at zero i h = absurd (omega arith)
upto_at (suc n) i h = elim (cases_lt i n) [
  | inl l ↦ get_or_append_left (upto n) (n ∷ []) 0 i (omega (arith, length_upto n)) ∙ upto_at n i l
  | inr g ↦ let same : n ≡ i = omega arith in get_or_push (upto n) n 0 i (length_upto n ∙ same) ∙ same
]

-- one position more, from the end
pub from_more : (q : ℕ → Bool) (i n : ℕ) → 0 < i → i ≤ n
    → filter q (drop (i - 1) (upto n)) ≡ cond (q (i - 1)) ((i - 1) ∷ filter q (drop i (upto n))) (filter q (drop i (upto n)))
from_more q i n pos le =
    let back : i - 1 + 1 ≡ i = omega arith in
    ap (filter q)
    (drop_more (upto n) (i - 1) 0 (omega (arith, length_upto n)) ∙ ap₂ (λ x k. x ∷ drop k (upto n)) (upto_at n (i - 1) (omega arith)) back)

pub left_more : (w i n : ℕ) → 0 < i → i ≤ n → left w (i - 1) n ≡ cond (not (holds w (i - 1))) ((i - 1) ∷ left w i n) (left w i n)
left_more w i n pos le = from_more (λ j. not (holds w j)) i n pos le

module _ (q : ℕ → Bool) where
  kept_append : (xs ys : List ℕ) → length (filter q (xs ++ ys)) ≡ length (filter q xs) + length (filter q ys)
  kept_append [] ys = omega arith
  kept_append (x ∷ xs) ys = go (q x) (kept_append xs ys)
    where
      go : (b : Bool) → length (filter q (xs ++ ys)) ≡ length (filter q xs) + length (filter q ys)
          → length (cond b (x ∷ filter q (xs ++ ys)) (filter q (xs ++ ys))) ≡ length (cond b (x ∷ filter q xs) (filter q xs)) + length (filter q ys)
      go true e = omega arith
      go false e = e

  kept_up : (n m : ℕ) → n ≤ m → length (filter q (upto n)) ≤ length (filter q (upto m))
  kept_up n zero h = let same : n ≡ 0 = omega arith in omega (arith, ap (λ k. length (filter q (upto k))) same)
  kept_up n (suc m) h = elim (cases_lt n (suc m)) [
    | inl l ↦ omega (arith, kept_up n m (omega arith), kept_append (upto m) (m ∷ []))
    | inr g ↦ let same : n ≡ suc m = omega arith in omega (arith, ap (λ k. length (filter q (upto k))) same)
  ]

  kept_drop : (i n : ℕ) → length (filter q (drop i (upto n))) ≤ length (filter q (upto n))
  kept_drop i n = omega (arith, kept_append (take i (upto n)) (drop i (upto n)), ap (λ xs. length (filter q xs)) (take-append-drop i (upto n)))

module _ (r : Ranking) where
  pub left_all : (n : ℕ) → left r.placed.word 0 n ≡ unplaced n (ranks r)
  left_all n = ap (λ w. filter (λ j. not (holds w j)) (upto n)) (sym r.marked) ∙ sym (unplaced_word n (ranks r) r.once)

  -- one that is left has a place
  pub left_few : (i n : ℕ) → 0 < i → i ≤ n → n ≤ 16 → holds r.placed.word (i - 1) ≡ false
      → length (left r.placed.word i n) + length (ranks r) < 16
  left_few i n pos le few h =
      let w = r.placed.word in
      let q : ℕ → Bool = λ j. not (holds w j) in
      let one : length (left w (i - 1) n) ≡ suc (length (left w i n))
      = ap length (left_more w i n pos le ∙ cond-true (not (holds w (i - 1))) ((i - 1) ∷ left w i n) (left w i n) (ap not h)) in
      omega (arith, one, kept_drop q (i - 1) n, kept_up q n 16 few, ap length (left_all 16), length_unplaced 16 (ranks r) (front r))

-- ---- the stack while the vertices below a ranking enter

module _ (r : Ranking) (xs base : List Vertex) (i n : ℕ) (pos : 0 < i) (le : i ≤ n) where
  abbrev children : List ℕ → List orders.Vertex
  children is = map (λ j. record { ancestors = ranked r; task = j }) is

  module _ (is : map waiting (reverse xs) ≡ children (left r.placed.word i n) ++ map waiting (reverse base)) where
    pub skipped : holds r.placed.word (i - 1) ≡ true
        → map waiting (reverse xs) ≡ children (left r.placed.word (i - 1) n) ++ map waiting (reverse base)
    skipped h =
        let w = r.placed.word in
        is ∙ ap (λ ks. children ks ++ map waiting (reverse base))
        (sym (left_more w i n pos le ∙ cond-false (not (holds w (i - 1))) ((i - 1) ∷ left w i n) (left w i n) (ap not h)))

    pub entered : (zs : List Vertex) (v : Vertex) → zs ≡ xs ++ v ∷ [] → waiting v ≡ record { ancestors = ranked r; task = i - 1 }
        → holds r.placed.word (i - 1) ≡ false
        → map waiting (reverse zs) ≡ children (left r.placed.word (i - 1) n) ++ map waiting (reverse base)
    entered zs v p e h =
        let w = r.placed.word in
        pushed zs xs v p ∙ ap₂ (λ y ys. y ∷ ys) e is
        ∙ ap (λ ks. children ks ++ map waiting (reverse base))
        (sym (left_more w i n pos le ∙ cond-true (not (holds w (i - 1))) ((i - 1) ∷ left w i n) (left w i n) (ap not h)))

    pub place_left : n ≤ 16 → length base ≤ room (length (ranks r)) → holds r.placed.word (i - 1) ≡ false
        → length xs < room (suc (length (ranks r)))
    place_left few under h =
        let w = r.placed.word in
        omega (
          arith,
          sym (length_waiting (reverse xs)) ∙ ap length is,
          length-append (children (left w i n)) (map waiting (reverse base)),
          length_waiting (reverse base),
          length_children (left w i n),
          length-reverse xs,
          length-reverse base,
          left_few r i n pos le few h,
        )
      where
        length_waiting : (vs : List Vertex) → length (map waiting vs) ≡ length vs
        length_waiting vs = length-map vs waiting

        length_children : (ks : List ℕ) → length (children ks) ≡ length ks
        length_children ks = length-map ks (λ j. record { ancestors = ranked r; task = j })
