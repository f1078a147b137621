-- The first order is written from the lowest level up, at the end of an array.
use Rattle.std.proofs.Common.{◌≡◌, ℕ, suc, ◌+◌, ◌-◌, ◌<◌, ◌≤◌, Bool, true, false, not, ◌&&◌, eqb, ltb, List, [], ◌∷◌, map, length, get_or, take, drop, set, Some, None, sym, refl, ap, ◌∙◌, subst, ap₂, inl, inr, arith}
use Rattle.std.proofs.lemmas.List.{drop-set, get_or-set_same, length-take-le}
use Rattle.std.proofs.lemmas.Bool.{eq-eqb, ne_eqb, lt-ltb, le-ltb, cases_lt, eqb-true}
use Rattle.tasks.specs.Sets.{holds, members}
use Rattle.orders.specs.Orders.{Test, Assignment, word, count, unplaced, Order}
use Rattle.orders.specs.Costs.{Cost}
use Rattle.orders.specs.First.{from, cheapest, first_above, first_order}
use Rattle.orders.proofs.Counts.{Front, Free, order_from_front}
use Rattle.orders.proofs.Words.{same_bits}
use Rattle.orders.proofs.Members.{holds_word, members_word}
use Rattle.search.proofs.Rankings.{times_kept}
use Rattle.search.proofs.Picking.{unplaced_bit, unplaced_at}

-- the levels of an order of n tasks that are filled from level l on
abbrev pub lower : ℕ → ℕ → List ℕ → List ℕ
lower n l order = take (n - l) (drop l order)

abbrev pub timed : List ℕ → List ℕ → Assignment
timed times v = record { order = v; times = map (λ i. get_or times i 0) v }

pub lower_none : (n : ℕ) (order : List ℕ) → lower n n order ≡ []
lower_none n order = let none : n - n ≡ 0 = omega arith in ap (λ k. take k (drop n order)) none

pub lower_more : (n l p : ℕ) (order : List ℕ) → 0 < l → l ≤ n → n ≤ length order → lower n (l - 1) (set order (l - 1) p) ≡ p ∷ lower n l order
lower_more n l p order pos le long =
    let more : n - (l - 1) ≡ suc (n - l) = omega arith in
    let back : l - 1 + 1 ≡ l = omega arith in
    ap₂ take more (drop-set order (l - 1) p (omega arith)) ∙ ap (λ k. p ∷ take (n - l) (drop k order)) back

-- the levels from l on are filled, with the set of the tasks that are left
abbrev pub Filled : {V : Type 0} → ℕ → Test → Cost V → ℕ → List ℕ → List ℕ → ℕ → Type 0
Filled n answer c l order times w =
    (length order ≡ 16)
    × (length times ≡ 16)
    × ((i : ℕ) → get_or times i 0 ≤ 4294967295)
    × Front n (lower n l order)
    × (word (unplaced n (lower n l order)) ≡ w)
    × (first_above n answer c l (timed times (lower n l order)) ≡ first_order n answer c)

-- at the start the set has every task
pub all_left : (n w : ℕ) → ((j : ℕ) → holds w j ≡ ltb j n) → word (unplaced n []) ≡ w
all_left n w bits = same_bits (word (unplaced n [])) w (λ j. unplaced_bit n [] j ∙ both (ltb j n) ∙ sym (bits j))
  where
    both : (b : Bool) → (b && true) ≡ b
    both true = refl
    both false = refl

-- one level more
module _ {V : Type 0} (n : ℕ) (answer : Test) (c : Cost V) (l : ℕ) (v times : List ℕ) (pos : 0 < l) where
  steps_up : l ≡ suc (l - 1)
  steps_up = omega arith

  pub above_late : cheapest n answer c v (unplaced n v) ≡ None → first_above n answer c l (timed times v) ≡ None
  above_late e =
      ap (λ k. first_above n answer c k (timed times v)) steps_up
      ∙ ap (λ o. from o (λ d. first_above n answer c (l - 1) (record { order = d.task ∷ v; times = d.time ∷ map (λ i. get_or times i 0) v }))) e

  pub above_more : (p t : ℕ) → cheapest n answer c v (unplaced n v) ≡ Some (record { task = p; time = t }) → count p v ≡ 0 → p < length times
      → first_above n answer c l (timed times v) ≡ first_above n answer c (l - 1) (timed (set times p t) (p ∷ v))
  above_more p t e free low =
      ap (λ k. first_above n answer c k (timed times v)) steps_up
      ∙ ap (λ o. from o (λ d. first_above n answer c (l - 1) (record { order = d.task ∷ v; times = d.time ∷ map (λ i. get_or times i 0) v }))) e
      ∙ ap₂ (λ x xs. first_above n answer c (l - 1) (record { order = p ∷ v; times = x ∷ xs })) (sym (get_or-set_same times p t 0 low)) (sym (times_kept times p t v free))

-- a picked task is free
pub pick_free : (n w p : ℕ) (v : List ℕ) → word (unplaced n v) ≡ w → p < n → holds w p ≡ true → Free n v p
pick_free n w p v is low h = record { below = low; not_placed = eqb-true (count p v) 0 (sym (unplaced_at n v p w low is) ∙ h) }

-- at the end every task is placed
module _ (n w : ℕ) (order : List ℕ) (few : n ≤ 16) (long : length order ≡ 16) (bits : (j : ℕ) → holds w j ≡ ltb j n) (f : Front n (take n order)) where
  full : length (take n order) ≡ n
  full = length-take-le n order (omega arith)

  pub word_full : word (take n order) ≡ w
  word_full = same_bits (word (take n order)) w (λ j. holds_word (take n order) f.once j ∙ bit j ∙ sym (bits j))
    where
      bit : (j : ℕ) → not (eqb (count j (take n order)) 0) ≡ ltb j n
      bit j = elim (cases_lt j n) [
        | inl l ↦
            ap not (ne_eqb (count j (take n order)) 0 (λ e. omega (arith, (order_from_front n (take n order) f full).once j l))) ∙ sym (lt-ltb j n l)
        | inr g ↦ ap not (eq-eqb (count j (take n order)) 0 (f.else_none j g)) ∙ sym (le-ltb j n g)
      ]

  pub take_full : take (members w) order ≡ take n order
  take_full =
      ap (λ k. take k order)
      (ap members (sym word_full) ∙ members_word (take n order) f.once (λ i h. f.else_none i (omega arith)) ∙ full)

  pub order_full : Order n (take (members w) order)
  order_full = subst (Order n) (sym take_full) (order_from_front n (take n order) f full)
