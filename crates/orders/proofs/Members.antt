-- What a program that keeps a set as a word reads off it: one bit, the number of members, and the tasks that it lacks.
use Rattle.std.proofs.Common.{◌≡◌, ℕ, zero, suc, ◌+◌, ◌≤◌, Bool, true, false, cond, not, eqb, ltb, List, [], ◌∷◌, length, filter, sym, refl, ap, ◌∙◌, ap₂, inl, inr, arith}
use mathlib.Core.Path.{fun_ext}
use Rattle.std.proofs.lemmas.Bool.{eq-eqb, ne_eqb, lt-ltb, le-ltb, cases_lt, cases_eq, cond-true, cond-false}
use Rattle.tasks.specs.Numbers.{sum_below}
use Rattle.tasks.specs.Sets.{holds, members}
use Rattle.orders.specs.Orders.{word, same, count, upto, unplaced}
use Rattle.orders.proofs.Counts.{same_self, same_is, same_other}
use Rattle.orders.proofs.Words.{holds_absent, holds_present}

-- one bit of the word
pub holds_word : (v : List ℕ) → ((i : ℕ) → count i v ≤ 1) → (i : ℕ) → holds (word v) i ≡ not (eqb (count i v) 0)
holds_word v o i = elim (cases_lt 0 (count i v)) [
  | inl l ↦ holds_present v o i l ∙ sym (ap not (ne_eqb (count i v) 0 (λ e. omega arith)))
  | inr g ↦ holds_absent v o i (omega arith) ∙ sym (ap not (eq-eqb (count i v) 0 (omega arith)))
]

-- the number of members is the number of placed tasks
sum_same : (n i : ℕ) → sum_below n (λ j. same j i) ≡ cond (ltb i n) 1 0
unfolding sum_below
sum_same zero i = sym (cond-false {A = ℕ} (ltb i 0) 1 0 (le-ltb i 0 (omega arith)))
sum_same (suc n) i = elim (cases_eq n i) [
  | inl e ↦ omega (arith, sum_same n i, same_is n i e, cond-false {A = ℕ} (ltb i n) 1 0 (le-ltb i n (omega arith)), cond-true {A = ℕ} (ltb i (suc n)) 1 0 (lt-ltb i (suc n) (omega arith)))
  | inr ne ↦ elim (cases_lt i n) [
    | inl l ↦ omega (arith, sum_same n i, same_other n i ne, cond-true {A = ℕ} (ltb i n) 1 0 (lt-ltb i n l), cond-true {A = ℕ} (ltb i (suc n)) 1 0 (lt-ltb i (suc n) (omega arith)))
    | inr g ↦ omega (arith, sum_same n i, same_other n i ne, cond-false {A = ℕ} (ltb i n) 1 0 (le-ltb i n g), cond-false {A = ℕ} (ltb i (suc n)) 1 0 (le-ltb i (suc n) (omega arith)))
  ]
]

sum_counts : (n i : ℕ) (v : List ℕ) → sum_below n (λ j. count j (i ∷ v)) ≡ sum_below n (λ j. same j i) + sum_below n (λ j. count j v)
unfolding sum_below
sum_counts zero i v = refl
sum_counts (suc n) i v = omega (arith, sum_counts n i v)

sum_zero : (n : ℕ) → sum_below n (λ j. 0) ≡ 0
unfolding sum_below
sum_zero zero = refl
sum_zero (suc n) = omega (arith, sum_zero n)

sum_count : (n : ℕ) (v : List ℕ) → ((i : ℕ) → n ≤ i → count i v ≡ 0) → sum_below n (λ j. count j v) ≡ length v
sum_count n [] h = sum_zero n
sum_count n (i ∷ v) h = elim (cases_lt i n) [
  | inl l ↦ omega (arith, sum_counts n i v, sum_same n i, cond-true {A = ℕ} (ltb i n) 1 0 (lt-ltb i n l), sum_count n v (λ j g. omega (arith, h j g)))
  | inr g ↦ absurd (omega (arith, h i g, same_self i))
]

pub members_word : (v : List ℕ) → ((i : ℕ) → count i v ≤ 1) → ((i : ℕ) → 64 ≤ i → count i v ≡ 0) → members (word v) ≡ length v
unfolding members
members_word v o h = ap (sum_below 64) (fun_ext bit) ∙ sum_count 64 v h
  where
    bit : (i : ℕ) → cond {A = ℕ} (holds (word v) i) 1 0 ≡ count i v
    bit i = elim (cases_lt 0 (count i v)) [
      | inl l ↦ omega (arith, o i, cond-true {A = ℕ} (holds (word v) i) 1 0 (holds_present v o i l))
      | inr g ↦ omega (arith, cond-false {A = ℕ} (holds (word v) i) 1 0 (holds_absent v o i (omega arith)))
    ]

-- the unplaced tasks are those that the word lacks
pub unplaced_word : (n : ℕ) (v : List ℕ) → ((i : ℕ) → count i v ≤ 1) → unplaced n v ≡ filter (λ i. not (holds (word v) i)) (upto n)
unplaced_word n v o = kept_same (upto n)
  where
    twice : (b : Bool) → b ≡ not (not b)
    twice true = refl
    twice false = refl

    same_test : (i : ℕ) → eqb (count i v) 0 ≡ not (holds (word v) i)
    same_test i = twice (eqb (count i v) 0) ∙ sym (ap not (holds_word v o i))

    kept_same : (xs : List ℕ) → filter (λ i. eqb (count i v) 0) xs ≡ filter (λ i. not (holds (word v) i)) xs
    kept_same [] = refl
    kept_same (x ∷ xs) = ap₂ (λ b ys. cond b (x ∷ ys) ys) (same_test x) (kept_same xs)
