-- Sums over the levels above one.
use Rattle.std.proofs.Common.{◌≡◌, ℕ, zero, suc, ◌+◌, ◌<◌, ◌≤◌, ◌≢◌, List, length, get_or, set, refl, ap, inl, inr, arith, get_or-set_other, get_or-set_same}
use Rattle.std.proofs.lemmas.Bool.{cases_lt, cases_eq}
use Rattle.tasks.specs.Numbers.{sum_below, max_below}

pub sum_le_add : (f g d : ℕ → ℕ) (n : ℕ) → ((j : ℕ) → j < n → f j ≤ g j + d j) → sum_below n f ≤ sum_below n g + sum_below n d
unfolding sum_below
sum_le_add f g d zero h = omega arith
sum_le_add f g d (suc n) h = let ih = sum_le_add f g d n (λ j l. h j (omega arith)) in omega (arith, h n (omega arith))

pub sum_none : (f : ℕ → ℕ) (n : ℕ) → ((j : ℕ) → f j ≡ 0) → sum_below n f ≡ 0
unfolding sum_below
sum_none f zero h = refl
sum_none f (suc n) h = omega (arith, sum_none f n h, h n)

-- a smaller sum is smaller at some place
pub sum_lt : (f g : ℕ → ℕ) (n : ℕ) → sum_below n f < sum_below n g → (j : ℕ) × (j < n) × (f j < g j)
unfolding sum_below
sum_lt f g zero h = absurd (omega arith)
sum_lt f g (suc n) h =
    elim (cases_lt (f n) (g n)) [
      | inl here ↦ (n, omega arith, here)
      | inr not-here ↦ let ih = sum_lt f g n (omega arith) in (ih.0, omega (arith, ih.1), ih.2)
    ]

-- one more tick for level c
module _ (xs : List ℕ) (c : ℕ) (in-range : c < length xs) where
  pub raised_same : get_or (set xs c (suc (get_or xs c 0))) c 0 ≡ suc (get_or xs c 0)
  raised_same = rw get_or-set_same

  pub raised_other : (j : ℕ) → j ≢ c → get_or (set xs c (suc (get_or xs c 0))) j 0 ≡ get_or xs j 0
  raised_other j ne = rw get_or-set_other

  pub raised_above : (n : ℕ) → n ≤ c →
      sum_below n (λ j. get_or (set xs c (suc (get_or xs c 0))) j 0) ≡ sum_below n (λ j. get_or xs j 0)
  unfolding sum_below
  raised_above zero h = refl
  raised_above (suc n) h = let ih = raised_above n (omega arith) in omega (arith, raised_other n (omega arith))

  pub raised_within : (n : ℕ) → c < n →
      sum_below n (λ j. get_or (set xs c (suc (get_or xs c 0))) j 0) ≡ suc (sum_below n (λ j. get_or xs j 0))
  unfolding sum_below
  raised_within zero h = absurd (omega arith)
  raised_within (suc n) h =
      elim (cases_eq c n) [
        | inl same ↦
            omega (
              arith,
              raised_above n (omega arith),
              raised_same,
              ap (λ m. get_or (set xs c (suc (get_or xs c 0))) m 0) same,
              ap (λ m. get_or xs m 0) same,
            )
        | inr other ↦ let ih = raised_within n (omega arith) in omega (arith, raised_other n (omega arith))
      ]

pub max_at : (n j : ℕ) (f : ℕ → ℕ) → j < n → f j ≤ max_below n f
unfolding max_below
max_at zero j f l = absurd (omega arith)
max_at (suc n) j f l =
    elim (cases_eq j n) [ inl here ↦ rw here (omega arith) | inr other ↦ omega (arith, max_at n j f (omega arith)) ]
