-- A set of positions as a word: position i is a member where bit i is set.
use Rattle.std.specs.Prelude.{◌≡◌, ℕ, ◌/◌, ◌%◌, ◌^◌, Bool, true, cond, ◌==◌}
use Rattle.tasks.specs.Numbers.{sum_below}

abbrev pub holds : ℕ → ℕ → Bool
holds w i = (w / (2 ^ i)) % 2 == 1

-- how many of the positions below 64 are members
unfoldable pub members : ℕ → ℕ
members w = sum_below 64 (λ i. cond (holds w i) 1 0)

-- every member of v is one of w
abbrev pub Part : ℕ → ℕ → Type 0
Part v w = (i : ℕ) → holds v i ≡ true → holds w i ≡ true
