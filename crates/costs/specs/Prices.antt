-- What a cost means, and the laws that every cost obeys.
use Rattle.std.specs.Prelude.{◌≡◌, ℕ, ◌+◌, ◌-◌, ◌*◌, ◌/◌, ◌^◌, ◌≤◌, Bool, true, leb, ◌⊎◌}

pub record Prices (V : Type 0) : Type 0 where
  -- the cost of no task
  pub nothing : V
  -- the cost of a task, by its weight, its tier and its response time
  pub single : ℕ → ℕ → ℕ → V
  -- the cost of the tasks of both
  pub joined : V → V → V
  -- the first is no more than the second
  pub no_more : V → V → Bool
  -- the two numbers to show
  pub numbers : V → ℕ × ℕ
  -- it takes at least so many tasks to cost as much
  pub covered : V → ℕ

pub record Lawful {V : Type 0} (p : Prices V) : Type 0 where
  -- of two costs one is no more than the other
  pub comparable : (x y : V) → (p.no_more x y ≡ true) ⊎ (p.no_more y x ≡ true)
  -- what is no more than a cost is no more than what that cost is no more than
  pub transitive : (x y z : V) → p.no_more x y ≡ true → p.no_more y z ≡ true → p.no_more x z ≡ true
  -- costs are joined in any grouping
  pub associative : (x y z : V) → p.joined (p.joined x y) z ≡ p.joined x (p.joined y z)
  -- and in any order
  pub commutative : (x y : V) → p.joined x y ≡ p.joined y x
  -- the cost of no task adds nothing
  pub neutral : (x : V) → p.joined p.nothing x ≡ x
  -- joining keeps "no more than" on both sides
  pub keeps_no_more : (w x y z : V) → p.no_more w x ≡ true → p.no_more y z ≡ true
      → p.no_more (p.joined w y) (p.joined x z) ≡ true
  -- a larger response time never costs less
  pub later_no_less : (weight tier r s : ℕ) → r ≤ s → p.no_more (p.single weight tier r) (p.single weight tier s) ≡ true
  -- the cost of no task covers none, that of a task at most one, and a joined cost at most what its parts cover together
  pub covers_none : p.covered p.nothing ≡ 0
  pub covers_one : (weight tier r : ℕ) → weight ≤ 65535 → r ≤ 4294967295 → p.covered (p.single weight tier r) ≤ 1
  pub covers_both : (x y : V) → p.covered (p.joined x y) ≤ p.covered x + p.covered y

-- weight times response is less than 2 ^ 48 for one task, so at least this many tasks have the sum v
abbrev pub share : ℕ → ℕ
share v = (v + (2 ^ 48 - 1)) / 2 ^ 48

-- the sum: weight times response, added
abbrev pub sum_prices : Prices ℕ
sum_prices = record { nothing = 0; single = λ weight tier response. weight * response; joined = ◌+◌; no_more = leb; numbers = λ a. (a, 0); covered = share }
