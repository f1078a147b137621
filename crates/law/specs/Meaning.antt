-- What a plan's test and cost mean, and the laws that they keep.
use Rattle.std.specs.Prelude.{ℕ, Bool, List}
use Rattle.tasks.specs.declared.task.Candidate.{Candidate}
use Rattle.tasks.specs.declared.task.Timing.{Timing}
use Rattle.tasks.specs.Timing.{timings}
use Rattle.response.specs.Tests.{Answers, Within, Monotone}
use Rattle.costs.specs.Prices as prices
use Rattle.costs.specs.Folds.{charge}
use Rattle.orders.specs.Orders.{Test}
use Rattle.orders.specs.Costs.{Cost}

-- a plan has one test and one cost for life. A test is its code, the tasks that it admits, and its answers; a cost is its code and
-- its prices
pub record Meaning (V : Type 0) : Type 0 where
  pub test_code : ℕ
  pub admitted : Timing → Bool
  pub answer : Answers
  pub cost_code : ℕ
  pub prices : prices.Prices V

abbrev pub meaning : {V : Type 0} → ℕ → (Timing → Bool) → Answers → ℕ → prices.Prices V → Meaning V
meaning test_code admitted answer cost_code prices =
    record { test_code = test_code; admitted = admitted; answer = answer; cost_code = cost_code; prices = prices }

-- prices over some held tasks, which go by position
abbrev pub priced : {V : Type 0} → prices.Prices V → List Candidate → Cost V
priced p tasks = record { none = p.nothing; of = charge p tasks; join = p.joined; no_more = p.no_more }

module _ {V : Type 0} (w : Meaning V) where
  -- the laws of the test and of the cost
  pub record Lawful : Type 0 where
    pub within : Within w.admitted w.answer
    pub monotone : Monotone w.admitted w.answer
    pub prices : prices.Lawful w.prices

  -- the test's answers and the cost over some held tasks
  abbrev pub answers : List Candidate → Test
  answers tasks = w.answer (timings tasks)

  abbrev pub costs : List Candidate → Cost V
  costs tasks = priced w.prices tasks
