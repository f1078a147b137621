-- The rules over held tasks, a response test and a cost, and what a search stands for.
use Rattle.std.specs.Prelude.{◌≡◌, ℕ, ◌<◌, Bool, true, List, map, reverse, length, Some, None, vec_items, Option, Result, Ok, Err}
use Rattle.tasks.specs.declared.fault.PlanFault.{PlanFault}
use Rattle.tasks.specs.declared.fault.PlanFault.TheVariants.{NoOrder}
use Rattle.tasks.specs.declared.task.Candidate.{Candidate}
use Rattle.tasks.specs.declared.task.Timing.{Timing}
use Rattle.tasks.specs.Timing.{timings, at}
use Rattle.response.specs.Tests.{Answers}
use Rattle.costs.specs.Prices.{Prices}
use Rattle.costs.specs.Folds.{charge}
use Rattle.orders.specs.Orders.{Assignment, unplaced}
use Rattle.orders.specs.Costs.{Cost, cost}
use Rattle.orders.specs.First.{Choice, cheapest, first_order}
use Rattle.orders.specs.Search.{State, begun, bound, placed, examine, steps, stepped}
use Rattle.orders.specs.Theorems.{FirstOrderExact, FirstOrderGreedy, BestOrder}
use Rattle.search.specs.declared.search.Search.{Search}
use Rattle.search.specs.Ranks.{ranked, waiting}

abbrev pub state : Search → State
state s = record { best = ranked s.best; active = map waiting (reverse (vec_items s.active)) }

-- every task is admitted
abbrev pub Admitted : (Timing → Bool) → List Candidate → Type 0
Admitted admits held = (i : ℕ) → i < length held → admits (at (timings held) i) ≡ true

-- a cost over held tasks, by position
abbrev pub priced : {V : Type 0} → Prices V → List Candidate → Cost V
priced p held = record { none = p.nothing; of = charge p held; join = p.joined; no_more = p.no_more }

abbrev pub worth : {V : Type 0} → Cost V → Assignment → V
worth c a = cost c a.order a.times

-- where there is no first order the search is left as it was, else it begins with all n tasks
abbrev pub Started : Option Assignment → ℕ → Result Unit PlanFault → Search → Search → Type 0
Started None n answered before after = (answered ≡ Err NoOrder) × (after ≡ before)
Started (Some first) n answered before after = (answered ≡ Ok tt) × (after.size ≡ n) × (state after ≡ begun n first)

-- ---- the rules over the held tasks, a test's answers and a cost's prices
module _ {V : Type 0} (answer : Answers) (prices : Prices V) (held : List Candidate) where
  abbrev pub bound_over : Assignment → Option V
  bound_over a = bound (length held) (answer (timings held)) (priced prices held) a.order a.times

  abbrev pub placed_over : State → Assignment → State
  placed_over s here = placed (length held) (answer (timings held)) (priced prices held) s.best s.active here

  abbrev pub examine_over : State → State
  examine_over s = examine (length held) (answer (timings held)) (priced prices held) s

  abbrev pub steps_over : ℕ → State → State
  steps_over k s = steps (length held) (answer (timings held)) (priced prices held) k s

  abbrev pub stepped_over : ℕ → State → ℕ
  stepped_over k s = stepped (length held) (answer (timings held)) (priced prices held) k s

  -- the cheapest task above the lower ones
  abbrev pub cheapest_over : List ℕ → Option Choice
  cheapest_over lower = cheapest (length held) (answer (timings held)) (priced prices held) lower (unplaced (length held) lower)

  abbrev pub first_over : Option Assignment
  first_over = first_order (length held) (answer (timings held)) (priced prices held)

  abbrev pub FirstExact : Type 0
  FirstExact = FirstOrderExact (length held) (answer (timings held)) (priced prices held)

  abbrev pub FirstGreedy : Type 0
  FirstGreedy = FirstOrderGreedy (length held) (answer (timings held)) (priced prices held)

  -- the state after k vertices from the first order
  abbrev pub Reached : ℕ → State → Type 0
  Reached k s = (first : Assignment) × (first_over ≡ Some first) × (s ≡ steps_over k (begun (length held) first))

  abbrev pub BestOver : Assignment → Type 0
  BestOver a = BestOrder (length held) (answer (timings held)) (priced prices held) a
