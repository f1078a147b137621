-- How good the best order so far is.
use Rattle.std.specs.Prelude.{ℕ, List, Some, None, Option}
use Rattle.tasks.specs.declared.task.Candidate.{Candidate}
use Rattle.law.specs.Meaning.{Meaning}
use Rattle.law.specs.Obey.{Stage, open', searching, finished, cost_of}

-- the two numbers of the cost of the best order so far; none while the plan is open
abbrev pub best_cost : {V : Type 0} → Meaning V → List Candidate → Stage → Option (ℕ × ℕ)
best_cost w tasks open' = None
best_cost w tasks (searching s) = Some (w.prices.numbers (cost_of w tasks s.best))
best_cost w tasks (finished best) = Some (w.prices.numbers (cost_of w tasks best))
