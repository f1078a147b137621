-- What ties a plan's state to its search, and in which state the best order is told.
use Rattle.std.specs.Prelude.{ℕ, Bool, true, Ok, Err, Result, ◌==◌}
use Rattle.tasks.specs.declared.fault.PlanFault.{PlanFault}
use Rattle.tasks.specs.declared.fault.PlanFault.TheVariants as plan
use Rattle.plan.specs.declared.state.State.{State}
use Rattle.plan.specs.declared.state.State.TheVariants.{Open, Searching, Finished}

-- a search that is going on or is finished is one over the held tasks
abbrev pub matched : State → ℕ → ℕ → Bool
matched Open held size = true
matched Searching held size = held == size
matched Finished held size = held == size

-- whether the best order can be told: only once the search is finished
abbrev pub reportable : State → Result (Unit {0}) PlanFault
reportable Open = Err plan.Open
reportable Searching = Err plan.Unfinished
reportable Finished = Ok tt
