-- What a plan tells in any state.
use Rattle.std.specs.Prelude.{ℕ, not, List, None, Option, Result}
use Rattle.tasks.specs.declared.fault.Fault.{Fault}
use Rattle.tasks.specs.declared.fault.Fault.TheVariants.{Plan}
use Rattle.tasks.specs.declared.fault.PlanFault.TheVariants.{NotHeld, AboveItself}
use Rattle.tasks.specs.declared.task.Candidate.{Candidate}
use Rattle.tasks.specs.Faults.{unless, outcome}
use Rattle.tasks.specs.Sets.{holds}
use Rattle.tables.specs.Tables.{encoded}
use Rattle.law.specs.Held.{has}
use Rattle.law.specs.Meaning.{Meaning, answers}
use Rattle.plan.specs.Ids.{place, all_held, positions}

module _ {V : Type 0} (w : Meaning V) (tasks : List Candidate) where
  -- the test's answer for the task of an id, with exactly the tasks of a set of ids above it: its own id is checked first, then that
  -- it is not in the set, then the other ids
  abbrev pub asked : ℕ → ℕ → Result (Option ℕ) Fault
  asked id ids =
      outcome
      (unless (has id tasks) (Plan NotHeld)
      (unless (not (holds ids id)) (Plan AboveItself)
      (unless (all_held ids tasks) (Plan NotHeld) None)))
      (answers w tasks (place id tasks) (positions ids tasks))

  -- the packed table of the held tasks
  abbrev pub table : List ℕ
  table = encoded w.test_code w.cost_code tasks
