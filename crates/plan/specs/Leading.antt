-- Commands that lead a plan on.
use Rattle.std.specs.Prelude.{◌≡◌, ℕ, List, ◌++◌, Result}
use Rattle.tasks.specs.declared.fault.Fault.{Fault}
use Rattle.law.specs.declared.command.Command.{Command}
use Rattle.law.specs.declared.command.Outcome.{Outcome}
use Rattle.law.specs.Meaning.{Meaning}
use Rattle.law.specs.Obey.{Model, Point}
use Rattle.law.specs.Runs.{new, after, events, outcomes}
use Rattle.law.specs.Law.{PromisesThroughout}

module _ {V : Type 0} (w : Meaning V) (commands : List Command) where
  -- where a history of commands on a new plan leads to the plan before, the history and these commands lead to the plan after, and
  -- all promises hold at every point of that
  pub record Led (before next : Model) (buffer : List ℕ) (history : List Command) : Type 0 where
    pub leads : next ≡ (after w (new buffer) (history ++ commands)).plan
    pub promised : PromisesThroughout w buffer (history ++ commands)

  abbrev pub LedOn : Model → Model → Type 0
  LedOn before next = (buffer : List ℕ) (history : List Command) → before ≡ (after w (new buffer) history).plan
      → Led before next buffer history

  -- commands run from a point on: the answers, and the point after them
  pub record RanFrom (start : Point) (answers : List (Result Outcome Fault)) (end : Point) : Type 0 where
    pub answered : answers ≡ outcomes (events w start commands)
    pub reached : end ≡ after w start commands
