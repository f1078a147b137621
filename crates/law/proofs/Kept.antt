-- Every run keeps the promises.
use Rattle.std.proofs.Common.{ℕ, List, [], refl, inl}
use Rattle.law.specs.declared.command.Command.{Command}
use Rattle.law.specs.Meaning.{Meaning, Lawful}
use Rattle.law.specs.Obey.{opened}
use Rattle.law.specs.Runs.{new, after}
use Rattle.law.specs.Law.{Promises, EveryRunKeepsThePromises}
use Rattle.law.proofs.Holding.{none_held}
use Rattle.law.proofs.Searched.{Reached, reached}
use Rattle.law.proofs.Accepted.{follows, refusals_leave_all}
use Rattle.law.proofs.Advancing.{advances_exactly}
use Rattle.law.proofs.Lasting.{finished_at_bound}
use Rattle.law.proofs.Failing.{no_order}
use Rattle.law.proofs.Cheapest.{cheapest, keeps_its_times}

module _ {V : Type 0} (w : Meaning V) where
  new_reached : Reached w (opened [])
  new_reached = record { sound = none_held w.admitted; sought = inl refl }

  promises : Lawful w → (buffer : List ℕ) (commands : List Command) → Promises w buffer commands
  promises lawful buffer commands =
      let h = reached w (new buffer) commands new_reached in
      record {
        refusals = refusals_leave_all w (after w (new buffer) commands);
        no_order = no_order w lawful (after w (new buffer) commands) h.sound;
        advances = advances_exactly w (after w (new buffer) commands);
        finished = finished_at_bound w (new buffer) commands;
        reports = cheapest w lawful (after w (new buffer) commands).plan h;
        keeps = keeps_its_times w lawful (after w (new buffer) commands).plan h;
        holds = record { follows = follows w (new buffer) commands; sound = h.sound };
      }

pub every_run_keeps_the_promises : (V : Type 0) → EveryRunKeepsThePromises V
every_run_keeps_the_promises V w lawful buffer commands before rest e = promises w lawful buffer before
