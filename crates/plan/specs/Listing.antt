-- The listing of a finished plan.
use Rattle.std.specs.Prelude.{ℕ, not, List, map, Some, None, Err, Option, Result}
use Rattle.tasks.specs.declared.fault.Fault.{Fault}
use Rattle.tasks.specs.declared.fault.Fault.TheVariants.{Plan}
use Rattle.tasks.specs.declared.fault.PlanFault.TheVariants.{Open, Unfinished}
use Rattle.tasks.specs.Buffers.{delivered}
use Rattle.tasks.specs.Faults.{unless}
use Rattle.text.specs.Texts.{listing_text}
use Rattle.law.specs.Meaning.{Meaning}
use Rattle.law.specs.Obey.{Model, Level, best_levels, best_of, cost_of, is_open, is_finished}

-- the id and the response time of a level
abbrev pub shown : Level → ℕ × ℕ
shown l = (l.id, l.time)

-- the answer and the buffer after it, where a fault comes first
abbrev pub listed_by : Option Fault → List ℕ → List ℕ → Result ℕ Fault × List ℕ
listed_by None text buffer = delivered 512 text buffer
listed_by (Some f) text buffer = (Err f, buffer)

module _ {V : Type 0} (w : Meaning V) (m : Model) where
  -- the levels of the best order, and the two numbers of its cost
  abbrev pub listing : List ℕ
  listing = listing_text (map shown (best_levels m)) (w.prices.numbers (cost_of w m.tasks (best_of m.stage)))

  -- what the listing answers and writes: by the state first, then by the buffer
  abbrev pub listed : List ℕ → Result ℕ Fault × List ℕ
  listed buffer =
      listed_by (unless (not (is_open m.stage)) (Plan Open) (unless (is_finished m.stage) (Plan Unfinished) None)) listing buffer
