use Rattle.std.proofs.Common.{refl}
use Rattle.tables.specs.Bits.{bytes_of}
use Rattle.tasks.specs.Numbers.{least, max_below, sum_below}
use Rattle.law.proofs.law.worked_runs.Goals as goal

pub returns : goal.returns
unfolding bytes_of least max_below sum_below
returns c = record { answers = refl; report = refl; no_order = refl; loads = refl }
