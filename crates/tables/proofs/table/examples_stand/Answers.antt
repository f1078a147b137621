use Rattle.std.proofs.Common.{refl}
use Rattle.tables.specs.Bits.{bytes_of}
use Rattle.tables.proofs.table.examples_stand.Goals as goal

pub returns : goal.returns
unfolding bytes_of
returns c = record { header = refl; first = refl; whole = refl; late = refl; still = refl }
