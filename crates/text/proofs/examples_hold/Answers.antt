use Rattle.std.proofs.Common.{refl}
use Rattle.std.specs.Fmt.{digits}
use Rattle.tables.specs.Bits.{bytes_of}
use Rattle.text.specs.Lines.{line}
use Rattle.text.proofs.examples_hold.Goals as goal

pub returns : goal.returns
unfolding digits line bytes_of
returns c = record { three_levels = refl; repeated_id = refl; no_record = refl; packed_levels = refl }
