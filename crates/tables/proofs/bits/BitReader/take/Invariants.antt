use Rattle.std.proofs.Common.{◌≡◌, ◌-◌}
use Rattle.tables.specs.Bits.{field}
use Rattle.tables.proofs.bits.BitReader.take.Given as goal

abbrev pub invariant-loop-place : goal.invariant-loop-place
invariant-loop-place l = l.value ≡ field l.self.bytes.now l.self.at (l.place - l.self.at)
