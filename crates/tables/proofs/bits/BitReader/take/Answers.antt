use Rattle.std.proofs.Common.{◌≡◌, ◌+◌, ◌-◌, arith}
use Rattle.tables.proofs.Packing.{field_more}
use Rattle.tables.proofs.bits.BitReader.take.Goals as goal

pub loop-place-preserved : goal.loop-place-preserved
loop-place-preserved c =
    let bytes = c.args.self.now.bytes.now in
    let at = c.args.self.now.at in
    let width = c.loop-place.place - at in
    let next : c.loop-place.place + 1 - at ≡ width + 1 = omega (arith, c.loop-place.auto.place) in
    let place : at + width ≡ c.loop-place.place = omega (arith, c.loop-place.auto.place) in
    let more = field_more bytes at width (omega (arith, place, c.loop-place-test.true, c.if-end-self.false)) in
    let last = rw place at more in
    rw next (omega (arith, last, c.loop-place.invariant, c.bit.ensures))
