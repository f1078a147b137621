use Rattle.std.proofs.Common.{◌^◌, ◌<◌, arith}
use Rattle.tables.proofs.Packing.{put_value, put_small}
use Rattle.tables.proofs.bits.BitWriter.put.Goals as goal

pub invariant_of-result : goal.invariant_of-result
invariant_of-result c =
    let small : c.from.result < 2 ^ c.args.width = omega (arith, c.requires.value, c.from.ensures) in
    record { few = c.requires.room; small = put_small c.args.self.word c.args.self.bits c.args.width c.from.result c.args.self.small small c.requires.room }

pub returns-clause-word : goal.returns-clause-word
returns-clause-word c =
    let small : c.from.result < 2 ^ c.args.width = omega (arith, c.requires.value, c.from.ensures) in
    let is = put_value c.args.self.word c.args.self.bits c.args.width c.from.result c.args.self.small small c.requires.room in
    omega (arith, is, c.from.ensures)
