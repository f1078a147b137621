use Rattle.std.proofs.Common.{◌%◌, ◌<◌, sym, ap, ◌∙◌}
use Rattle.std.proofs.ByRecursion.{All-from_get_or}
use Rattle.tables.proofs.Packing.{field_bit}
use Rattle.tables.proofs.bits.bit.Goals as goal

pub returns : goal.returns
returns c =
    let under = All-from_get_or (λ b. b < 256) c.args.bytes.now 0 (λ i _. (c.type_inv.bytes i).fits) in
    ap (λ n. n % 2) c.from.ensures ∙ sym (field_bit c.args.bytes.now c.args.at under c.requires)
