use Rattle.std.proofs.Common.{arith, rules}
use Rattle.text.proofs.Texts.{room_for_refusal}
use Rattle.text.proofs.refusal_line.Goals as goal

pub push_line-requires : goal.push_line-requires
push_line-requires c = (search rules, room_for_refusal _ _ _ c.new-text.ensures (omega arith) (omega arith))
