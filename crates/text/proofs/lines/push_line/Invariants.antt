use Rattle.std.proofs.Common.{◌≡◌, ◌++◌, drop}
use Rattle.text.specs.Lines.{pieces, plain}
use Rattle.text.proofs.lines.push_line.Given as goal

-- the text with the pieces that are left is the text before with all pieces
abbrev pub invariant-loop-label : goal.invariant-loop-label
invariant-loop-label g l = l.text.bytes ++ pieces (plain (drop l.label-index l.parts)) ≡ l.initial.text.bytes ++ pieces (plain l.parts)
