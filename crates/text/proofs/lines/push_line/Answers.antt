use Rattle.std.proofs.Common.{◌≡◌, ℕ, List, [], length, drop, ap, ◌∙◌, append_assoc, append-nil, arith, rules, length-append, Bor}
use Rattle.std.proofs.lemmas.List.{drop_more, drop_all}
use Rattle.text.specs.Lines.{line}
use Rattle.text.proofs.lines.push_line.Goals as goal

-- what an element past the end reads as
abbrev absent : Bor (List ℕ) × ℕ
absent = (record { ref_ptr = (0, 0); now = [] }, 0)

pub push_str-requires : goal.push_str-requires
unfolding line
push_str-requires g c =
    let next = rw (drop_more c.args.parts.now c.loop-label.label-index absent c.loop-label-test.true) at c.loop-label.invariant in
    (search rules, omega (arith, simp length-append at c.requires, simp length-append at (ap length next)))

pub push_str-requires-in-loop-label : goal.push_str-requires-in-loop-label
unfolding line
push_str-requires-in-loop-label g c =
    let next = rw (drop_more c.args.parts.now c.loop-label.label-index absent c.loop-label-test.true) at c.loop-label.invariant in
    (search rules, omega (arith, simp length-append at c.requires, ap length c.format.ensures.text, simp length-append at (ap length next)))

pub loop-label-preserved : goal.loop-label-preserved
loop-label-preserved g c =
    let next = rw (drop_more c.args.parts.now c.loop-label.label-index absent c.loop-label-test.true) at c.loop-label.invariant in
    rw (c.push_str-in-loop-label.ensures.bytes, c.push_str.ensures.bytes, c.format.ensures.text) (simp append_assoc (simp append_assoc at next))

pub push_str-requires-2 : goal.push_str-requires-2
unfolding line
push_str-requires-2 g c =
    let none : drop c.loop-label.label-index c.args.parts.now ≡ [] = drop_all c.loop-label.label-index c.args.parts.now (omega arith) in
    let text = rw (none, append-nil) at c.loop-label.invariant in
    (search rules, omega (arith, simp length-append at c.requires, simp length-append at (ap length text)))

pub returns : goal.returns
unfolding line
returns g c =
    let none : drop c.loop-label.label-index c.args.parts.now ≡ [] = drop_all c.loop-label.label-index c.args.parts.now (omega arith) in
    let text = rw (none, append-nil) at c.loop-label.invariant in
    c.push_str-2.ensures.bytes ∙ rw text (simp append_assoc)
