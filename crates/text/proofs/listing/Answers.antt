use Rattle.std.proofs.Common.{◌≡◌, ◌+◌, ◌≤◌, length, append_assoc, ap, arith, rules, length-append}
use Rattle.std.specs.Iterator.Adapters.{zip_second}
use Rattle.std.specs.Slice.Iter.{iter_rest}
use Rattle.text.proofs.Texts.{length_level_line, room_for_level, room_for_cost}
use Rattle.text.proofs.listing.Goals as goal

pub push_line-requires : goal.push_line-requires
push_line-requires c =
    let one_left : length (iter_rest (zip_second c.loop-number.number-iterator)) ≡ length (iter_rest (zip_second c.next.new.self)) + 1 = omega (arith, ap length c.in-Some.ensures.steps.1) in
    let few : c.in-Some.number ≤ 16 = omega (arith, c.in-Some.ensures.steps.0.0, c.loop-number.invariant.count) in
    (search rules, room_for_level _ _ _ _ (omega arith) few (omega arith) (omega arith))

pub loop-number-preserved : goal.loop-number-preserved
loop-number-preserved c =
    let one_left : length (iter_rest (zip_second c.loop-number.number-iterator)) ≡ length (iter_rest (zip_second c.next.new.self)) + 1 = omega (arith, ap length c.in-Some.ensures.steps.1) in
    let few : c.in-Some.number ≤ 16 = omega (arith, c.in-Some.ensures.steps.0.0, c.loop-number.invariant.count) in
    record {
      next = c.loop-number.invariant.next;
      ends = c.loop-number.invariant.ends;
      count = omega (arith, c.in-Some.ensures.steps.0.0, c.in-Some.ensures.steps.0.1, c.loop-number.invariant.count);
      lines = rw (c.push_line.ensures, c.from-id.ensures, c.from-response.ensures, c.in-Some.ensures.steps.0.1) (rw append_assoc (rw (c.in-Some.ensures.steps.1, ← c.in-Some.ensures.steps.0.0) at c.loop-number.invariant.lines));
      room = omega (arith, simp length-append at (ap length c.push_line.ensures), length_level_line c.in-Some.number c.from-id.result c.from-response.result few (omega arith) (omega arith));
    }

pub push_line-requires-2 : goal.push_line-requires-2
push_line-requires-2 c =
    (search rules, room_for_cost _ _ _ (omega arith) (omega arith) (omega arith))
