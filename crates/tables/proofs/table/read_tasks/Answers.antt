use Rattle.std.proofs.Common.{◌≡◌, ◌+◌, [], ◌∷◌, ◌++◌, length, sym, ap, ◌∙◌, arith, length-append}
use Rattle.tasks.specs.Lists.{items}
use Rattle.tables.proofs.Tables.{next_record, turn_passed}
use Rattle.tables.proofs.table.read_tasks.Goals as goal

pub loop-n-preserved : goal.loop-n-preserved
loop-n-preserved g c =
    let l = c.loop-n in
    let steps = c.in-Some.ensures.steps in
    let number : c.in-Some.n ≡ length l.yielded + 1 = steps.0.1.1 ∙ l.invariant.0 in
    let next = next_record c.args.records.now (length l.yielded) c.in-Some.bytes.now c.next.new.self.b.rest.now (sym l.invariant.2 ∙ steps.1) in
    let p = rw (number, next.1) at c.in_ok-task.ensures in
    let pushed = c.push.ensures.items (omega (arith, l.invariant.3, next.0, c.requires)) in
    let turn = turn_passed (g.T.Admission.admitted c.args.test.now) c.args.records.now (length l.yielded) l.floor next.0 l.invariant.4 p.0 c.in_ok-task.task p.1
    (items l.tasks) (items c.push.new.self) pushed.1 c.if-task-floor.false l.invariant.5 in
    let grown : length (l.yielded ++ (c.in-Some.n, c.in-Some.bytes) ∷ []) ≡ length l.yielded + 1 = length-append l.yielded _ in
    rw grown (
      steps.0.1.2 ∙ ap (λ s. s + 1) l.invariant.0,
      steps.0.0 ∙ l.invariant.1,
      next.2,
      omega (arith, ap length pushed.1, length-append (items l.tasks), l.invariant.3),
      turn.0,
      turn.1,
    )
