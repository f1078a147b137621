use Rattle.std.proofs.Common.{◌≡◌, [], ◌∷◌, ◌++◌, take, ap, ◌∙◌, append_assoc, arith, length-take}
use Rattle.std.proofs.lemmas.List.{take_more, take_all}
use Rattle.tasks.specs.Lists.{items}
use Rattle.plan.proofs.held.extend.Goals as goal

pub loop-task-preserved : goal.loop-task-preserved
loop-task-preserved c =
    let pushed = c.push.ensures.items (omega (arith, c.requires, c.loop-task.invariant.1, length-take c.loop-task.list.len c.loop-task.list.tasks)) in
    let more = take_more c.args.tasks.now c.loop-task.task-index c.task-item.result c.loop-task-test.true in
    (pushed.1 ∙ rw (c.loop-task.invariant.0, more, ← c.task-item.is) (append_assoc (items c.args.list.now) (take c.loop-task.task-index c.args.tasks.now) (c.task-item.result ∷ [])), omega (arith, pushed.2, c.loop-task.invariant.1))

pub returns : goal.returns
returns c =
    let all : take c.loop-task.task-index c.args.tasks.now ≡ c.args.tasks.now = take_all _ c.args.tasks.now (omega arith) in
    record { items = c.loop-task.invariant.0 ∙ ap (λ ts. items c.args.list.now ++ ts) all; len = omega (arith, c.loop-task.invariant.1) }
