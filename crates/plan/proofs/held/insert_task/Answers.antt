use Rattle.std.proofs.Common.{◌-◌, length, map, ap, ◌∙◌, arith, length-take}
use Rattle.tasks.specs.Tasks.{plain}
use Rattle.law.specs.Held.{inserted}
use Rattle.plan.proofs.Edits.{put_between}
use Rattle.plan.proofs.held.insert_task.Goals as goal

pub returns : goal.returns
returns c =
    let held = c.as_slice-tasks.result.now in
    let room = c.push.ensures.items (omega (arith, c.requires, c.extend.ensures.len, c.new-with.ensures.len, c.as_slice-tasks.ensures.len, c.rank-at.ensures.bound, length-take (c.rank-at.result - 0) c.as_slice-tasks.result.now, length-take c.extend.new.list.len c.extend.new.list.tasks, ap length c.as_slice-tasks.ensures.items)) in
    put_between held c.args.task c.rank-at.result _ _ _ _
    c.new-with.ensures.items c.extend.ensures.items room.1 c.extend-2.ensures.items c.rank-at.ensures.value
    ∙ ap (λ ts. inserted (plain c.args.task) (map plain ts)) c.as_slice-tasks.ensures.items
