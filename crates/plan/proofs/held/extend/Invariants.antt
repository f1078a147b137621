use Rattle.std.proofs.Common.{◌≡◌, ◌+◌, ◌++◌, take}
use Rattle.tasks.specs.Lists.{items}
use Rattle.plan.proofs.held.extend.Given as goal

abbrev pub invariant-loop-task : goal.invariant-loop-task
invariant-loop-task l =
    (items l.list ≡ items l.initial.list ++ take l.task-index l.tasks)
    × (l.list.len ≡ l.initial.list.len + l.task-index)
