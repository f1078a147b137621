use Rattle.std.proofs.Common.{map, ap, ◌∙◌}
use Rattle.std.specs.List.{remove}
use Rattle.tasks.specs.Tasks.{plain}
use Rattle.plan.proofs.Edits.{left_out}
use Rattle.plan.proofs.held.remove_task.Goals as goal

pub returns : goal.returns
returns c =
    left_out c.as_slice-tasks.result.now c.args.at _ _ _ c.new-without.ensures.items c.extend.ensures.items c.extend-2.ensures.items
    ∙ ap (λ ts. remove (map plain ts) c.args.at) c.as_slice-tasks.ensures.items
