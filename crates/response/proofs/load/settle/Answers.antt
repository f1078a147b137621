use Rattle.std.proofs.Common.{sym, ◌∙◌, subst, arith}
use Rattle.tasks.specs.Timing.{timed}
use Rattle.response.specs.Tests.{Under}
use Rattle.response.proofs.Demand.{tasks_legal, under_next, settled_at, settled_past, up_to_is, up_to_isnt}
use Rattle.response.proofs.load.settle.Goals as goal

pub returns-in_err-next : goal.returns-in_err-next
returns-in_err-next c =
    let tasks = c.args.tasks.now in
    let past = up_to_isnt _ _ (sym c.in_err-next.ensures) in
    c.from_residual.ensures ∙ sym (settled_past (timed tasks) (tasks_legal tasks) c.args.above.word c.args.base c.loop-next.w c.args.limit c.loop-next.invariant.1 past)

pub returns-then-next-w : goal.returns-then-next-w
returns-then-next-w c =
    let tasks = c.args.tasks.now in
    let next = up_to_is _ _ _ (sym c.in_ok-next.ensures) in
    sym (settled_at (timed tasks) (tasks_legal tasks) c.args.above.word c.args.base c.loop-next.w c.args.limit c.loop-next.invariant.1 (omega arith) (omega arith))

pub loop-next-preserved : goal.loop-next-preserved
loop-next-preserved c =
    let tasks = c.args.tasks.now in
    let next = up_to_is _ _ _ (sym c.in_ok-next.ensures) in
    (omega arith, subst (Under (timed tasks) c.args.above.word c.args.base) (sym next.0) (under_next (timed tasks) (tasks_legal tasks) c.args.above.word c.args.base c.loop-next.w c.loop-next.invariant.1))
