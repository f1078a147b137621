use Rattle.std.proofs.Common.{ℕ, ◌+◌, ◌*◌, Some, sym, ap, ◌∙◌, subst, subst₂, arith}
use Rattle.tasks.specs.declared.task.Timing.{Timing}
use Rattle.tasks.specs.Timing.{timed}
use Rattle.response.specs.Tests.{Under}
use Rattle.response.specs.Demand.{settled_is}
use Rattle.response.proofs.Demand.{timed_length, at_timed, tasks_legal}
use Rattle.response.proofs.Jobs.{SoFar, busy_by, so_far_start, so_far_next, so_far_ends, so_far_late, so_far_open}
use Rattle.response.proofs.window.WindowResponseTest.respond.Goals as goal

pub loop-job-init : goal.loop-job-init
loop-job-init c =
    let tasks = c.args.tasks.now in
    let long = timed_length tasks in
    so_far_start (timed tasks) (tasks_legal tasks) c.args.position (omega arith) c.args.above.word

pub settle-requires-clause-under : goal.settle-requires-clause-under
settle-requires-clause-under c =
    let tasks = c.args.tasks.now in
    let here = at_timed tasks c.args.position c.index-tasks-position.result c.requires c.index-tasks-position.is in
    subst (λ (s : Timing). Under (timed tasks) c.args.above.word (c.loop-job.job * s.execution) (c.loop-job.end + s.execution)) here c.loop-job.invariant.warm

pub returns-in_err-end : goal.returns-in_err-end
returns-in_err-end c =
    let tasks = c.args.tasks.now in
    let i = c.args.position in
    let h = c.args.above.word in
    let j = c.loop-job in
    let long = timed_length tasks in
    let busy-is = busy_by tasks i h j.job j.release c.index-tasks-position.result c.requires c.index-tasks-position.is j.invariant.released in
    c.from_residual.ensures
    ∙ sym (so_far_late (timed tasks) (tasks_legal tasks) i (omega arith) h j.job j.worst j.release j.end j.invariant
    (omega arith) (sym busy-is ∙ sym c.in_err-end.ensures))

pub overflow_sub-end : goal.overflow_sub-end
overflow_sub-end c =
    let tasks = c.args.tasks.now in
    let i = c.args.position in
    let h = c.args.above.word in
    let j = c.loop-job in
    let busy-is = busy_by tasks i h j.job j.release c.index-tasks-position.result c.requires c.index-tasks-position.is j.invariant.released in
    let a = settled_is (timed tasks) (tasks_legal tasks) h _ _ c.in_ok-end.end (sym busy-is ∙ sym c.in_ok-end.ensures) in
    let later = j.invariant.warm.lowest c.in_ok-end.end a.0 a.1 in
    omega arith

pub returns-then-end-release : goal.returns-then-end-release
returns-then-end-release c =
    let tasks = c.args.tasks.now in
    let i = c.args.position in
    let h = c.args.above.word in
    let j = c.loop-job in
    let t = c.index-tasks-position.result in
    let long = timed_length tasks in
    let period = ap (λ (s : Timing). s.period) (at_timed tasks i t c.requires c.index-tasks-position.is) in
    let busy-is = busy_by tasks i h j.job j.release t c.requires c.index-tasks-position.is j.invariant.released in
    ap Some c.max-worst.ensures
    ∙ sym (so_far_ends (timed tasks) (tasks_legal tasks) i (omega arith) h j.job j.worst j.release j.end j.invariant
    c.in_ok-end.end (omega arith) (sym busy-is ∙ sym c.in_ok-end.ensures) (omega (arith, c.if-end-release.true)))

pub loop-job-preserved : goal.loop-job-preserved
loop-job-preserved c =
    let tasks = c.args.tasks.now in
    let i = c.args.position in
    let h = c.args.above.word in
    let j = c.loop-job in
    let t = c.index-tasks-position.result in
    let end = c.in_ok-end.end in
    let long = timed_length tasks in
    let period = ap (λ (s : Timing). s.period) (at_timed tasks i t c.requires c.index-tasks-position.is) in
    let busy-is = busy_by tasks i h j.job j.release t c.requires c.index-tasks-position.is j.invariant.released in
    let within = (settled_is (timed tasks) (tasks_legal tasks) h _ _ end (sym c.in_ok-end.ensures)).2 in
    let next = so_far_next (timed tasks) (tasks_legal tasks) i (omega arith) h j.job j.worst j.release j.end j.invariant
    end (sym busy-is ∙ sym c.in_ok-end.ensures) (omega (arith, within)) (omega arith) (omega (arith, c.if-end-release.false)) in
    subst₂ (λ (w r : ℕ). SoFar (timed tasks) i h (j.job + 1) w r end) (sym c.max-worst.ensures) (ap (λ (x : ℕ). j.release + x) period) next

pub returns : goal.returns
returns c =
    let tasks = c.args.tasks.now in
    let j = c.loop-job in
    let long = timed_length tasks in
    sym (so_far_open (timed tasks) (tasks_legal tasks) c.args.position (omega arith) c.args.above.word
    j.job j.worst j.release j.end j.invariant (omega arith))
