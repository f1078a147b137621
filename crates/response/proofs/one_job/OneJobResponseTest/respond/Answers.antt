use Rattle.std.proofs.Common.{ℕ, ◌+◌, sym, ap, ◌∙◌}
use Rattle.tasks.specs.declared.task.Timing.{Timing}
use Rattle.tasks.specs.Timing.{timed}
use Rattle.response.specs.Tests.{settled, blocking}
use Rattle.response.proofs.Demand.{at_timed}
use Rattle.response.proofs.one_job.OneJobResponseTest.respond.Goals as goal

pub returns : goal.returns
returns c =
    let ts = timed c.args.tasks.now in
    let h = c.args.above.word in
    let t = c.index-tasks-position.result in
    c.settle.ensures
    ∙ ap (λ (b : ℕ). settled ts h (t.execution + b) t.deadline) c.longest_below.ensures.exact
    ∙ ap (λ (s : Timing). settled ts h (s.execution + blocking ts c.args.position h) s.deadline)
    (sym (at_timed c.args.tasks.now c.args.position t c.requires c.index-tasks-position.is))
