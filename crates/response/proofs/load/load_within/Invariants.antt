use Rattle.std.proofs.Common.{◌≡◌, ◌+◌}
use Rattle.tasks.specs.Numbers.{sum_below}
use Rattle.tasks.specs.Timing.{timed}
use Rattle.response.specs.Tests.{job_load}
use Rattle.response.proofs.load.load_within.Given as goal

abbrev pub invariant-loop-position : goal.invariant-loop-position
invariant-loop-position l = l.load ≡ l.base + sum_below l.position (job_load (timed l.tasks) l.above.word l.w)
