use Rattle.std.proofs.Common.{◌-◌, ◌≤◌}
use Rattle.tasks.specs.Timing.{timed}
use Rattle.response.specs.Tests.{Under}
use Rattle.response.proofs.load.settle.Given as goal

abbrev pub invariant-loop-next : goal.invariant-loop-next
invariant-loop-next l = (l.w ≤ 0x0800_0000) × Under (timed l.tasks) l.above.word l.base l.w

abbrev pub decreases-loop-next : goal.decreases-loop-next
decreases-loop-next l = l.limit - l.w
