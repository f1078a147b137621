use Rattle.tasks.specs.Timing.{timed}
use Rattle.response.proofs.Jobs.{SoFar}
use Rattle.response.proofs.window.WindowResponseTest.respond.Given as goal

abbrev pub invariant-loop-job : goal.invariant-loop-job
invariant-loop-job l = SoFar (timed l.tasks) l.position l.above.word l.job l.worst l.release l.end
