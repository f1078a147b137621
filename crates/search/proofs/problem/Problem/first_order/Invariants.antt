use Rattle.std.proofs.Common.{length}
use Rattle.tasks.specs.Lists.{plains}
use Rattle.tasks.specs.Timing.{timings}
use Rattle.search.specs.Model.{priced}
use Rattle.search.proofs.Lowers.{Filled}
use Rattle.search.proofs.problem.Problem.first_order.Given as goal

abbrev pub invariant-loop-level : goal.invariant-loop-level
invariant-loop-level g l =
    let held = plains l.self.tasks.now in
    Filled (length held) (g.T.ResponseTest.answer l.self.test.now (timings held)) (priced (g.C.Cost.prices l.self.cost.now) held)
    l.level l.order l.times l.unplaced.word
