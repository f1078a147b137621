use Rattle.std.proofs.Common.{◌≡◌, ◌+◌, ◌-◌, length}
use Rattle.tasks.specs.Lists.{plains}
use Rattle.tasks.specs.Timing.{timings}
use Rattle.orders.specs.Search.{steps, stepped}
use Rattle.search.specs.Model.{state, priced}
use Rattle.search.proofs.search.walk.Walk.advance.Given as goal

abbrev pub invariant-loop-examined : goal.invariant-loop-examined
invariant-loop-examined g l =
    let before = l.initial.self in
    let held = plains before.problem.tasks.now in
    let answer = g.T.ResponseTest.answer before.problem.test.now (timings held) in
    let costs = priced (g.C.Cost.prices before.problem.cost.now) held in
    let first = state before.search.now in
    let s = state l.self.search.now in
    record {
      same_search : l.self.search.ghost_name ≡ before.search.ghost_name;
      same_problem : l.self.problem ≡ before.problem;
      steps : steps (length held) answer costs (l.count - l.examined) s ≡ steps (length held) answer costs l.count first;
      stepped : l.examined + stepped (length held) answer costs (l.count - l.examined) s ≡ stepped (length held) answer costs l.count first;
    }
