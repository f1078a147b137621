use Rattle.std.proofs.Common.{◌≡◌, ℕ, ◌<◌, ◌≤◌, true, false, is_some}
use Rattle.tasks.specs.Lists.{plains}
use Rattle.tasks.specs.Sets.{holds}
use Rattle.tasks.specs.Timing.{timings}
use Rattle.costs.specs.Folds.{join_below}
use Rattle.search.proofs.Joins.{of_either}
use Rattle.search.proofs.ranking.Ranking.bound.Given as goal

abbrev pub invariant-loop-position : goal.invariant-loop-position
invariant-loop-position g l =
    let p = g.C.Cost.prices l.problem.cost.now in
    let held = plains l.problem.tasks.now in
    let answer = g.T.ResponseTest.answer l.problem.test.now (timings held) in
    let w = l.self.placed.word in
    (p.covered l.sum ≤ l.position)
    × (l.sum ≡ join_below p l.position (of_either p held l.self.times w answer))
    × ((i : ℕ) → i < l.position → holds w i ≡ false → is_some (answer i w) ≡ true)
