use Rattle.std.proofs.Common.{◌≡◌, ℕ, List, length, IfSome}
use Rattle.std.specs.Option.{option_map}
use Rattle.tasks.specs.Lists.{plains}
use Rattle.tasks.specs.Timing.{timings}
use Rattle.orders.specs.Orders.{word, unplaced}
use Rattle.orders.specs.First.{cheapest}
use Rattle.search.specs.Model.{priced}
use Rattle.search.specs.Picks.{chosen, Among}
use Rattle.search.proofs.Picking.{lacking_from}
use Rattle.search.proofs.problem.Problem.cheapest.Given as goal

abbrev pub invariant-loop-position : goal.invariant-loop-position
invariant-loop-position g l =
    let held = plains l.self.tasks.now in
    let n = length held in
    let answer = g.T.ResponseTest.answer l.self.test.now (timings held) in
    let costs = priced (g.C.Cost.prices l.self.cost.now) held in
    IfSome l.best (Among n l.unplaced.word)
    × ((lower : List ℕ) → word (unplaced n lower) ≡ l.unplaced.word
    → option_map chosen l.best ≡ cheapest n answer costs lower (lacking_from n lower l.position))
