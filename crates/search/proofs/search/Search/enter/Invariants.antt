use Rattle.std.proofs.Common.{◌≡◌, ◌++◌, map}
use Rattle.search.specs.Ranks.{ranked}
use Rattle.search.specs.Model.{state}
use Rattle.search.proofs.Stacks.{left}
use Rattle.search.proofs.search.Search.enter.Given as goal

abbrev pub invariant-loop-position : goal.invariant-loop-position
invariant-loop-position l =
    (l.self.size ≡ l.initial.self.size)
    × (l.self.best ≡ l.initial.self.best)
    × ((state l.self).active
    ≡ map (λ i. record { ancestors = ranked l.above; task = i }) (left l.above.placed.word l.position l.self.size)
    ++ (state l.initial.self).active)
