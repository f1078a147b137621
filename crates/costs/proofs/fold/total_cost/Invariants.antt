use Rattle.std.proofs.Common.{◌≡◌, ◌≤◌, length, get_or}
use Rattle.tasks.specs.Lists.{plains}
use Rattle.costs.specs.Folds.{join_below, charge}
use Rattle.costs.proofs.fold.total_cost.Given as goal

abbrev pub invariant-loop-task : goal.invariant-loop-task
invariant-loop-task g l =
    let p = g.C.Cost.prices l.cost in
    (p.covered l.sum ≤ length l.yielded)
    × (l.sum ≡ join_below p (length l.yielded) (λ i. charge p (plains l.tasks) i (get_or l.times i 0)))
