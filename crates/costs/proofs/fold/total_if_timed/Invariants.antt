use Rattle.std.proofs.Common.{◌≡◌, ◌≤◌, length, get_or, Some, None}
use Rattle.tasks.specs.Lists.{plains}
use Rattle.costs.specs.Folds.{join_all_below, charge_if_timed}
use Rattle.costs.proofs.fold.total_if_timed.Given as goal

abbrev pub invariant-loop-task : goal.invariant-loop-task
invariant-loop-task g l =
    let p = g.C.Cost.prices l.cost in
    (p.covered l.sum ≤ length l.yielded)
    × (join_all_below p (length l.yielded) (λ i. charge_if_timed p (plains l.tasks) i (get_or l.times i None)) ≡ Some l.sum)
