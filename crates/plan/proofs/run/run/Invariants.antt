use Rattle.std.proofs.Common.{◌≡◌, ◌≤◌, length, take, vec_items, vec_len, vec_capacity}
use Rattle.law.specs.Runs.{after, events, outcomes}
use Rattle.plan.specs.Calls.{at}
use Rattle.plan.specs.Model.{means}
use Rattle.plan.proofs.run.run.Given as goal

abbrev pub invariant-loop-command : goal.invariant-loop-command
invariant-loop-command g l =
    let w = means g.T.Admission g.T.ResponseTest g.C.Cost l.initial.plan in
    let start = at l.initial.plan l.initial.out in
    (vec_len l.answers ≡ l.command-index)
    × (length l.commands ≤ vec_capacity l.answers)
    × (vec_items l.answers ≡ outcomes (events w start (take l.command-index l.commands)))
    × (at l.plan l.out ≡ after w start (take l.command-index l.commands))
    × (l.plan.test ≡ l.initial.plan.test)
    × (l.plan.cost ≡ l.initial.plan.cost)
