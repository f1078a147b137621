use Rattle.std.proofs.Common.{◌≤◌, length, arith, rules}
use Rattle.tasks.specs.Lists.{plains}
use Rattle.tasks.specs.Timing.{timings}
use Rattle.search.specs.Model.{state, priced}
use Rattle.plan.proofs.Searches.{stepped_few}
use Rattle.plan.proofs.plan.Plan.examine.Goals as goal

pub overflow_cast-result : goal.overflow_cast-result
overflow_cast-result g c =
    let p = c.args.self.now in
    let cs = plains p.tasks in
    let few = stepped_few (length cs) (g.T.ResponseTest.answer p.test (timings cs)) (priced (g.C.Cost.prices p.cost) cs) c.from.result (state p.search) in
    let small : c.advance-progress.result.count ≤ 1000000 = omega (arith, few, c.from.ensures, c.advance-progress.ensures.examined) in
    search rules
