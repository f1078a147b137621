use Rattle.std.proofs.Common.{rules}
use Rattle.tasks.specs.Lists.{items, plains}
use Rattle.search.specs.Model.{state}
use Rattle.search.proofs.Reaches.{reached_more, reached_ends, reached_best}
use Rattle.search.proofs.Bridges.{held_of}
use Rattle.search.proofs.search.Search.advance.Goals as goal

pub returns-clause-reached : goal.returns-clause-reached
returns-clause-reached g c k =
    let problem = c.args.problem in
    reached_more (g.T.ResponseTest.answer problem.test.now) (g.C.Cost.prices problem.cost.now) (plains problem.tasks.now) k c.args.count (state c.args.self.now) _ (search rules)

pub returns-clause-ends : goal.returns-clause-ends
returns-clause-ends g c k r =
    let problem = c.args.problem in
    reached_ends (g.T.ResponseTest.answer problem.test.now) (g.C.Cost.prices problem.cost.now) (plains problem.tasks.now) k _ r _ (search rules)

pub returns-clause-best : goal.returns-clause-best
returns-clause-best g c k r all =
    let problem = c.args.problem in
    let admitted = g.T.Admission.admitted problem.test.now in
    reached_best (g.T.ResponseTest.answer problem.test.now) (g.C.Cost.prices problem.cost.now) (plains problem.tasks.now) k _ r
    admitted (g.met.T.ResponseTest.monotone problem.test.now) (g.met.C.Cost.lawful problem.cost.now) (held_of (items problem.tasks.now) admitted all) _ (search rules)
