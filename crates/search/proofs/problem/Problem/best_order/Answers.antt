use Rattle.std.proofs.Common.{◌+◌, length, sym, ◌∙◌, subst, arith}
use Rattle.tasks.specs.Lists.{items, plains}
use Rattle.search.specs.Model.{first_over, BestOver}
use Rattle.search.proofs.Bridges.{exact_of}
use Rattle.search.proofs.Reaches.{not_started, was_started}
use Rattle.search.proofs.problem.Problem.best_order.Goals as goal

pub returns-then-is_err : goal.returns-then-is_err
returns-then-is_err g c all =
    let held = plains c.args.self.tasks.now in
    let answer = g.T.ResponseTest.answer c.args.self.test.now in
    let prices = g.C.Cost.prices c.args.self.cost.now in
    (exact_of (g.T.Admission.admitted c.args.self.test.now) answer (g.met.T.ResponseTest.monotone c.args.self.test.now) prices (items c.args.self.tasks.now) all).none_if
    (not_started (first_over answer prices held) (length held) c.start.result _ _ (sym c.is_err.ensures.value ∙ c.if-is_err.true) c.start.ensures.started).no_first

pub returns : goal.returns
returns g c all =
    let held = plains c.args.self.tasks.now in
    let answer = g.T.ResponseTest.answer c.args.self.test.now in
    let prices = g.C.Cost.prices c.args.self.cost.now in
    let from = was_started (first_over answer prices held) (length held) c.start.result _ _ (sym c.is_err.ensures.value ∙ c.if-is_err.false) c.start.ensures.started in
    let count = c.vertex_bound.result in
    let walked = c.advance.ensures in
    let reached = walked.reached 0 (from.first, from.is_first, from.is_begun) in
    let done = walked.ends (0 + count) reached (omega (arith, c.vertex_bound.ensures)) in
    subst (BestOver answer prices held) (sym c.best.ensures) (walked.best (0 + count) reached all done)
