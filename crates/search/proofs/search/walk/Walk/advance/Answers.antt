use Rattle.std.proofs.Common.{◌≡◌, ◌-◌, false, [], length, sym, ap, ◌∙◌, arith}
use Rattle.std.proofs.lemmas.Bool.{not-true, not-false}
use Rattle.tasks.specs.Lists.{plains}
use Rattle.tasks.specs.Timing.{timings}
use Rattle.orders.specs.Search.{examine, is_none}
use Rattle.orders.proofs.Runs.{steps_done, stepped_done, none_is}
use Rattle.search.specs.Model.{state, priced, examine_over}
use Rattle.search.proofs.Walks.{steps_next, stepped_next}
use Rattle.search.proofs.search.walk.Walk.advance.Goals as goal

pub loop-examined-preserved : goal.loop-examined-preserved
loop-examined-preserved g c =
    let w = c.args.self.now in
    let held = plains w.problem.tasks.now in
    let n = length held in
    let answer = g.T.ResponseTest.answer w.problem.test.now (timings held) in
    let costs = priced (g.C.Cost.prices w.problem.cost.now) held in
    let inv = c.loop-examined.invariant in
    let s = state c.loop-examined.self.search.now in
    let got = c.examine.ensures in
    let next : state c.examine.new.self.search.now ≡ examine n answer costs s
    = got.state ∙ ap (λ q. examine_over (g.T.ResponseTest.answer q.test.now) (g.C.Cost.prices q.cost.now) (plains q.tasks.now) s) inv.same_problem in
    let some : is_none s.active ≡ false = not-true (is_none s.active) (sym got.some ∙ c.if-not-examine.false) in
    record {
      same_search = got.same_search ∙ inv.same_search;
      same_problem = got.same_problem ∙ inv.same_problem;
      steps = steps_next n answer costs c.args.count c.loop-examined.examined s _ _ c.loop-examined-test.true next inv.steps;
      stepped = stepped_next n answer costs c.args.count c.loop-examined.examined s _ _ c.loop-examined-test.true next some inv.stepped;
    }

pub returns-then-not-examine-clause-state : goal.returns-then-not-examine-clause-state
returns-then-not-examine-clause-state g c =
    let w = c.args.self.now in
    let held = plains w.problem.tasks.now in
    let n = length held in
    let answer = g.T.ResponseTest.answer w.problem.test.now (timings held) in
    let costs = priced (g.C.Cost.prices w.problem.cost.now) held in
    let inv = c.loop-examined.invariant in
    let s = state c.loop-examined.self.search.now in
    let got = c.examine.ensures in
    let none : s.active ≡ [] = none_is s.active (not-false (is_none s.active) (sym got.some ∙ c.if-not-examine.true)) in
    let next : state c.examine.new.self.search.now ≡ examine n answer costs s
    = got.state ∙ ap (λ q. examine_over (g.T.ResponseTest.answer q.test.now) (g.C.Cost.prices q.cost.now) (plains q.tasks.now) s) inv.same_problem in
    let left = c.args.count - c.loop-examined.examined in
    next ∙ steps_done n answer costs 1 s none ∙ sym (steps_done n answer costs left s none) ∙ inv.steps

pub returns-then-not-examine-clause-examined : goal.returns-then-not-examine-clause-examined
returns-then-not-examine-clause-examined g c =
    let w = c.args.self.now in
    let held = plains w.problem.tasks.now in
    let n = length held in
    let answer = g.T.ResponseTest.answer w.problem.test.now (timings held) in
    let costs = priced (g.C.Cost.prices w.problem.cost.now) held in
    let s = state c.loop-examined.self.search.now in
    let none : s.active ≡ [] = none_is s.active (not-false (is_none s.active) (sym c.examine.ensures.some ∙ c.if-not-examine.true)) in
    omega (arith, c.loop-examined.invariant.stepped, stepped_done n answer costs (c.args.count - c.loop-examined.examined) s none)
