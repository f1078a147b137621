use Rattle.std.proofs.Common.{◌≡◌, map, reverse, length, get_or, vec_items, sym, ◌∙◌, subst, ap₂, arith}
use Rattle.tasks.specs.Lists.{items, plains}
use Rattle.tasks.specs.Timing.{timings}
use Rattle.costs.proofs.Folds.{count_plain}
use Rattle.orders.specs.Orders.{Order}
use Rattle.search.specs.Ranks.{ranks, ranked, waiting}
use Rattle.search.specs.Model.{priced}
use Rattle.search.proofs.Joins.{total_is}
use Rattle.search.proofs.Rankings.{last_is_order}
use Rattle.search.proofs.Walks.{last_kept}
use Rattle.search.proofs.search.walk.Walk.settle.Goals as goal

pub invariant_of-self : goal.invariant_of-self
invariant_of-self g c =
    let w = c.args.self.now in
    let s = w.search.now in
    let l = w.problem.tasks.now in
    let n = length (plains l) in
    let size = count_plain (items l) c.as_slice-held.result.now c.as_slice-held.ensures.items in
    let last : length (ranks c.args.here) ≡ n = omega (arith, c.if-level-held.true, c.level.ensures) in
    let order = subst (λ k. Order k (ranks c.args.here)) w.over_held (last_is_order c.args.here n s.size w.over_held c.requires.among last) in
    record { few = s.few; once = order.once; no_other = order.else_none; reserved = s.reserved; sound = s.sound }

pub invariant_of-self-then-not-no_more : goal.invariant_of-self-then-not-no_more
invariant_of-self-then-not-no_more g c =
    let w = c.args.self.now in
    let s = w.search.now in
    let l = w.problem.tasks.now in
    let held = plains l in
    let n = length held in
    let p = g.C.Cost.prices w.problem.cost.now in
    let size = count_plain (items l) c.as_slice-held.result.now c.as_slice-held.ensures.items in
    let last : length (ranks c.args.here) ≡ n = omega (arith, c.if-level-held.true, c.level.ensures) in
    let order = last_is_order c.args.here n s.size w.over_held c.requires.among last in
    record {
      over_held = w.over_held;
      priced = c.total_cost-total.ensures.value ∙ total_is p (g.met.C.Cost.lawful w.problem.cost.now) held (λ i. get_or c.args.here.times i 0) (ranks c.args.here) order;
    }

pub returns-else-not-no_more-clause-state : goal.returns-else-not-no_more-clause-state
returns-else-not-no_more-clause-state g c =
    let w = c.args.self.now in
    let s = w.search.now in
    let l = w.problem.tasks.now in
    let held = plains l in
    let n = length held in
    let p = g.C.Cost.prices w.problem.cost.now in
    let answer = g.T.ResponseTest.answer w.problem.test.now (timings held) in
    let size = count_plain (items l) c.as_slice-held.result.now c.as_slice-held.ensures.items in
    let last : length (ranks c.args.here) ≡ n = omega (arith, c.if-level-held.true, c.level.ensures) in
    let order = last_is_order c.args.here n s.size w.over_held c.requires.among last in
    let total = c.total_cost-total.ensures.value ∙ total_is p (g.met.C.Cost.lawful w.problem.cost.now) held (λ i. get_or c.args.here.times i 0) (ranks c.args.here) order in
    let test = ap₂ p.no_more (sym w.priced) (sym total) ∙ sym c.no_more.ensures in
    sym (last_kept n answer (priced p held) (ranked s.best) (map waiting (reverse (vec_items s.active))) (ranked c.args.here) last (test ∙ c.if-not-no_more.false))
