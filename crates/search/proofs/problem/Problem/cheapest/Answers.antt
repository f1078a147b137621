use Rattle.std.proofs.Common.{◌-◌, length, sym, ap, ◌∙◌, ap₂, arith, rules}
use Rattle.tasks.specs.Lists.{items, plains}
use Rattle.tasks.specs.Timing.{timings}
use Rattle.orders.specs.First.{cheaper, cheapest}
use Rattle.search.specs.Model.{priced}
use Rattle.costs.proofs.Folds.{count_plain}
use Rattle.search.proofs.Bridges.{asked}
use Rattle.search.proofs.Picking.{lacking_from, lacking_none, cheapest_skip, cheapest_more, among_either}
use Rattle.search.proofs.problem.Problem.cheapest.Goals as goal

pub loop-position-init : goal.loop-position-init
loop-position-init g c =
    let l = c.args.self.tasks.now in
    let held = plains l in
    let n = length held in
    let answer = g.T.ResponseTest.answer c.args.self.test.now (timings held) in
    let costs = priced (g.C.Cost.prices c.args.self.cost.now) held in
    let slice = c.as_slice-held in
    let size = count_plain (items l) slice.result.now slice.ensures.items in
    let few = slice.ensures.few in
    (tt, λ lower e. sym (ap (cheapest n answer costs lower) (ap (lacking_from n lower) (sym size) ∙ lacking_none n lower)))

pub loop-position-preserved-in-Some : goal.loop-position-preserved-in-Some
loop-position-preserved-in-Some g c =
    let l = c.args.self.tasks.now in
    let held = plains l in
    let n = length held in
    let answer = g.T.ResponseTest.answer c.args.self.test.now (timings held) in
    let costs = priced (g.C.Cost.prices c.args.self.cost.now) held in
    let slice = c.as_slice-held in
    let size = count_plain (items l) slice.result.now slice.ensures.items in
    let few = slice.ensures.few in
    let i = c.loop-position.position in
    let w = c.args.unplaced.word in
    let inv = c.loop-position.invariant in
    let le = c.loop-position.auto.position in
    let answered = c.in-Some.ensures ∙ asked (g.T.ResponseTest.answer c.args.self.test.now) (items l) slice.result.now slice.ensures.items (i - 1) c.without-above.result.word in
    let member = sym c.contains.ensures ∙ c.if-contains.true in (
      among_either n w c.cheaper.result _ c.loop-position.best c.cheaper.ensures.either (record { low = omega arith; member = member; brief = search rules }) inv.0,
      λ lower e.
          c.cheaper.ensures.value ∙ ap₂ (cheaper costs (i - 1)) answered (inv.1 lower e)
          ∙ sym (cheapest_more n answer costs lower w i e c.loop-position-test.true (omega arith) c.without-above.result.word
          (c.without-above.ensures.removed (omega (arith, l.few))) member),
    )

pub loop-position-preserved-in_default : goal.loop-position-preserved-in_default
loop-position-preserved-in_default g c =
    let l = c.args.self.tasks.now in
    let held = plains l in
    let n = length held in
    let answer = g.T.ResponseTest.answer c.args.self.test.now (timings held) in
    let costs = priced (g.C.Cost.prices c.args.self.cost.now) held in
    let slice = c.as_slice-held in
    let size = count_plain (items l) slice.result.now slice.ensures.items in
    let few = slice.ensures.few in
    let i = c.loop-position.position in
    let w = c.args.unplaced.word in
    let inv = c.loop-position.invariant in
    let le = c.loop-position.auto.position in
    let answered = c.in_default.ensures ∙ asked (g.T.ResponseTest.answer c.args.self.test.now) (items l) slice.result.now slice.ensures.items (i - 1) c.without-above.result.word in
    let member = sym c.contains.ensures ∙ c.if-contains.true in (
      inv.0,
      λ lower e.
          inv.1 lower e ∙ ap (λ o. cheaper costs (i - 1) o (cheapest n answer costs lower (lacking_from n lower i))) answered
          ∙ sym (cheapest_more n answer costs lower w i e c.loop-position-test.true (omega arith) c.without-above.result.word
          (c.without-above.ensures.removed (omega (arith, l.few))) member),
    )

pub loop-position-preserved : goal.loop-position-preserved
loop-position-preserved g c =
    let l = c.args.self.tasks.now in
    let held = plains l in
    let n = length held in
    let answer = g.T.ResponseTest.answer c.args.self.test.now (timings held) in
    let costs = priced (g.C.Cost.prices c.args.self.cost.now) held in
    let slice = c.as_slice-held in
    let size = count_plain (items l) slice.result.now slice.ensures.items in
    let few = slice.ensures.few in
    let inv = c.loop-position.invariant in
    let le = c.loop-position.auto.position in (
      inv.0,
      λ lower e.
          inv.1 lower e
          ∙ sym (cheapest_skip n answer costs lower c.args.unplaced.word c.loop-position.position e c.loop-position-test.true (omega arith)
          (sym c.contains.ensures ∙ c.if-contains.false)),
    )
