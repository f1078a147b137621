use Rattle.std.proofs.Common.{◌≡◌, true, false, length, is_some, Some, sym, ap, ◌∙◌, arith, below_more}
use Rattle.std.proofs.lemmas.Bool.{false≢true}
use Rattle.tasks.specs.Lists.{items, plains}
use Rattle.tasks.specs.Sets.{holds}
use Rattle.tasks.specs.Timing.{timings}
use Rattle.costs.specs.Folds.{charge, join_below}
use Rattle.costs.proofs.Folds.{join_none, join_next, charge_at, count_plain}
use Rattle.search.specs.Ranks.{ranks}
use Rattle.search.proofs.Bridges.{asked}
use Rattle.search.proofs.Joins.{of_either, either_placed, either_free, bound_is, bound_late}
use Rattle.search.proofs.Rankings.{front_below}
use Rattle.search.proofs.ranking.Ranking.bound.Goals as goal
use Rattle.search.proofs.ranking.Ranking.bound.Goals.{then-contains, else-contains+in_ok-time}

pub loop-position-init : goal.loop-position-init
loop-position-init g c =
    let p = g.C.Cost.prices c.args.problem.cost.now in
    let laws = g.met.C.Cost.lawful c.args.problem.cost.now in
    (rw (c.none-sum.ensures, laws.covers_none) (omega arith), c.none-sum.ensures ∙ sym (join_none p _), λ i h. absurd (omega arith))

pub loop-position-preserved : goal.loop-position-preserved
loop-position-preserved g c =
    let p = g.C.Cost.prices c.args.problem.cost.now in
    let l = c.args.problem.tasks.now in
    let held = plains l in
    let answer = g.T.ResponseTest.answer c.args.problem.test.now (timings held) in
    let r = c.args.self.now in
    let x = r.placed.word in
    let slice = c.as_slice-held in
    let i = c.loop-position.position in
    let f = of_either p held r.times x answer in
    let inv = c.loop-position.invariant in
    let read = asked (g.T.ResponseTest.answer c.args.problem.test.now) (items l) slice.result.now slice.ensures.items i x in
    let one = charge_at p (items l) slice.result.now slice.ensures.items i c.index-held-position.result c.if-contains.time c.loop-position-test.true c.index-held-position.is in
    let here : charge p held i c.if-contains.time ≡ f i
    = elim c.if-contains.branch [
      | then-contains w ↦
          ap (charge p held i) w.time-is
          ∙ either_placed p held r.times x answer i (sym c.contains.ensures ∙ w.if-contains.true)
      | else-contains+in_ok-time w ↦
          either_free p held r.times x answer i c.if-contains.time (sym c.contains.ensures ∙ w.if-contains.false)
          (sym (w.in_ok-time.ensures ∙ read) ∙ ap Some (sym w.time-is))
    ] in
    let answered : holds x i ≡ false → is_some (answer i x) ≡ true
    = elim c.if-contains.branch [
      | then-contains w ↦ λ h. absurd (false≢true (sym h ∙ sym c.contains.ensures ∙ w.if-contains.true))
      | else-contains+in_ok-time w ↦ λ h. ap is_some (sym (w.in_ok-time.ensures ∙ read))
    ] in (
      omega (arith, c.add_task-sum.ensures.covers, inv.0),
      c.add_task-sum.ensures.value ∙ ap (p.joined c.loop-position.sum) (one ∙ here)
          ∙ ap (λ sum. p.joined sum (f i)) inv.1 ∙ sym (join_next p i f),
      below_more _ i inv.2 answered,
    )

pub returns-in_err-time : goal.returns-in_err-time
returns-in_err-time g c =
    let p = g.C.Cost.prices c.args.problem.cost.now in
    let laws = g.met.C.Cost.lawful c.args.problem.cost.now in
    let l = c.args.problem.tasks.now in
    let held = plains l in
    let answer = g.T.ResponseTest.answer c.args.problem.test.now (timings held) in
    let r = c.args.self.now in
    let slice = c.as_slice-held in
    let i = c.loop-position.position in
    let size = count_plain (items l) slice.result.now slice.ensures.items in
    let read = asked (g.T.ResponseTest.answer c.args.problem.test.now) (items l) slice.result.now slice.ensures.items i r.placed.word in
    c.from_residual.ensures
    ∙ sym (bound_late p laws held r.times (ranks r) (front_below r (length held) c.requires) r.placed.word r.marked answer
    i (omega (arith, c.loop-position-test.true)) (sym c.contains.ensures ∙ c.if-contains.false)
    (sym (c.in_err-time.ensures ∙ read)))

pub returns : goal.returns
returns g c =
    let p = g.C.Cost.prices c.args.problem.cost.now in
    let laws = g.met.C.Cost.lawful c.args.problem.cost.now in
    let l = c.args.problem.tasks.now in
    let held = plains l in
    let answer = g.T.ResponseTest.answer c.args.problem.test.now (timings held) in
    let r = c.args.self.now in
    let slice = c.as_slice-held in
    let size = count_plain (items l) slice.result.now slice.ensures.items in
    let end : c.loop-position.position ≡ length held = omega arith in
    ap Some (c.loop-position.invariant.1 ∙ ap (λ n. join_below p n (of_either p held r.times r.placed.word answer)) end)
    ∙ bound_is p laws held r.times (ranks r) (front_below r (length held) c.requires) r.placed.word r.marked answer
    (λ i h. c.loop-position.invariant.2 i (omega arith))
