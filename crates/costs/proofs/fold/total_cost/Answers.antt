use Rattle.std.proofs.Common.{◌≡◌, ℕ, ◌+◌, [], ◌∷◌, ◌++◌, map, length, get_or, sym, ap, ◌∙◌, length-append, arith, rules}
use Rattle.std.specs.Slice.Iter.{iter_rest}
use Rattle.std.specs.Iterator.Adapters.{zip_first, zip_second}
use Rattle.std.proofs.lemmas.Slice.Zip.{zip_turn}
use Rattle.tasks.specs.Lists.{items}
use Rattle.tasks.specs.Tasks.{plain}
use Rattle.costs.specs.Folds.{join_below, charge}
use Rattle.costs.proofs.Folds.{join_none, join_next, charge_at, later_no_less}
use Rattle.costs.proofs.fold.total_cost.Goals as goal

pub loop-task-init : goal.loop-task-init
loop-task-init g c =
    let p = g.C.Cost.prices c.args.cost.now in
    let laws = g.met.C.Cost.lawful c.args.cost.now in
    let f = λ (i : ℕ). charge p (map plain (items c.args.tasks.now)) i (get_or c.args.times.now i 0) in
    (rw (c.none-sum.ensures, laws.covers_none) (omega arith), c.none-sum.ensures ∙ sym (join_none p f))

pub loop-task-preserved : goal.loop-task-preserved
loop-task-preserved g c =
    let p = g.C.Cost.prices c.args.cost.now in
    let held = items c.args.tasks.now in
    let slice = c.as_slice.result.now in
    let n = length c.loop-task.yielded in
    let first : iter_rest (zip_first c.into_iter-task-iterator.result) ≡ slice = search rules in
    let second : iter_rest (zip_second c.into_iter-task-iterator.result) ≡ c.args.times.now = search rules in
    let turn = zip_turn slice c.args.times.now c.loop-task.yielded c.into_iter-task-iterator.result c.loop-task.task-iterator c.next.new.self c.next.result
    first second c.loop-task.yielded_by (c.in-Some.task, c.in-Some.time) c.in-Some.is c.next.ensures.steps in
    let f = λ (i : ℕ). charge p (map plain held) i (get_or c.args.times.now i 0) in
    let one = charge_at p held slice c.as_slice.ensures.items n c.in-Some.task.now c.in-Some.time.now turn.0 (turn.2 c.in-Some.task.now) in
    let next : length (c.loop-task.yielded ++ (c.in-Some.task, c.in-Some.time) ∷ []) ≡ n + 1 = length-append c.loop-task.yielded _ in (
      omega (arith, next, c.add_task-sum.ensures.covers, c.loop-task.invariant.0),
      c.add_task-sum.ensures.value ∙ ap (p.joined c.loop-task.sum) (one ∙ ap (charge p (map plain held) n) (turn.3 0))
          ∙ ap (λ sum. p.joined sum (f n)) c.loop-task.invariant.1
          ∙ sym (join_next p n f)
          ∙ ap (λ k. join_below p k f) (sym next),
    )

pub returns-clause-least : goal.returns-clause-least
returns-clause-least g c = later_no_less (g.C.Cost.prices c.args.cost.now) (g.met.C.Cost.lawful c.args.cost.now) (map plain (items c.args.tasks.now)) (λ i. get_or c.args.times.now i 0)
