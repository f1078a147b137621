use Rattle.std.proofs.Common.{◌≡◌, ℕ, ◌+◌, [], ◌∷◌, ◌++◌, map, length, get_or, Some, None, sym, ap, ◌∙◌, length-append, arith, rules}
use Rattle.std.specs.Slice.Iter.{iter_rest}
use Rattle.std.specs.Iterator.Adapters.{zip_first, zip_second}
use Rattle.std.proofs.lemmas.Slice.Zip.{zip_turn}
use Rattle.tasks.specs.Lists.{items}
use Rattle.tasks.specs.Tasks.{plain}
use Rattle.costs.specs.Folds.{join_all_below, charge, charge_if_timed}
use Rattle.costs.proofs.Folds.{join_all_none, join_all_next, join_all_missing, charge_at, count_plain}
use Rattle.costs.proofs.fold.total_if_timed.Goals as goal

pub loop-task-init : goal.loop-task-init
loop-task-init g c =
    let p = g.C.Cost.prices c.args.cost.now in
    let laws = g.met.C.Cost.lawful c.args.cost.now in
    let f = λ (i : ℕ). charge_if_timed p (map plain (items c.args.tasks.now)) i (get_or c.args.times.now i None) in
    (rw (c.none-sum.ensures, laws.covers_none) (omega arith), join_all_none p f ∙ ap Some (sym c.none-sum.ensures))

pub loop-task-preserved : goal.loop-task-preserved
loop-task-preserved g c =
    let p = g.C.Cost.prices c.args.cost.now in
    let held = items c.args.tasks.now in
    let slice = c.as_slice.result.now in
    let n = length c.loop-task.yielded in
    let time = c.in_ok-time.field-0 in
    let first : iter_rest (zip_first c.into_iter-task-iterator.result) ≡ slice = search rules in
    let second : iter_rest (zip_second c.into_iter-task-iterator.result) ≡ c.args.times.now = search rules in
    let turn = zip_turn slice c.args.times.now c.loop-task.yielded c.into_iter-task-iterator.result c.loop-task.task-iterator c.next.new.self c.next.result
    first second c.loop-task.yielded_by (c.in-Some.task, c.in-Some.time) c.in-Some.is c.next.ensures.steps in
    let f = λ (i : ℕ). charge_if_timed p (map plain held) i (get_or c.args.times.now i None) in
    let one = charge_at p held slice c.as_slice.ensures.items n c.in-Some.task.now time turn.0 (turn.2 c.in-Some.task.now) in
    let next : length (c.loop-task.yielded ++ (c.in-Some.task, c.in-Some.time) ∷ []) ≡ n + 1 = length-append c.loop-task.yielded _ in (
      omega (arith, next, c.add_task-sum.ensures.covers, c.loop-task.invariant.0),
      ap (λ k. join_all_below p k f) next
          ∙ join_all_next p n f c.loop-task.sum (charge p (map plain held) n time) c.loop-task.invariant.1
          (ap (charge_if_timed p (map plain held) n) (sym (turn.3 None) ∙ c.in_ok-time.was))
          ∙ ap Some (ap (p.joined c.loop-task.sum) (sym one) ∙ sym c.add_task-sum.ensures.value),
    )

pub returns-in_err-time : goal.returns-in_err-time
returns-in_err-time g c =
    let p = g.C.Cost.prices c.args.cost.now in
    let held = items c.args.tasks.now in
    let slice = c.as_slice.result.now in
    let n = length c.loop-task.yielded in
    let first : iter_rest (zip_first c.into_iter-task-iterator.result) ≡ slice = search rules in
    let second : iter_rest (zip_second c.into_iter-task-iterator.result) ≡ c.args.times.now = search rules in
    let turn = zip_turn slice c.args.times.now c.loop-task.yielded c.into_iter-task-iterator.result c.loop-task.task-iterator c.next.new.self c.next.result
    first second c.loop-task.yielded_by (c.in-Some.task, c.in-Some.time) c.in-Some.is c.next.ensures.steps in
    let f = λ (i : ℕ). charge_if_timed p (map plain held) i (get_or c.args.times.now i None) in
    let count = count_plain held slice c.as_slice.ensures.items in
    c.from_residual.ensures
    ∙ sym (join_all_missing p n (length (map plain held)) f (omega (arith, turn.0, count)) (ap (charge_if_timed p (map plain held) n) (sym (turn.3 None) ∙ c.in_err-time.was)))
