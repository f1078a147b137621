use Rattle.std.proofs.Common.{◌≡◌, ◌+◌, ◌*◌, ◌%◌, ◌^◌, map, get_or, sym, ap, ◌∙◌, add-one, arith}
use native.Mathlib.Omega.{pow_step}
use Rattle.std.proofs.lemmas.Nat.{one_shl}
use Rattle.std.proofs.lemmas.List.{get_or-map}
use Rattle.tasks.specs.Tasks.{plain}
use Rattle.tasks.specs.Sets.{holds}
use Rattle.costs.specs.Folds.{no_task}
use Rattle.plan.proofs.Words.{sum_none, bit_in, bit_out}
use Rattle.plan.proofs.ids.positions_of.Goals as goal
use Rattle.plan.proofs.ids.positions_of.Goals.{then-contains, else-contains}

pub loop-i-init : goal.loop-i-init
loop-i-init c = (sum_none _, omega arith)

pub loop-i-preserved : goal.loop-i-preserved
loop-i-preserved c =
    let i = c.loop-i.i in
    let ts = c.args.tasks.now in
    let ids = c.args.ids.word in
    let bit : (1 * 2 ^ i) % 2 ^ 64 ≡ 2 ^ i = one_shl i 64 (omega arith) in
    let twice : 2 ^ (i + 1) ≡ 2 * 2 ^ i = rw add-one (pow_step 2 i) in
    let task : get_or (map plain ts) i no_task ≡ plain c.index-tasks-i.result
    = get_or-map plain ts i c.index-tasks-i.result no_task c.loop-i-test.true ∙ ap plain (sym c.index-tasks-i.is) in
    let member : holds ids (get_or (map plain ts) i no_task).id ≡ c.contains.result = ap (λ t. holds ids t.id) task ∙ sym (c.contains.ensures ∙ ap (holds ids) c.from.ensures) in
    elim c.if-contains.branch [
      | then-contains w ↦ (
        w.word-is ∙ bit_in ids (map plain ts) i c.loop-i.word _ (member ∙ w.if-contains.true) bit c.loop-i.invariant.0,
        omega (arith, twice, w.word-is, bit, c.loop-i.invariant.1),
      )
      | else-contains w ↦ (
        w.word-is ∙ bit_out ids (map plain ts) i c.loop-i.word (member ∙ w.if-contains.false) c.loop-i.invariant.0,
        omega (arith, twice, w.word-is, c.loop-i.invariant.1),
      )
    ]
