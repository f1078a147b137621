use Rattle.std.proofs.Common.{◌≡◌, ℕ, ◌*◌, List, map, length, take, Result, sym, ap, ◌∙◌, subst₂, arith}
use Rattle.std.proofs.lemmas.List.{length-map, length-take-le, take_all}
use Rattle.tasks.specs.Buffers.{delivered}
use Rattle.tasks.specs.declared.fault.Fault.{Fault}
use Rattle.text.specs.Levels.{numbers}
use Rattle.text.specs.Reports.{report_bytes}
use Rattle.text.proofs.Reports.{length_report}
use Rattle.text.proofs.report.report.Goals as goal

pub unwrap-requires : goal.unwrap-requires
unwrap-requires c =
    let front = take c.loop-level.level-index c.args.levels.now in
    let k : length front ≡ c.loop-level.level-index = length-take-le _ _ (omega arith) in
    c.try_extend_from_slice.ensures.variant.1
    (omega (arith, ap length c.packed.ensures, ap length c.loop-level.invariant, length_report (map numbers front), length-map front numbers))

pub deliver-requires : goal.deliver-requires
deliver-requires c =
    let all : take c.loop-level.level-index c.args.levels.now ≡ c.args.levels.now = take_all c.loop-level.level-index c.args.levels.now (omega arith) in
    let bytes = rw all at c.loop-level.invariant in
    omega (arith, ap length bytes, length_report (map numbers c.args.levels.now), length-map c.args.levels.now numbers, ap length c.deref.ensures.0)

pub returns : goal.returns
returns c =
    let all : take c.loop-level.level-index c.args.levels.now ≡ c.args.levels.now = take_all c.loop-level.level-index c.args.levels.now (omega arith) in
    let bytes = rw all at c.loop-level.invariant in
    let size : length (report_bytes (map numbers c.args.levels.now)) ≡ 4 * length c.args.levels.now = omega (arith, length_report (map numbers c.args.levels.now), length-map c.args.levels.now numbers) in
    subst₂ (λ (n : ℕ) (bs : List ℕ). ◌≡◌ {A = Result ℕ Fault × List ℕ} (c.deliver.result, c.deliver.new.out) (delivered n bs c.args.out.now))
    (sym size) (c.deref.ensures.0 ∙ bytes) c.deliver.ensures
