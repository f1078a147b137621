use Rattle.std.proofs.Common.{◌≡◌, map, ap, ◌∙◌}
use Rattle.std.proofs.lemmas.Result.{err_from_is_err_and}
use Rattle.text.specs.Levels.{numbers}
use Rattle.text.specs.Reports.{report_bytes}
use Rattle.search.specs.Model.{state}
use Rattle.law.specs.Obey.{finished, report}
use Rattle.plan.specs.Model.{model, means, stage}
use Rattle.plan.proofs.Shown.{packed_report, told, told_short}
use Rattle.plan.proofs.plan.Plan.write_report.Goals as goal

pub returns-in_err-bytes : goal.returns-in_err-bytes
returns-in_err-bytes g c =
    let p = c.args.self.now in
    let w = means g.T.Admission g.T.ResponseTest g.C.Cost p in
    let best = (state p.search).best in
    let st : (model p).stage ≡ finished best = ap (λ s. stage s (state p.search)) c.requires in
    let ls = map numbers c.deref.result.now in
    let is : report_bytes ls ≡ report (model p) = packed_report (model p) ls (ap (map numbers) c.deref.ensures.0 ∙ c.best_levels.ensures.value) in
    let e = err_from_is_err_and c.from_residual.result c.from_residual.ensures.1 in
    rw (e.1, e.2) (told_short w p c.args.out.now c.report.new.out (report_bytes ls) best st is c.in_err-bytes.field-0.0 c.in_err-bytes.ensures)

pub returns : goal.returns
returns g c =
    let p = c.args.self.now in
    let w = means g.T.Admission g.T.ResponseTest g.C.Cost p in
    let best = (state p.search).best in
    let st : (model p).stage ≡ finished best = ap (λ s. stage s (state p.search)) c.requires in
    let ls = map numbers c.deref.result.now in
    let is : report_bytes ls ≡ report (model p) = packed_report (model p) ls (ap (map numbers) c.deref.ensures.0 ∙ c.best_levels.ensures.value) in
    told w p c.args.out.now c.report.new.out (report_bytes ls) best st is c.in_ok-bytes.bytes c.best_numbers-first.result c.in_ok-bytes.ensures
    c.best_numbers-first.ensures
