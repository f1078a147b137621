use Rattle.std.proofs.Common.{[], refl}
use Rattle.law.specs.declared.command.Command.TheVariants.{Advance}
use Rattle.plan.specs.Answers.{progress, advanced}
use Rattle.plan.specs.Model.{means}
use Rattle.plan.proofs.Called.{called_typed}
use Rattle.plan.proofs.plan.Plan.advance.Goals as goal

pub returns-in-Searching : goal.returns-in-Searching
returns-in-Searching g c =
    let p = c.args.self.now in
    called_typed progress (means g.T.Admission g.T.ResponseTest g.C.Cost p) (Advance c.args.count) p c.examine.new.self advanced (λ a. refl) [] c.examine.result
    (c.examine.ensures [])
