use Rattle.std.proofs.Common.{sym, ◌∙◌, arith}
use Rattle.std.proofs.lemmas.Bool.{le-ltb}
use Rattle.tasks.proofs.Words.{contains_high}
use Rattle.tasks.proofs.set.TaskSet.contains.Goals as goal

pub returns-else-position-lt64 : goal.returns-else-position-lt64
returns-else-position-lt64 c =
    le-ltb c.args.position 64 (omega arith)
    ∙ sym (contains_high c.args.self.word c.args.position (omega arith) (omega arith))
