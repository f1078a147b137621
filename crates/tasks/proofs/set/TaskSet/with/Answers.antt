use Rattle.std.proofs.Common.{ℕ, ap, ◌∙◌}
use lib.Bits.{bit_or}
use Rattle.std.proofs.lemmas.Nat.{one_shl}
use Rattle.tasks.specs.Sets.{holds}
use Rattle.tasks.proofs.Words.{holds_with}
use Rattle.tasks.proofs.set.TaskSet.with.Goals as goal

pub returns-clause-added : goal.returns-clause-added
returns-clause-added c = λ l j.
    ap (λ (x : ℕ). holds (bit_or c.args.self.word x) j) (one_shl c.args.position 64 l)
    ∙ holds_with c.args.self.word c.args.position j
