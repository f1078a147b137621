use Rattle.std.proofs.Common.{ℕ, ◌-◌, ◌^◌, ap, ◌∙◌, arith}
use lib.Bits.{bit_and}
use Rattle.std.proofs.lemmas.Nat.{one_shl}
use Rattle.tasks.specs.Sets.{holds}
use Rattle.tasks.proofs.Words.{holds_without}
use Rattle.tasks.proofs.set.TaskSet.without.Goals as goal

pub returns-clause-removed : goal.returns-clause-removed
returns-clause-removed c = λ l j.
    ap (λ (x : ℕ). holds (bit_and c.args.self.word (2 ^ 64 - 1 - x)) j) (one_shl c.args.position 64 l)
    ∙ holds_without c.args.self.word c.args.position j (omega arith) l
