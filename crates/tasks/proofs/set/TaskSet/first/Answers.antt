use Rattle.std.proofs.Common.{ℕ, ◌-◌, ap, ◌∙◌}
use Rattle.std.proofs.lemmas.Nat.{one_shl}
use Rattle.std.proofs.lemmas.Bool.{lt-ltb}
use Rattle.tasks.specs.Sets.{holds}
use Rattle.tasks.proofs.Words.{holds_first}
use Rattle.tasks.proofs.set.TaskSet.first.Goals as goal

pub returns-then-count-lt64-clause-below : goal.returns-then-count-lt64-clause-below
returns-then-count-lt64-clause-below c = λ l j. ap (λ (x : ℕ). holds (x - 1) j) (one_shl c.args.count 64 l) ∙ holds_first c.args.count j

pub returns-else-count-lt64-clause-all : goal.returns-else-count-lt64-clause-all
returns-else-count-lt64-clause-all c = λ past j l. holds_first 64 j ∙ lt-ltb j 64 l
