use Rattle.std.proofs.Common.{arith}
use Rattle.tasks.proofs.Words.{members_ones}
use Rattle.tasks.proofs.set.TaskSet.len.Goals as goal

pub returns : goal.returns
returns c = members_ones c.args.self.word (omega arith)
