use Rattle.std.proofs.Common.{◌≡◌, ◌∙◌, arith, rules}
use Rattle.std.specs.List.{enumerate_from}
use Rattle.std.proofs.lemmas.Iterator.{YieldsList-from_slice}
use Rattle.std.proofs.lemmas.Iterator.Consumers.{YieldsList-from_enumerate, fold_from_yields_List}
use Rattle.tasks.specs.declared.task.Task.{Task}
use borrow.Author.Tests.{tests}
use Rattle.response.proofs.Blocking.{grown, not_lower, longest, longest_short, longest_is_blocking}
use Rattle.response.proofs.one_job.longest_below.Goals as goal

-- what the fold gives
folded : (c : goal.After-fold) → c.fold.result ≡ longest c.args.position c.args.above.word 0 (enumerate_from 0 c.args.tasks.now)
folded c =
    fold_from_yields_List _ (grown (not_lower c.args.position c.args.above.word) (λ (t : Task). t.section)) 0 c.fold.result c.fold.ensures.ran
    (YieldsList-from_enumerate (YieldsList-from_slice c.args.tasks.now (cc)) (cc))
    (λ a x b q k. search (rules, tests))

pub returns : goal.returns
returns c = record {
  exact = folded c ∙ longest_is_blocking c.args.tasks.now c.args.position c.args.above.word;
  short = omega (arith, folded c, longest_short c.args.position c.args.above.word 0 (enumerate_from 0 c.args.tasks.now) (omega arith));
}
