use Rattle.std.proofs.Common.{rules}
use Rattle.std.proofs.lemmas.Fn.{fold_over, fronts}
use Rattle.std.proofs.lemmas.Iterator.{YieldsList-from_slice}
use Rattle.machine.proofs.Places.{IsSetOf, set_of_none, set_of_more}
use Rattle.machine.proofs.level.set_of.Goals as goal

pub returns : goal.returns
returns c =
    fold_over fronts (λ y. y.now) _ (λ ps set. IsSetOf ps set.word) _
    (λ ps set x next f before k. (set_of_more ps x.now set.word next.word before (λ fits j. search rules), search rules))
    c.iter.result c.args.positions.now _ _ (YieldsList-from_slice c.args.positions.now (cc)).runs set_of_none c.fold.ensures.ran
