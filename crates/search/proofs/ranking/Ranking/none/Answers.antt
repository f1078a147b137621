use Rattle.std.proofs.Common.{refl, arith}
use Rattle.tasks.specs.Numbers.{sum_below}
use Rattle.tasks.specs.Sets.{members}
use Rattle.search.proofs.Rankings.{zeros}
use Rattle.search.proofs.ranking.Ranking.none.Goals as goal

pub invariant_of-result : goal.invariant_of-result
unfolding members sum_below
invariant_of-result c = record { once = λ i. omega arith; among = λ i h. refl; marked = refl; brief = zeros }
