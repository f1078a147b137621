-- The worked cases, each by computing its two sides.
use Rattle.std.proofs.Common.{refl}
use Rattle.tasks.specs.Numbers.{least, sum_below, max_below}
use Rattle.response.proofs.Table as response
use Rattle.search.specs.Worked.{Worked}

pub all_worked : Worked
unfolding least sum_below max_below
all_worked = record {
  answers = response.all_worked;
  searches = (refl, (refl, (refl, tt)));
  orders = (refl, (refl, (refl, (refl, (refl, (refl, tt))))));
}
