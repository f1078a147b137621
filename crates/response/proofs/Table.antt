-- The worked cases, each by computing its two sides.
use Rattle.std.proofs.Common.{refl}
use Rattle.tasks.specs.Numbers.{least, largest, sum_below, max_below}
use Rattle.response.specs.Worked.{Worked}

pub all_worked : Worked
unfolding least largest sum_below max_below
all_worked = (refl, (refl, (refl, (refl, (refl, (refl, (refl, (refl, tt))))))))
