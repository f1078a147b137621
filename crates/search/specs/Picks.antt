-- What a pick stands for.
use Rattle.std.specs.Prelude.{◌≡◌, ℕ, ◌<◌, ◌≤◌, true}
use Rattle.tasks.specs.Sets.{holds}
use Rattle.orders.specs.First.{Choice}
use Rattle.search.specs.declared.pick.Pick.{Pick}

abbrev pub chosen : Pick → Choice
chosen p = record { task = p.position; time = p.time }

-- one of n tasks, and a member of the set w, with a time that fits
pub record Among (n w : ℕ) (p : Pick) : Type 0 where
  pub low : p.position < n
  pub member : holds w p.position ≡ true
  pub brief : p.time ≤ 4294967295
