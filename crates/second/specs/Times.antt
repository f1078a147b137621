-- What no record can hold as a time.
use Rattle.std.specs.Prelude.{ℕ, Bool, ◌||◌, nat_lt, ◌==◌}

abbrev pub no_time : ℕ → Bool
no_time ticks = (ticks == 0) || nat_lt 1048575 ticks
