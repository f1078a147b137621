-- Writing into a buffer that the caller lends.
use Rattle.std.specs.Prelude.{ℕ, cond, List, ◌++◌, length, drop, Ok, Err, Result, nat_lt}
use Rattle.tasks.specs.declared.fault.Fault.{Fault}
use Rattle.tasks.specs.declared.fault.Fault.TheVariants.{Plan}
use Rattle.tasks.specs.declared.fault.PlanFault.TheVariants.{Buffer}

-- what a call answers that writes `bytes` into a buffer of at least `least` bytes, and what the buffer then holds: the count of the
-- bytes, and beyond them what it held; or the fault, and all that it held
abbrev pub delivered : ℕ → List ℕ → List ℕ → Result ℕ Fault × List ℕ
delivered least bytes held =
    cond (nat_lt (length held) least) (Err (Plan Buffer), held) (Ok (length bytes), bytes ++ drop (length bytes) held)
