-- The rules that a task breaks by itself.
use Rattle.std.specs.Prelude.{Bool, cond, ◌||◌, nat_lt, nat_le, ◌==◌, Result, Ok, Err}
use Rattle.second.specs.Times.{no_time}
use Rattle.second.specs.declared.reply.Reason.{Reason}
use Rattle.second.specs.declared.reply.Reason.TheVariants.{OutOfRange, TooLittleTime, SectionTooLong, NotForTest}
use Rattle.second.specs.declared.table.Row.{Row}
use Rattle.second.specs.declared.table.Test.{Test}
use Rattle.second.specs.declared.table.Test.TheVariants.{OneJob, Window}

-- what no record can hold
abbrev pub beyond : Row → Bool
beyond row = nat_lt 63 row.id || nat_lt 1 row.tier || nat_lt 65535 row.weight || nat_lt 4095 row.section

abbrev pub admitted : Test → Row → Bool
admitted OneJob row = nat_le row.deadline row.period
admitted Window row = row.section == 0

-- the first rule that is broken
abbrev pub checked : Test → Row → Result (Unit {0}) Reason
checked test row =
    cond (beyond row) (Err OutOfRange)
    (cond (no_time row.execution || no_time row.deadline || no_time row.period) (Err OutOfRange)
    (cond (nat_lt row.period row.execution || nat_lt row.deadline row.execution) (Err TooLittleTime)
    (cond (nat_le row.execution row.section) (Err SectionTooLong)
    (cond (admitted test row) (Ok tt) (Err NotForTest)))))
