-- Worked runs of commands on a new plan.
use Rattle.std.specs.Prelude.{◌≡◌, ℕ, true, false, List, [], ◌∷◌, map, Ok, Err, Result}
use Rattle.tasks.specs.declared.fault.Fault.{Fault}
use Rattle.tasks.specs.declared.task.Candidate.{Candidate}
use Rattle.tasks.specs.Faults.{number_of}
use Rattle.response.specs.Tests.{one_job, one_job_admits}
use Rattle.costs.specs.Prices.{sum_prices}
use Rattle.law.specs.declared.command.Command.{Command}
use Rattle.law.specs.declared.command.Command.TheVariants.{Load, Add, Drop, Start, Advance, Stop, Report}
use Rattle.law.specs.declared.command.Outcome.{Outcome}
use Rattle.law.specs.declared.command.Outcome.TheVariants.{Done, Started, Advanced, Reported}
use Rattle.law.specs.Meaning.{Meaning, meaning}
use Rattle.law.specs.Runs.{new, after, events, outcomes}

-- the one-job test and the sum
abbrev pub one_job_sum : Meaning ℕ
one_job_sum =
    meaning 0 one_job_admits one_job 0 sum_prices

-- a task with its deadline at its period
abbrev pub task : ℕ → ℕ → ℕ → ℕ → Candidate
task id weight execution period =
    record { id = id; tier = 0; weight = weight; section = 0; execution = execution; deadline = period; period = period }

-- a refusal by its number
abbrev pub shown : Result Outcome Fault → Result Outcome ℕ
shown (Ok o) = Ok o
shown (Err f) = Err (number_of f)

-- a buffer of thirteen bytes
abbrev pub sevens : List ℕ
sevens = 7 ∷ 7 ∷ 7 ∷ 7 ∷ 7 ∷ 7 ∷ 7 ∷ 7 ∷ 7 ∷ 7 ∷ 7 ∷ 7 ∷ 7 ∷ []

abbrev pub answered : List Command → List (Result Outcome ℕ)
answered commands = map shown (outcomes (events one_job_sum (new sevens) commands))

abbrev pub commands : List Command
commands =
    Report ∷ Start ∷ Add (task 3 10 3 12) ∷ Add (task 1 1 1 4) ∷ Add (task 2 1 2 6) ∷ Add (task 2 1 2 6) ∷ Add (task 64 1 2 6)
    ∷ Drop 5 ∷ Advance 1 ∷ Start ∷ Start ∷ Report ∷ Advance 9 ∷ Advance 1000001 ∷ Advance 5 ∷ Advance 3 ∷ Report ∷ Stop ∷ Stop
    ∷ Drop 1 ∷ []

-- a load of these bytes
abbrev pub load : List ℕ → Command
load bytes = Load (record { ref_ptr = (0, 0); now = bytes })

-- the table of one task, of id 1
abbrev pub table : List ℕ
table = 0x10 ∷ 0x01 ∷ 0x04 ∷ 0x00 ∷ 0x01 ∷ 0x00 ∷ 0x00 ∷ 0x00 ∷ 0x01 ∷ 0x00 ∷ 0x00 ∷ 0x40 ∷ 0x00 ∷ 0x04 ∷ []

pub record Worked : Type 0 where
  -- the first order costs 105; ten vertices later the best costs 104
  pub answers : answered commands
      ≡ Err 13 ∷ Err 15 ∷ Ok Done ∷ Ok Done ∷ Ok Done ∷ Err 9 ∷ Err 5
      ∷ Err 11 ∷ Err 13 ∷ Ok Started ∷ Err 12 ∷ Err 14 ∷ Ok (Advanced 9 false) ∷ Err 17 ∷ Ok (Advanced 1 true) ∷ Ok (Advanced 0 true)
      ∷ Ok (Reported 12 104 0) ∷ Ok Done ∷ Err 13 ∷ Ok Done ∷ []
  -- ids 1, 2, 3 with 1, 3, 10, and the thirteenth byte as it was
  pub report : (after one_job_sum (new sevens) commands).buffer ≡ 4 ∷ 0 ∷ 0 ∷ 1 ∷ 8 ∷ 0 ∷ 0 ∷ 3 ∷ 12 ∷ 0 ∷ 0 ∷ 10 ∷ 7 ∷ []
  -- two tasks that have no order, until one is dropped
  pub no_order : answered (Add (task 1 1 2 3) ∷ Add (task 2 1 2 4) ∷ Start ∷ Drop 2 ∷ Start ∷ [])
      ≡ Ok Done ∷ Ok Done ∷ Err 16 ∷ Ok Done ∷ Ok Started ∷ []
  -- a table replaces all tasks, or none
  pub loads : answered (Add (task 2 1 2 6) ∷ load table ∷ Drop 2 ∷ Add (task 1 1 1 4) ∷ load [] ∷ Drop 1 ∷ load (0x10 ∷ 0x00 ∷ []) ∷ Start ∷ [])
      ≡ Ok Done ∷ Ok Done ∷ Err 11 ∷ Err 9 ∷ Err 1 ∷ Ok Done ∷ Ok Done ∷ Err 15 ∷ []
