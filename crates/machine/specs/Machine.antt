-- The tick machine: one processor, which runs at most one job in each tick.
use Rattle.std.specs.Prelude.{ℕ, zero, suc, ◌-◌, Bool, true, false, cond, ◌&&◌, List, [], ◌∷◌, length, replicate, Some, None, Option, nat_le, nat_lt, slice_index, slice_set}
use Rattle.tasks.specs.declared.task.Timing.{Timing}
use Rattle.tasks.specs.Timing.{at}
use Rattle.machine.specs.Jobs.{Job, jobs_at}

-- what the machine remembers from tick to tick
pub record State : Type 0 where
  -- for each level, the ticks that its jobs have run together
  pub ran : List ℕ
  -- the level that ran last, if one has run
  pub last : Option ℕ

abbrev pub ran_at : State → ℕ → ℕ
ran_at s level = slice_index s.ran level

-- Jobs of one task run in release order. So the ticks that they have run together tell which of them is in hand, the
-- first that has not run all it needs, and how far it is.

-- the ticks that the job in hand has run
unfoldable pub progress : List Job → ℕ → ℕ
progress [] ran = 0
progress (job ∷ jobs) ran = cond (nat_lt ran job.need) ran (progress jobs (ran - job.need))

-- the job in hand has been released
unfoldable pub pending : List Job → ℕ → ℕ → Bool
pending [] ran now = false
pending (job ∷ jobs) ran now = cond (nat_lt ran job.need) (nat_le job.release now) (pending jobs (ran - job.need) now)

-- the first of the `count` numbers from `from` on that passes the test, or none
unfoldable pub first : (ℕ → Bool) → ℕ → ℕ → Option ℕ
first test from zero = None
first test from (suc count) = elim (test from) [ true ↦ Some from | false ↦ first test (suc from) count ]

-- before tick 0 nothing has run
abbrev pub start : List Timing → State
start tasks = record { ran = replicate (length tasks) 0; last = None }

-- the state after a tick in which a level runs, or none
abbrev pub run : State → Option ℕ → State
run s None = s
run s (Some level) = record { ran = slice_set s.ran level (suc (ran_at s level)); last = Some level }

module _ (tasks : List Timing) (workload : List (List Job)) where
  -- the level's job in hand has begun, and has run for fewer ticks than its section
  abbrev pub in_section : State → ℕ → Bool
  in_section s level =
      let p : ℕ = progress (jobs_at workload level) (ran_at s level) in
      nat_lt 0 p && nat_lt p (at tasks level).section

  -- a job that ran last and is still in its section runs again
  abbrev pub held : State → Option ℕ
  held s = elim s.last [ None ↦ None | Some level ↦ elim (in_section s level) [ true ↦ Some level | false ↦ None ] ]

  -- otherwise the highest level with a pending job runs, if there is one
  abbrev pub highest : ℕ → State → Option ℕ
  highest now s = first (λ level. pending (jobs_at workload level) (ran_at s level) now) 0 (length tasks)

  abbrev pub chosen : ℕ → State → Option ℕ
  chosen now s = elim (held s) [ Some level ↦ Some level | None ↦ highest now s ]

  -- the tick `now`
  abbrev pub step : ℕ → State → State
  step now s = run s (chosen now s)

  -- the state before a tick
  unfoldable pub state_at : ℕ → State
  state_at zero = start tasks
  state_at (suc now) = step now (state_at now)
