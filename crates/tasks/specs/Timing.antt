-- The numbers of the held tasks that a response test may read.
use Rattle.std.specs.Prelude.{◌≡◌, ℕ, ◌<◌, ◌≤◌, Bool, true, List, map, length, slice_index_or}
use Rattle.tasks.specs.declared.task.Candidate.{Candidate}
use Rattle.tasks.specs.declared.task.Task.{Task}
use Rattle.tasks.specs.declared.task.Timing.{Timing}
use Rattle.tasks.specs.Tasks.{plain, timing_of}

abbrev pub timings : List Candidate → List Timing
timings cs = map timing_of cs

-- the timings of tasks that exist
abbrev pub timed : List Task → List Timing
timed tasks = timings (map plain tasks)

-- the timing at a position; past the end, one that no law speaks of
abbrev pub at : List Timing → ℕ → Timing
at ts i = slice_index_or ts i (record { execution = 1; deadline = 1; period = 1; section = 0 })

-- what holds of the timing of every task that exists
pub record Legal (t : Timing) : Type 0 where
  pub runs : 1 ≤ t.execution
  pub meets : t.execution ≤ t.deadline
  pub repeats : t.execution ≤ t.period
  pub opens : t.section < t.execution

-- legal timings, each admitted
abbrev pub Held : (Timing → Bool) → List Timing → Type 0
Held admits ts = (i : ℕ) → i < length ts → Legal (at ts i) × (admits (at ts i) ≡ true)
