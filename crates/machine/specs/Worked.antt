-- Worked runs of the tick machine, in orders that pass.
use Rattle.std.specs.Prelude.{◌≡◌, ℕ, zero, suc, ◌+◌, Bool, List, [], ◌∷◌, length}
use Rattle.std.specs.List.{AllByRecursion}
use Rattle.tasks.specs.declared.task.Timing.{Timing}
use Rattle.tasks.specs.Timing.{Held}
use Rattle.response.specs.Tests.{Answers, one_job, one_job_admits, window, window_admits}
use Rattle.orders.specs.Orders.{Assignment, Passes}
use Rattle.machine.specs.Jobs.{Job, jobs_at, WorkloadOf}
use Rattle.machine.specs.Claims.{levels, release_of, Ends}

pub record Run : Type 0 where
  pub admits : Timing → Bool
  pub answer : Answers
  pub held : List Timing
  pub assigned : Assignment
  pub workload : List (List Job)
  -- a job of a level, the tick that it ends with, and the ticks that it takes
  pub level : ℕ
  pub job : ℕ
  pub tick : ℕ
  pub taken : ℕ

pub record Right (run : Run) : Type 0 where
  pub holds : Held run.admits run.held
  pub passes : Passes (length run.held) (run.answer run.held) run.assigned
  pub releases : WorkloadOf (levels run.held run.assigned.order) run.workload
  pub ends : Ends (levels run.held run.assigned.order) run.workload run.level run.job run.tick
  pub takes : release_of (jobs_at run.workload run.level) run.job + run.taken ≡ suc run.tick

abbrev pub timing : ℕ → ℕ → ℕ → ℕ → Timing
timing c d t s = record { execution = c; deadline = d; period = t; section = s }

-- n jobs, a period apart from tick r on
abbrev every : ℕ → ℕ → ℕ → ℕ → List Job
every period need r zero = []
every period need r (suc n) = record { release = r; need = need } ∷ every period need (r + period) n

-- Three tasks, all released at tick 0: the lowest job takes its response time of 10 ticks.
abbrev pub three_tasks : Run
three_tasks = record {
  admits = one_job_admits;
  answer = one_job;
  held = timing 1 4 4 0 ∷ timing 2 6 6 0 ∷ timing 3 12 12 0 ∷ [];
  assigned = record { order = 1 ∷ 0 ∷ 2 ∷ []; times = 2 ∷ 3 ∷ 10 ∷ [] };
  workload = every 6 2 0 2 ∷ every 4 1 0 3 ∷ every 12 3 0 1 ∷ [];
  level = 2;
  job = 0;
  tick = 9;
  taken = 10;
}

-- A section holds off a higher task: the lower one, with a section of 2, begins at tick 0; the job of the higher, which
-- needs one tick, is released at tick 1, waits for the section's end and takes 2.
abbrev pub section_holds : Run
section_holds = record {
  admits = one_job_admits;
  answer = one_job;
  held = timing 1 4 4 0 ∷ timing 3 12 12 2 ∷ [];
  assigned = record { order = 0 ∷ 1 ∷ []; times = 3 ∷ 4 ∷ [] };
  workload = every 4 1 1 1 ∷ every 12 3 0 1 ∷ [];
  level = 0;
  job = 0;
  tick = 2;
  taken = 2;
}

-- Two tasks, released together again and again. The `job`-th of the lower task's jobs ends with the tick.
abbrev pub window_job : ℕ → ℕ → ℕ → Run
window_job job tick taken = record {
  admits = window_admits;
  answer = window;
  held = timing 3 6 6 0 ∷ timing 2 6 4 0 ∷ [];
  assigned = record { order = 0 ∷ 1 ∷ []; times = 3 ∷ 6 ∷ [] };
  workload = every 6 3 0 2 ∷ every 4 2 0 3 ∷ [];
  level = 1;
  job = job;
  tick = tick;
  taken = taken;
}

-- The second job of the window is the worst: it takes the response time of 6, the first and the third take less.
abbrev pub first_job : Run
first_job = window_job 0 4 5

abbrev pub second_job : Run
second_job = window_job 1 9 6

abbrev pub third_job : Run
third_job = window_job 2 11 4

-- Lehoczky's two tasks: the fifth job of the lower, released at tick 400, takes its response time of 118 ticks.
abbrev pub long_window : Run
long_window = record {
  admits = window_admits;
  answer = window;
  held = timing 26 70 70 0 ∷ timing 62 118 100 0 ∷ [];
  assigned = record { order = 0 ∷ 1 ∷ []; times = 26 ∷ 118 ∷ [] };
  workload = every 70 26 0 10 ∷ every 100 62 0 7 ∷ [];
  level = 1;
  job = 4;
  tick = 517;
  taken = 118;
}

abbrev pub Worked : Type 0
Worked = AllByRecursion Right (three_tasks ∷ section_holds ∷ first_job ∷ second_job ∷ third_job ∷ long_window ∷ [])
