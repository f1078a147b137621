-- Why the rules ask what they ask: where one premise is dropped and all others hold, a job may outrun its response time.
use Rattle.std.specs.Prelude.{◌≡◌, ℕ, suc, ◌+◌, ◌-◌, ◌^◌, ◌<◌, List, [], ◌∷◌, length, Some}
use Rattle.std.specs.List.{AllByRecursion}
use Rattle.tasks.specs.declared.task.Timing.{Timing}
use Rattle.tasks.specs.Timing.{at, Legal}
use Rattle.response.specs.Tests.{Answers, one_job, window}
use Rattle.machine.specs.Jobs.{Job, jobs_at}
use Rattle.machine.specs.Claims.{release_of, Ends}
use Rattle.machine.specs.Worked.{timing}

-- tasks that stand by level, and a job of a level that is answered `time` but ends with the tick
pub record Run : Type 0 where
  pub answer : Answers
  pub tasks : List Timing
  pub workload : List (List Job)
  pub level : ℕ
  pub time : ℕ
  pub job : ℕ
  pub tick : ℕ

pub record Outruns (run : Run) : Type 0 where
  pub legal : (level : ℕ) → level < length run.tasks → Legal (at run.tasks level)
  pub answered : run.answer run.tasks run.level (2 ^ run.level - 1) ≡ Some run.time
  pub ends : Ends run.tasks run.workload run.level run.job run.tick
  pub late : release_of (jobs_at run.workload run.level) run.job + run.time < suc run.tick

abbrev job_of : ℕ → ℕ → Job
job_of release need = record { release = release; need = need }

-- The one-job test with a deadline past the period: the second job of the lower task waits for the first, and takes 3.
abbrev pub deadline_past_period : Run
deadline_past_period = record {
  answer = one_job;
  tasks = timing 1 1 2 0 ∷ timing 1 2 1 0 ∷ [];
  workload = (job_of 0 1 ∷ job_of 2 1 ∷ []) ∷ (job_of 0 1 ∷ job_of 1 1 ∷ []) ∷ [];
  level = 1;
  time = 2;
  job = 1;
  tick = 3;
}

-- The window test with a section below: it holds off the higher task's job, which takes 2. (A section of 1 is over before
-- it can hold off a job.)
abbrev pub section_below_window : Run
section_below_window = record {
  answer = window;
  tasks = timing 1 1 1 0 ∷ timing 3 3 3 2 ∷ [];
  workload = (job_of 1 1 ∷ []) ∷ (job_of 0 3 ∷ []) ∷ [];
  level = 0;
  time = 1;
  job = 0;
  tick = 2;
}

-- Two releases less than a period apart: the second job takes 2.
abbrev pub releases_too_close : Run
releases_too_close = record {
  answer = one_job;
  tasks = timing 1 1 1 0 ∷ [];
  workload = (job_of 0 1 ∷ job_of 0 1 ∷ []) ∷ [];
  level = 0;
  time = 1;
  job = 1;
  tick = 1;
}

-- A job that needs more than the execution time: it takes 2.
abbrev pub need_past_execution : Run
need_past_execution = record {
  answer = one_job;
  tasks = timing 1 1 1 0 ∷ [];
  workload = (job_of 0 2 ∷ []) ∷ [];
  level = 0;
  time = 1;
  job = 0;
  tick = 1;
}

abbrev pub PremisesNeeded : Type 0
PremisesNeeded = AllByRecursion Outruns (deadline_past_period ∷ section_below_window ∷ releases_too_close ∷ need_past_execution ∷ [])
