-- The jobs that tasks release. Tasks stand in a list by priority, the highest first; a task's place in the list is its
-- level, counted from 0.
use Rattle.std.specs.Prelude.{ℕ, ◌+◌, ◌<◌, ◌≤◌, List, [], ◌∷◌, length, slice_index_or}
use Rattle.tasks.specs.declared.task.Timing.{Timing}
use Rattle.tasks.specs.Timing.{at}

-- a job is pending from the tick of its release until it has run the ticks that it needs
pub record Job : Type 0 where
  pub release : ℕ
  pub need : ℕ

-- what a task allows of one job, where no release may come before `earliest`
pub record Allowed (task : Timing) (earliest : ℕ) (job : Job) : Type 0 where
  pub apart : earliest ≤ job.release
  pub past_section : task.section < job.need
  pub in_execution : job.need ≤ task.execution

-- the task may release these jobs, in this order: the first at `earliest` or later, each other a period or more after
-- the one before it
abbrev pub MayRelease : Timing → ℕ → List Job → Type 0
MayRelease task earliest [] = Unit {0}
MayRelease task earliest (job ∷ jobs) = Allowed task earliest job × MayRelease task (job.release + task.period) jobs

-- the jobs of a level; a workload lists them level by level
abbrev pub jobs_at : List (List Job) → ℕ → List Job
jobs_at workload level = slice_index_or workload level []

-- a workload that the tasks may release: when jobs come and how long they run is otherwise free
abbrev pub WorkloadOf : List Timing → List (List Job) → Type 0
WorkloadOf tasks workload =
    (level : ℕ) → level < length tasks → MayRelease (at tasks level) 0 (jobs_at workload level)
