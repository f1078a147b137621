-- What a response time promises of the tick machine.
use Rattle.std.specs.Prelude.{◌≡◌, ℕ, zero, suc, ◌+◌, ◌-◌, ◌^◌, ◌<◌, ◌≤◌, Bool, ◌⊎◌, List, [], ◌∷◌, map, length, take, Some, Option, slice_index, slice_index_or}
use Rattle.tasks.specs.declared.task.Timing.{Timing}
use Rattle.tasks.specs.Timing.{at, Held}
use Rattle.response.specs.Tests.{Answers, one_job, one_job_admits, window, window_admits}
use Rattle.orders.specs.Orders.{Assignment, Order, Passes, word}
use Rattle.machine.specs.Jobs.{Job, jobs_at, WorkloadOf}
use Rattle.machine.specs.Machine.{ran_at, state_at}

-- ---- jobs that end

-- the ticks that the jobs up to job k need together
unfoldable pub need_through : List Job → ℕ → ℕ
need_through [] k = 0
need_through (job ∷ jobs) zero = job.need
need_through (job ∷ jobs) (suc k) = job.need + need_through jobs k

-- the release of job k
abbrev pub release_of : List Job → ℕ → ℕ
release_of jobs k = (slice_index_or jobs k (record { release = 0; need = 0 })).release

-- job k of the level ends with the tick e: it has not run all it needs before that tick, and has after it
pub record Ends (tasks : List Timing) (workload : List (List Job)) (level k e : ℕ) : Type 0 where
  pub not_before : ran_at (state_at tasks workload e) level < need_through (jobs_at workload level) k
  pub then : need_through (jobs_at workload level) k ≤ ran_at (state_at tasks workload (suc e)) level

-- every job of the level ends, and takes at most r ticks: released at tick q and ended with tick e, it takes e + 1 - q
abbrev pub TakesAtMost : List Timing → List (List Job) → ℕ → ℕ → Type 0
TakesAtMost tasks workload level r =
    (k : ℕ) → k < length (jobs_at workload level) →
    (e : ℕ) × Ends tasks workload level k e × (e + 1 ≤ release_of (jobs_at workload level) k + r)

-- ---- response times that are kept, whatever jobs the tasks may release

-- Tasks that stand by level. The word 2^level - 1 holds the levels above a level.
abbrev pub KeepsLevels : (Timing → Bool) → Answers → Type 0
KeepsLevels admits answer =
    (tasks : List Timing) (workload : List (List Job)) (level r : ℕ) →
    Held admits tasks → WorkloadOf tasks workload → level < length tasks →
    answer tasks level (2 ^ level - 1) ≡ Some r →
    TakesAtMost tasks workload level r

-- the timings of the tasks of an order, level by level
abbrev pub levels : List Timing → List ℕ → List Timing
levels ts order = map (at ts) order

-- the level, answered like this, ends every job within its answer
abbrev pub KeepsLevel : List Timing → List ℕ → ℕ → Option ℕ → Type 0
KeepsLevel ts order level answered =
    (workload : List (List Job)) (r : ℕ) → WorkloadOf (levels ts order) workload → answered ≡ Some r →
    TakesAtMost (levels ts order) workload level r

-- A level of an order of the held tasks, answered with exactly the tasks of the higher levels above. Nothing is asked of
-- the answers at other levels.
abbrev pub KeepsAnswer : (Timing → Bool) → Answers → Type 0
KeepsAnswer admits answer =
    (ts : List Timing) (order : List ℕ) (workload : List (List Job)) (level r : ℕ) →
    Held admits ts → Order (length ts) order → WorkloadOf (levels ts order) workload → level < length order →
    answer ts (slice_index order level) (word (take level order)) ≡ Some r →
    TakesAtMost (levels ts order) workload level r

-- every level of an order that passes
abbrev pub KeepsTimes : (Timing → Bool) → Answers → Type 0
KeepsTimes admits answer =
    (ts : List Timing) (a : Assignment) (workload : List (List Job)) (level : ℕ) →
    Held admits ts → Passes (length ts) (answer ts) a →
    WorkloadOf (levels ts a.order) workload → level < length a.order →
    TakesAtMost (levels ts a.order) workload level (slice_index a.times level)

-- ---- for which tests

-- the test is the one-job test or the window test
abbrev pub Named : (Timing → Bool) → Answers → Type 0
Named admits answer =
    ((admits ≡ one_job_admits) × (answer ≡ one_job)) ⊎ ((admits ≡ window_admits) × (answer ≡ window))

pub record Kept (admits : Timing → Bool) (answer : Answers) : Type 0 where
  pub by_level : KeepsLevels admits answer
  pub at_each_level : KeepsAnswer admits answer
  pub when_passing : KeepsTimes admits answer
