-- The jobs of one task: the work that is released, against the ticks that they have run.
use Rattle.std.proofs.Common.{◌≡◌, ℕ, zero, suc, ◌+◌, ◌-◌, ◌*◌, ◌<◌, ◌≤◌, true, cond, ltb, ◌⊎◌, List, [], ◌∷◌, length, refl, ap, inl, inr, arith}
use Rattle.std.proofs.lemmas.Bool.{cases_lt}
use Rattle.std.proofs.lemmas.Bool.Decides.{nat_tests}
use Rattle.tasks.specs.declared.task.Timing.{Timing}
use Rattle.machine.specs.Jobs.{Job, Allowed, MayRelease}
use Rattle.machine.specs.Machine.{progress, pending}
use Rattle.machine.specs.Claims.{need_through, release_of}

-- what the jobs released before a tick need together
pub released : List Job → ℕ → ℕ
released [] t = 0
released (job ∷ jobs) t = cond (ltb job.release t) (job.need + released jobs t) 0

pub released_start : (jobs : List Job) → released jobs 0 ≡ 0
unfolding released
released_start [] = refl
released_start (job ∷ jobs) = grind (arith, nat_tests)

pub released_mono : (jobs : List Job) (t u : ℕ) → t ≤ u → released jobs t ≤ released jobs u
unfolding released
released_mono [] t u h = omega arith
released_mono (job ∷ jobs) t u h = let ih = released_mono jobs t u h in grind (arith, nat_tests)

-- a job that has not been released by t brings nothing, and one that has brings its need
at_release : (job : Job) (jobs : List Job) (t : ℕ) →
    ((t ≤ job.release) × (released (job ∷ jobs) t ≡ 0)) ⊎ ((job.release < t) × (released (job ∷ jobs) t ≡ job.need + released jobs t))
unfolding released
at_release job jobs t = elim (cases_lt job.release t) [ inl h ↦ inr (h, grind (arith, nat_tests)) | inr h ↦ inl (h, grind (arith, nat_tests)) ]

-- a job that is released from s on is allowed from s on
later : (task : Timing) (earliest s : ℕ) (job : Job) → Allowed task earliest job → s ≤ job.release → Allowed task s job
later task earliest s job a h = record { apart = h; past_section = a.past_section; in_execution = a.in_execution }

-- where at most m periods are left, the jobs bring at most m times the execution time
pub released_from : (task : Timing) (m earliest t : ℕ) (jobs : List Job) → MayRelease task earliest jobs →
    t ≤ earliest + m * task.period → released jobs t ≤ m * task.execution
unfolding released
released_from task m earliest t [] legal h = omega arith
released_from task zero earliest t (job ∷ jobs) legal h = let r = at_release job jobs t in omega arith
released_from task (suc m) earliest t (job ∷ jobs) legal h =
    let ih : t ≤ (job.release + task.period) + m * task.period → released jobs t ≤ m * task.execution
    = released_from task m (job.release + task.period) t jobs legal.1 in
    let r = at_release job jobs t in
    let e = ih (omega (arith, legal.0.apart)) in omega arith

pub released_within : (task : Timing) (m earliest s t : ℕ) (jobs : List Job) → MayRelease task earliest jobs →
    t ≤ s + m * task.period → released jobs t ≤ released jobs s + m * task.execution
unfolding released
released_within task m earliest s t [] legal h = omega arith
released_within task m earliest s t (job ∷ jobs) legal h =
    elim (cases_lt job.release s) [
      | inl before ↦ let ih = released_within task m (job.release + task.period) s t jobs legal.1 h in
          let r = at_release job jobs s in let r' = at_release job jobs t in omega arith
      | inr after ↦ let k = released_from task m s t (job ∷ jobs) (later task earliest s job legal.0 after, legal.1) h in omega arith
    ]

-- work that is released by the end of the tick and has not run is a pending job
pub released_pending : (ran now : ℕ) (jobs : List Job) → ran < released jobs (suc now) → pending jobs ran now ≡ true
unfolding pending released
released_pending ran now [] h = absurd (omega arith)
released_pending ran now (job ∷ jobs) h =
    let r = at_release job jobs (suc now) in
    elim (cases_lt ran job.need) [
      | inl first ↦ grind (arith, nat_tests)
      | inr later ↦ let ih = released_pending (ran - job.need) now jobs (omega arith) in grind (arith, nat_tests)
    ]

-- the other way round, where no work runs before its release
pub pending_released : (task : Timing) (earliest ran now : ℕ) (jobs : List Job) → MayRelease task earliest jobs →
    ran ≤ released jobs now → pending jobs ran now ≡ true → ran < released jobs (suc now)
unfolding pending released
pending_released task earliest ran now [] legal h p = absurd (grind arith)
pending_released task earliest ran now (job ∷ jobs) legal h p =
    let r = at_release job jobs now in let r' = at_release job jobs (suc now) in
    elim (cases_lt ran job.need) [
      | inl first ↦ grind (arith, nat_tests)
      | inr later ↦
          let ih : pending jobs (ran - job.need) now ≡ true → ran - job.need < released jobs (suc now)
          = pending_released task (job.release + task.period) (ran - job.need) now jobs legal.1 (omega (arith, legal.0.past_section)) in
          let q : pending jobs (ran - job.need) now ≡ true = grind (arith, nat_tests) in
          let k = ih q in omega (arith, legal.0.past_section)
    ]

-- a job that has begun is pending
pub begun_pending : (task : Timing) (earliest ran now : ℕ) (jobs : List Job) → MayRelease task earliest jobs →
    ran ≤ released jobs now → 0 < progress jobs ran → pending jobs ran now ≡ true
unfolding pending progress released
begun_pending task earliest ran now [] legal h p = absurd (omega arith)
begun_pending task earliest ran now (job ∷ jobs) legal h p =
    let r = at_release job jobs now in
    elim (cases_lt ran job.need) [
      | inl first ↦ grind (arith, nat_tests)
      | inr later ↦
          let q : 0 < progress jobs (ran - job.need) = grind (arith, nat_tests) in
          let ih = begun_pending task (job.release + task.period) (ran - job.need) now jobs legal.1 (omega (arith, legal.0.past_section)) q in
          grind (arith, nat_tests)
    ]

-- within its section a job does not end
pub progress_next : (task : Timing) (earliest ran : ℕ) (jobs : List Job) → MayRelease task earliest jobs →
    0 < progress jobs ran → progress jobs ran < task.section → progress jobs (suc ran) ≡ suc (progress jobs ran)
unfolding progress
progress_next task earliest ran [] legal p h = absurd (omega arith)
progress_next task earliest ran (job ∷ jobs) legal p h =
    elim (cases_lt ran job.need) [
      | inl first ↦ let k = legal.0.past_section in grind (arith, nat_tests)
      | inr later ↦
          let q : 0 < progress jobs (ran - job.need) = grind (arith, nat_tests) in
          let q' : progress jobs (ran - job.need) < task.section = grind (arith, nat_tests) in
          let ih = progress_next task (job.release + task.period) (ran - job.need) jobs legal.1 q q' in
          let e : suc ran - job.need ≡ suc (ran - job.need) = omega arith in
          let e' = ap (progress jobs) e in
          grind (arith, nat_tests)
    ]

pub need_through_some : (task : Timing) (earliest k : ℕ) (jobs : List Job) → MayRelease task earliest jobs →
    k < length jobs → 0 < need_through jobs k
unfolding need_through
need_through_some task earliest k [] legal h = absurd (omega arith)
need_through_some task earliest zero (job ∷ jobs) legal h = omega (arith, legal.0.past_section)
need_through_some task earliest (suc k) (job ∷ jobs) legal h = omega (arith, legal.0.past_section)

-- the first k jobs bring at most k times the execution time, and take up k periods
pub release_after : (task : Timing) (earliest k : ℕ) (jobs : List Job) → MayRelease task earliest jobs →
    k < length jobs → earliest + k * task.period ≤ release_of jobs k
release_after task earliest k [] legal h = absurd (omega arith)
release_after task earliest zero (job ∷ jobs) legal h = omega (arith, legal.0.apart)
release_after task earliest (suc k) (job ∷ jobs) legal h =
    let ih = release_after task (job.release + task.period) k jobs legal.1 (omega arith) in omega (arith, legal.0.apart)

pub need_through_most : (task : Timing) (earliest k : ℕ) (jobs : List Job) → MayRelease task earliest jobs →
    need_through jobs k ≤ suc k * task.execution
unfolding need_through
need_through_most task earliest k [] legal = omega arith
need_through_most task earliest zero (job ∷ jobs) legal = omega (arith, legal.0.in_execution)
need_through_most task earliest (suc k) (job ∷ jobs) legal =
    let ih = need_through_most task (job.release + task.period) k jobs legal.1 in omega (arith, legal.0.in_execution)

-- job k is released before t exactly if the work down to it is
pub through_released : (task : Timing) (earliest k t : ℕ) (jobs : List Job) → MayRelease task earliest jobs →
    k < length jobs → release_of jobs k < t → need_through jobs k ≤ released jobs t
unfolding need_through
through_released task earliest k t [] legal h r = absurd (omega arith)
through_released task earliest zero t (job ∷ jobs) legal h r = let a = at_release job jobs t in omega arith
through_released task earliest (suc k) t (job ∷ jobs) legal h r =
    let a = at_release job jobs t in
    let ih = through_released task (job.release + task.period) k t jobs legal.1 (omega arith) r in
    omega (arith, release_after task (job.release + task.period) k jobs legal.1 (omega arith))

pub released_through : (task : Timing) (earliest k t : ℕ) (jobs : List Job) → MayRelease task earliest jobs →
    k < length jobs → need_through jobs k ≤ released jobs t → release_of jobs k < t
unfolding need_through released
released_through task earliest k t [] legal h a = absurd (omega arith)
released_through task earliest zero t (job ∷ jobs) legal h a = let b = at_release job jobs t in omega (arith, legal.0.past_section)
released_through task earliest (suc k) t (job ∷ jobs) legal h a =
    let b = at_release job jobs t in
    released_through task (job.release + task.period) k t jobs legal.1 (omega arith) (omega (arith, legal.0.past_section))

-- job k is the (p + 1)-st that is released from s on
pub record Since (task : Timing) (jobs : List Job) (s k p : ℕ) : Type 0 where
  pub brings : need_through jobs k ≤ released jobs s + suc p * task.execution
  pub comes : s + p * task.period ≤ release_of jobs k

pub since : (task : Timing) (earliest s k : ℕ) (jobs : List Job) → MayRelease task earliest jobs →
    k < length jobs → s ≤ release_of jobs k → (p : ℕ) × Since task jobs s k p
unfolding need_through
since task earliest s k [] legal h r = absurd (omega arith)
since task earliest s zero (job ∷ jobs) legal h r = (0, record { brings = omega (arith, legal.0.in_execution); comes = omega arith })
since task earliest s (suc k) (job ∷ jobs) legal h r =
    elim (cases_lt job.release s) [
      | inl before ↦
          let ih = since task (job.release + task.period) s k jobs legal.1 (omega arith) r in
          let a = at_release job jobs s in
          (ih.0, record { brings = omega (arith, ih.1.brings); comes = ih.1.comes })
      | inr after ↦
          let here : MayRelease task s (job ∷ jobs) = (later task earliest s job legal.0 after, legal.1) in (
            suc k,
            record {
              brings = omega (arith, need_through_most task s (suc k) (job ∷ jobs) here);
              comes = release_after task s (suc k) (job ∷ jobs) here (omega arith);
            },
          )
    ]
