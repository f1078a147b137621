-- How long job k of level i can wait. The argument goes over the busy span that its release falls into.
use Rattle.std.proofs.Common.{ℕ, zero, suc, ◌+◌, ◌*◌, ◌<◌, ◌≤◌, min, List, length, inl, inr, mul-le-mul_right, arith}
use native.Mathlib.Decide.{le_ind}
use lib.ListN.{get_or-replicate}
use Rattle.std.proofs.lemmas.Bool.{cases_lt, cases_eq}
use Rattle.tasks.specs.Numbers.{sum_below}
use Rattle.tasks.specs.declared.task.Timing.{Timing}
use Rattle.tasks.specs.Timing.{at}
use Rattle.tasks.proofs.Ranges.{sum_mono}
use Rattle.machine.specs.Jobs.{Job, jobs_at, WorkloadOf}
use Rattle.machine.specs.Machine.{ran_at, state_at}
use Rattle.machine.specs.Claims.{need_through, release_of, Ends}
use Rattle.response.specs.Demand.{AllLegal}
use Rattle.machine.proofs.Windows.{Covers, Enough}
use Rattle.machine.proofs.Released.{released, released_start, released_mono, released_within, released_pending, released_through, through_released, need_through_some, Since, since}
use Rattle.machine.proofs.Levels.{sum_lt, sum_none}
use Rattle.machine.proofs.Ticks.{sane, hold_left, Advances, advances, grows}
use Rattle.machine.proofs.Interference.{released_above, hold_blocking}

module _ (tasks : List Timing) (workload : List (List Job)) (sound : AllLegal tasks) (legal : WorkloadOf tasks workload)
    (i : ℕ) (i-in : i < length tasks) (k : ℕ) (k-in : k < length (jobs_at workload i)) where
  abbrev task : Timing
  task = at tasks i

  abbrev jobs : List Job
  jobs = jobs_at workload i

  abbrev need : ℕ
  need = need_through jobs k

  abbrev release : ℕ
  release = release_of jobs k

  -- the ticks that a level has run before the tick t
  abbrev ran : ℕ → ℕ → ℕ
  ran t l = ran_at (state_at tasks workload t) l

  -- the work of a level that is released before the tick t
  abbrev work : ℕ → ℕ → ℕ
  work t l = released (jobs_at workload l) t

  -- the ticks that the levels down to i have run before t
  done : ℕ → ℕ
  done t = sum_below i (ran t) + ran t i

  -- what is released before t of the levels above i, and of level i down to job k
  due : ℕ → ℕ
  due t = sum_below i (work t) + min (work t i) need

  hold : ℕ → ℕ
  hold t = hold_left tasks workload i (state_at tasks workload t)

  ran_mono : (t u l : ℕ) → t ≤ u → ran t l ≤ ran u l
  ran_mono t u l h =
      le_ind (λ m. ran t l ≤ ran m l) (omega arith) (λ m _ ih. omega (arith, ih, grows tasks workload legal m l)) u h

  done_grows : (t : ℕ) → done t ≤ done (suc t)
  unfolding done
  done_grows t =
      omega (
        arith,
        grows tasks workload legal t i,
        sum_mono i (ran t) (ran (suc t)) (λ l _. grows tasks workload legal t l),
      )

  causal : (t l : ℕ) → l ≤ i → ran t l ≤ work t l
  causal t l h = (sane tasks workload legal t).causal l (omega arith)

  causal_above : (t : ℕ) → sum_below i (ran t) ≤ sum_below i (work t)
  causal_above t = sum_mono i (ran t) (work t) (λ l h. causal t l (omega arith))

  own_released : (t : ℕ) → release < t → need ≤ work t i
  own_released t h = through_released task 0 k t jobs (legal i i-in) k-in h

  -- in a tick at whose end something is due that has not run, a level down to i runs, or the hold shortens
  due_advances : (t : ℕ) → done t < due (suc t) →
      Advances tasks workload i (state_at tasks workload t) (state_at tasks workload (suc t))
  unfolding done due state_at
  due_advances t h =
      elim (cases_lt (ran t i) (work (suc t) i)) [
        | inl here ↦ by i (omega arith) here
        | inr not-here ↦
            let j = sum_lt (ran t) (work (suc t)) i (omega arith) in by j.0 (omega (arith, j.1)) j.2
      ]
    where
      by : (j : ℕ) → j ≤ i → ran t j < work (suc t) j →
          Advances tasks workload i (state_at tasks workload t) (state_at tasks workload (suc t))
      by j j-in waiting =
          advances tasks workload legal i i-in t j (state_at tasks workload t) (sane tasks workload legal t) j-in
          (released_pending (ran t j) t (jobs_at workload j) waiting)

  -- so in a row of such ticks the levels down to i run in all but those of the hold
  Supplied : ℕ → ℕ → Type 0
  Supplied s t = done s + t + hold t ≤ done t + s + hold s

  supplied_more : (s t : ℕ) → done t < due (suc t) → Supplied s t → Supplied s (suc t)
  unfolding Supplied done hold sum_below
  supplied_more s t h ih = omega (arith, due_advances t h, ih)

  supplied : (s t : ℕ) → s ≤ t → ((u : ℕ) → s ≤ u → u < t → done u < due (suc u)) → Supplied s t
  unfolding Supplied
  supplied s t =
      le_ind (λ m. ((u : ℕ) → s ≤ u → u < m → done u < due (suc u)) → Supplied s m) (λ _. omega arith)
      (λ m s-in ih busy. supplied_more s m (busy m s-in (omega arith)) (ih (λ u low high. busy u low (omega arith)))) t

  -- From s on the levels down to i were never done with what was due; at s they were.
  record Busy (s t : ℕ) : Type 0 where
    from : s ≤ t
    quiet : due s ≤ done s
    busy : (u : ℕ) → s < u → u ≤ t → done u < due u

  busy_span : (t : ℕ) → (s : ℕ) × Busy s t
  unfolding due
  busy_span zero = (
    0,
    record {
      from = omega arith;
      quiet = omega (arith, sum_none (work 0) i (λ l. released_start (jobs_at workload l)), released_start jobs);
      busy = λ u low high. absurd (omega arith);
    },
  )
  busy_span (suc t) =
      elim (cases_lt (done (suc t)) (due (suc t))) [
        | inr now-quiet ↦ (suc t, record { from = omega arith; quiet = now-quiet; busy = λ u low high. absurd (omega arith) })
        | inl still ↦
            let before = busy_span t in (
              before.0,
              record {
                from = omega (arith, before.1.from);
                quiet = before.1.quiet;
                busy = λ u low high. elim (cases_eq u (suc t)) [
                  | inl same ↦ rw same still
                  | inr other ↦ before.1.busy u low (omega arith)
                ];
              },
            )
      ]

  -- from its release on, job k is due until it has ended
  due_until : (u : ℕ) → release ≤ u → ran u i < need → done u < due (suc u)
  unfolding due done
  due_until u after late =
      omega (
        arith,
        causal_above u,
        own_released (suc u) (omega arith),
        sum_mono i (work u) (work (suc u)) (λ l _. released_mono (jobs_at workload l) u (suc u) (omega arith)),
      )

  done_ends : (u : ℕ) → release < u → due u ≤ done u → need ≤ ran u i
  unfolding due done
  done_ends u after enough = omega (arith, causal_above u, own_released u after)

  -- where all that is due by s + w fits between s and s + w, with the hold, job k has ended by then
  ended_by : (s w : ℕ) → Busy s release → 1 ≤ w → due (s + w) + hold s ≤ due s + w → need ≤ ran (s + w) i
  unfolding Supplied
  ended_by s w span w-some fits =
      elim (cases_lt (ran (s + w) i) need) [
        | inr ended ↦ ended
        | inl late ↦
            let busy : (u : ℕ) → s ≤ u → u < s + w → done u < due (suc u) =
            λ u low high. elim (cases_lt u release) [
              | inl before ↦ omega (arith, span.busy (suc u) (omega arith) (omega arith), done_grows u)
              | inr after ↦ due_until u after (omega (arith, ran_mono u (s + w) i (omega arith)))
            ] in
            let enough : due (s + w) ≤ done (s + w) = omega (arith, supplied s (s + w) (omega arith) busy, span.quiet) in
            elim (cases_lt release (s + w)) [
              | inl after ↦ done_ends (s + w) after enough
              | inr before ↦ absurd (omega (arith, span.busy (s + w) (omega arith) before))
            ]
      ]

  -- what has ended by a tick ended with some tick before it
  ends_before : (t : ℕ) → need ≤ ran t i → (e : ℕ) × Ends tasks workload i k e × (e < t)
  unfolding state_at
  ends_before zero h =
      absurd (omega (arith, get_or-replicate {A = ℕ} (length tasks) i 0 0 i-in, need_through_some task 0 k jobs (legal i i-in) k-in))
  ends_before (suc t) h =
      elim (cases_lt (ran t i) need) [
        | inl late ↦ (t, record { not_before = late; then = h }, omega arith)
        | inr ended ↦ let e = ends_before t ended in (e.0, e.1, omega (arith, e.2))
      ]

  -- job k is the (p + 1)-st of its level in the busy span from s on
  pub record Placed (s p : ℕ) : Type 0 where
    span : Busy s release
    since_start : Since task jobs s k p

  pub placed : (s : ℕ) × (p : ℕ) × Placed s p
  placed =
      let b = busy_span release in
      let p = since task 0 b.0 k jobs (legal i i-in) k-in b.1.from in
      (b.0, p.0, record { span = b.1; since_start = p.1 })

  module _ (load : ℕ → ℕ) (block : ℕ) (covers : Covers tasks i load block) (s p : ℕ) (here : Placed s p) where
    enough_ends : (q w : ℕ) → Enough task load block q w → min (work (s + w) i) need ≤ min (work s i) need + suc q * task.execution → need ≤ ran (s + w) i
    unfolding due hold
    enough_ends q w enough own =
        ended_by s w here.span enough.some
        (omega (
          arith,
          own,
          enough.fits,
          released_above tasks workload i load block covers s w sound legal (omega arith),
          hold_blocking tasks workload i load block covers (state_at tasks workload s),
        ))

    -- a window of q + 1 jobs that is over before the next may come has no later job
    pub closes : (q w : ℕ) → Enough task load block q w → w ≤ suc q * task.period → p ≤ q
    closes q w enough fits =
        let own = released_within task (suc q) 0 s (s + w) jobs (legal i i-in) (omega arith) in
        let ended = enough_ends q w enough (omega arith) in
        let came = released_through task 0 k (s + w) jobs (legal i i-in) k-in (omega (arith, causal (s + w) i (omega arith))) in
        elim (cases_lt q p) [
          | inr last ↦ last
          | inl later ↦ absurd (omega (arith, here.since_start.comes, mul-le-mul_right task.period later))
        ]

    pub ends : (w r : ℕ) → Enough task load block p w → w ≤ p * task.period + r → (e : ℕ) × Ends tasks workload i k e × (e + 1 ≤ release + r)
    ends w r enough bound =
        let e = ends_before (s + w) (enough_ends p w enough (omega (arith, here.since_start.brings))) in
        (e.0, e.1, omega (arith, e.2, here.since_start.comes))
