-- What one tick does.
use Rattle.std.proofs.Common.{◌≡◌, ℕ, zero, suc, ◌+◌, ◌-◌, ◌<◌, ◌≤◌, true, false, ltb, List, length, Some, None, Option, sym, refl, ap, ◌∙◌, inl, inr, arith, length-set}
use lib.ListN.{length-replicate, get_or-replicate}
use Rattle.std.proofs.lemmas.Bool.{cases_lt, cases_eq, cases_Bool, and_parts, ltb-true, lt-ltb, le-ltb}
use Rattle.tasks.specs.Numbers.{sum_below}
use Rattle.tasks.specs.declared.task.Timing.{Timing}
use Rattle.tasks.specs.Timing.{at}
use Rattle.machine.specs.Jobs.{Job, jobs_at, WorkloadOf}
use Rattle.machine.specs.Machine.{State, ran_at, progress, pending, in_section, held, highest, chosen, run, state_at}
use Rattle.machine.proofs.Released.{released, released_mono, pending_released, begun_pending, progress_next}
use Rattle.machine.proofs.Found.{first_found, first_finds, some_or_none}
use Rattle.machine.proofs.Levels.{raised_same, raised_other, raised_above, raised_within}

-- what holds of the state before a tick
pub record Sane (tasks : List Timing) (workload : List (List Job)) (now : ℕ) (s : State) : Type 0 where
  pub levels : length s.ran ≡ length tasks
  pub known : (l : ℕ) → s.last ≡ Some l → l < length tasks
  -- no job runs before its release
  pub causal : (l : ℕ) → l < length tasks → ran_at s l ≤ released (jobs_at workload l) now

-- what `held` tells
pub record Holds (tasks : List Timing) (workload : List (List Job)) (s : State) (l : ℕ) : Type 0 where
  pub is_last : s.last ≡ Some l
  pub begun : 0 < progress (jobs_at workload l) (ran_at s l)
  pub within : progress (jobs_at workload l) (ran_at s l) < (at tasks l).section

-- the ticks that the levels above n have run
abbrev pub service : State → ℕ → ℕ
service s n = sum_below n (λ l. ran_at s l)

module _ (tasks : List Timing) (workload : List (List Job)) where
  -- the ticks for which a level below i still holds the machine
  pub hold_left : ℕ → State → ℕ
  hold_left i s = elim (held tasks workload s) [
    | None ↦ 0
    | Some l ↦ elim (ltb i l) [
      | true ↦ (at tasks l).section - progress (jobs_at workload l) (ran_at s l)
      | false ↦ 0
    ]
  ]

  -- a tick that runs a level down to i, or shortens the hold
  abbrev pub Advances : ℕ → State → State → Type 0
  Advances i s after = suc (service s (suc i) + hold_left i after) ≤ service after (suc i) + hold_left i s

  pub held_holds : (s : State) (l : ℕ) → held tasks workload s ≡ Some l → Holds tasks workload s l
  held_holds s l e =
      elim (some_or_none s.last) [
        | inr none ↦ cc
        | inl m ↦
            elim (cases_Bool (in_section tasks workload s m.0)) [
              | inl inside ↦
                  let same : m.0 ≡ l = cc m.1 in
                  let here : in_section tasks workload s l ≡ true = sym (ap (in_section tasks workload s) same) ∙ inside in
                  let parts = and_parts _ _ here in
                  record { is_last = m.1 ∙ ap Some same; begun = ltb-true _ _ parts.0; within = ltb-true _ _ parts.1 }
              | inr outside ↦ cc m.1
            ]
      ]

  -- a section that holds the machine has run for a tick at least
  pub hold_left_le : (i b : ℕ) (s : State) → ((l : ℕ) → i < l → (at tasks l).section ≤ suc b) → hold_left i s ≤ b
  unfolding hold_left
  hold_left_le i b s h =
      elim (some_or_none (held tasks workload s)) [
        | inr free ↦ let z : hold_left i s ≡ 0 = cc in omega (arith, z)
        | inl m ↦
            elim (cases_lt i m.0) [
              | inr above ↦ let test = le-ltb i m.0 above in let z : hold_left i s ≡ 0 = cc m.1 in omega (arith, z)
              | inl below ↦
                  let test = lt-ltb i m.0 below in
                  let z : hold_left i s ≡ (at tasks m.0).section - progress (jobs_at workload m.0) (ran_at s m.0) = cc m.1 in
                  omega (arith, z, h m.0 below, (held_holds s m.0 m.1).begun)
            ]
      ]

module _ (tasks : List Timing) (workload : List (List Job)) (legal : WorkloadOf tasks workload) where
  -- the level that runs has a pending job
  chosen_pending : (now : ℕ) (s : State) (c : ℕ) → Sane tasks workload now s → chosen tasks workload now s ≡ Some c →
      (c < length tasks) × (pending (jobs_at workload c) (ran_at s c) now ≡ true)
  chosen_pending now s c k e =
      elim (some_or_none (held tasks workload s)) [
        | inl h ↦
            let same : h.0 ≡ c = cc h.1 in
            let holds = held_holds tasks workload s c (h.1 ∙ ap Some same) in
            let c-known = k.known c holds.is_last in
            (c-known, begun_pending (at tasks c) 0 _ now _ (legal c c-known) (k.causal c c-known) holds.begun)
        | inr h ↦
            let top : highest tasks workload now s ≡ Some c = cc in
            let f = first_found _ 0 (length tasks) c top in (omega (arith, f.high), f.passes)
      ]

  sane_run : (now : ℕ) (s : State) (o : Option ℕ) → Sane tasks workload now s →
      ((c : ℕ) → o ≡ Some c → (c < length tasks) × (pending (jobs_at workload c) (ran_at s c) now ≡ true)) →
      Sane tasks workload (suc now) (run s o)
  sane_run now s None k h =
      record {
        levels = k.levels;
        known = k.known;
        causal = λ l l-in. omega (arith, k.causal l l-in, released_mono (jobs_at workload l) now (suc now) (omega arith));
      }
  sane_run now s (Some c) k h =
      let there = h c refl in
      let c-in : c < length s.ran = omega arith in
      record {
        levels = length-set _ _ _ ∙ k.levels;
        known = λ l e. let same : c ≡ l = cc in omega arith;
        causal = λ l l-in. elim (cases_eq l c) [
          | inl same ↦
              rw same (omega (
                arith,
                raised_same s.ran c c-in,
                pending_released (at tasks c) 0 (ran_at s c) now _ (legal c there.0) (k.causal c there.0) there.1,
              ))
          | inr other ↦
              omega (
                arith,
                raised_other s.ran c c-in l other,
                k.causal l l-in,
                released_mono (jobs_at workload l) now (suc now) (omega arith),
              )
        ];
      }

  pub sane : (now : ℕ) → Sane tasks workload now (state_at tasks workload now)
  unfolding state_at
  sane zero =
      record {
        levels = length-replicate (length tasks) 0;
        known = λ l e. cc;
        causal = λ l l-in. omega (arith, get_or-replicate {A = ℕ} (length tasks) l 0 0 l-in);
      }
  sane (suc now) = sane_run now _ _ (sane now) (λ c. chosen_pending now _ c (sane now))

  grows_run : (s : State) (o : Option ℕ) (l : ℕ) → ((c : ℕ) → o ≡ Some c → c < length s.ran) → ran_at s l ≤ ran_at (run s o) l
  grows_run s None l h = omega arith
  grows_run s (Some c) l h =
      elim (cases_eq l c) [
        | inl same ↦ rw same (omega (arith, raised_same s.ran c (h c refl)))
        | inr other ↦ omega (arith, raised_other s.ran c (h c refl) l other)
      ]

  pub grows : (now l : ℕ) → ran_at (state_at tasks workload now) l ≤ ran_at (state_at tasks workload (suc now)) l
  unfolding state_at
  grows now l =
      grows_run _ _ l (λ c e. omega (arith, (sane now).levels, (chosen_pending now (state_at tasks workload now) c (sane now) e).0))

  module _ (i : ℕ) (i-in : i < length tasks) where
    -- where level c runs, which is i or above it, no level below i holds the machine
    free_above : (s : State) (c : ℕ) → c ≤ i → hold_left tasks workload i (run s (Some c)) ≡ 0
    unfolding hold_left
    free_above s c h =
        let no-hold = le-ltb i c h in
        elim (cases_Bool (in_section tasks workload (run s (Some c)) c)) [ inl e ↦ cc | inr e ↦ cc ]

    less_below : (s : State) (c : ℕ) → i < c →
        hold_left tasks workload i (run s (Some c)) ≤
        (at tasks c).section - progress (jobs_at workload c) (ran_at (run s (Some c)) c)
    unfolding hold_left
    less_below s c h =
        let below = lt-ltb i c h in
        elim (cases_Bool (in_section tasks workload (run s (Some c)) c)) [
          | inl e ↦
              let z : hold_left tasks workload i (run s (Some c))
              ≡ (at tasks c).section - progress (jobs_at workload c) (ran_at (run s (Some c)) c) = cc in omega (arith, z)
          | inr e ↦ let z : hold_left tasks workload i (run s (Some c)) ≡ 0 = cc in omega (arith, z)
        ]

    held_below : (s : State) (c : ℕ) → i < c → held tasks workload s ≡ Some c →
        hold_left tasks workload i s ≡ (at tasks c).section - progress (jobs_at workload c) (ran_at s c)
    unfolding hold_left
    held_below s c h e = let below = lt-ltb i c h in cc

    runs_above : (s : State) (c : ℕ) → c < length s.ran → c ≤ i → Advances tasks workload i s (run s (Some c))
    runs_above s c c-in h = omega (arith, free_above s c h, raised_within s.ran c c-in (suc i) (omega arith))

    runs_held : (s : State) (c : ℕ) → c < length s.ran → c < length tasks → held tasks workload s ≡ Some c → Advances tasks workload i s (run s (Some c))
    runs_held s c c-in c-known e =
        elim (cases_lt i c) [
          | inr above ↦ runs_above s c c-in above
          | inl below ↦
              let holds = held_holds tasks workload s c e in
              let p = progress_next (at tasks c) 0 (ran_at s c) (jobs_at workload c) (legal c c-known) holds.begun holds.within in
              let p' = ap (progress (jobs_at workload c)) (raised_same s.ran c c-in) in
              omega (arith, less_below s c below, held_below s c below e, raised_above s.ran c c-in (suc i) below, p, p', holds.within)
        ]

    -- while some level down to i has a pending job, every tick advances
    pub advances : (now j : ℕ) (s : State) → Sane tasks workload now s → j ≤ i →
        pending (jobs_at workload j) (ran_at s j) now ≡ true → Advances tasks workload i s (run s (chosen tasks workload now s))
    advances now j s k j-in waiting =
        elim (some_or_none (held tasks workload s)) [
          | inl h ↦
              let c-known = k.known h.0 (held_holds tasks workload s h.0 h.1).is_last in
              let e : chosen tasks workload now s ≡ Some h.0 = cc h.1 in
              rw e (runs_held s h.0 (omega arith) c-known h.1)
          | inr h ↦
              let f = first_finds (λ l. pending (jobs_at workload l) (ran_at s l) now) 0 (length tasks) j waiting (omega arith) (omega arith) in
              let e : chosen tasks workload now s ≡ Some f.0 = cc f.1 in
              rw e (runs_above s f.0 (omega (arith, f.2, k.levels)) (omega (arith, f.2)))
        ]
