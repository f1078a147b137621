-- Response times of the two tests are kept.
use Rattle.std.proofs.Common.{◌≡◌, ℕ, ◌<◌, Bool, List, [], length, get_or, take, Option, sym, ◌∙◌, subst, subst₂, inl, inr, arith}
use lib.ListN.{length-map}
use Rattle.tasks.specs.declared.task.Timing.{Timing}
use Rattle.tasks.specs.Timing.{at, Held}
use Rattle.response.specs.Tests.{Answers, one_job, one_job_admits, window, window_admits}
use Rattle.orders.specs.Orders.{Order, word}
use Rattle.orders.proofs.Levels.{timed_from}
use Rattle.machine.specs.Claims.{levels, KeepsLevel, KeepsLevels, KeepsAnswer, KeepsTimes, Kept, Named}
use Rattle.machine.proofs.Places.{timed_at, position}
use Rattle.machine.proofs.Agreement.{Agrees, at_level, one_job_agrees, window_agrees}
use Rattle.machine.proofs.Answered.{one_job_keeps, window_keeps}

module _ (admits : Timing → Bool) (answer : Answers) where
  -- what holds of the held tasks holds of the levels
  held_levels : (ts : List Timing) (o : List ℕ) → Order (length ts) o → Held admits ts → Held admits (levels ts o)
  held_levels ts o order held m m-in =
      let l : m < length o = omega (arith, length-map o (at ts)) in
      rw (at_level ts o order m l) (held (get_or o m 0) (position (length ts) o order m l))

  -- a test whose answers agree keeps them in every order if it does by level
  keeps_answer : Agrees answer → KeepsLevels admits answer → KeepsAnswer admits answer
  keeps_answer agrees keeps ts o workload level r held order releases l answered =
      keeps (levels ts o) workload level r (held_levels ts o order held) releases (omega (arith, length-map o (at ts)))
      (agrees ts o order level l ∙ answered)

  keeps_times : KeepsAnswer admits answer → KeepsTimes admits answer
  keeps_times keeps ts a workload level held passes releases l =
      keeps ts a.order workload level (get_or a.times level 0) held passes.0 releases l
      (timed_at (answer ts) [] a.order a.times level (timed_from (answer ts) [] a.order a.times passes.1) l)

  pub kept : Agrees answer → KeepsLevels admits answer → Kept admits answer
  kept agrees keeps =
      let each = keeps_answer agrees keeps in
      record { by_level = keeps; at_each_level = each; when_passing = keeps_times each }

pub one_job_kept : Kept one_job_admits one_job
one_job_kept = kept one_job_admits one_job one_job_agrees one_job_keeps

pub window_kept : Kept window_admits window
window_kept = kept window_admits window window_agrees window_keeps

pub named_kept : (admits : Timing → Bool) (answer : Answers) → Named admits answer → Kept admits answer
named_kept admits answer named =
    elim named [
      | inl is ↦ subst₂ Kept (sym is.0) (sym is.1) one_job_kept
      | inr is ↦ subst₂ Kept (sym is.0) (sym is.1) window_kept
    ]

-- the same, with the order's length given by the tasks
pub level_kept : (admits : Timing → Bool) (answer : Answers) (ts : List Timing) (n : ℕ) (o : List ℕ) (level : ℕ) (answered : Option ℕ) →
    length ts ≡ n → Order n o → level < length o → answered ≡ answer ts (get_or o level 0) (word (take level o)) →
    Named admits answer → Held admits ts → KeepsLevel ts o level answered
level_kept admits answer ts n o level answered same order l is named held workload r releases e =
    (named_kept admits answer named).at_each_level ts o workload level r held (subst (λ m. Order m o) (sym same) order) releases l (sym is ∙ e)
