-- The demand of a window: what the code adds up and searches.
use Rattle.std.specs.Prelude.{◌≡◌, ℕ, zero, suc, ◌+◌, ◌*◌, ◌/◌, ◌%◌, ◌<◌, ◌≤◌, min, true, List, [], ◌∷◌, map, length, Some, None, ◌==◌, ◌≢◌, nat_eq, nat_le, slice_index_or}
use Rattle.std.proofs.Common.{sym, ◌∙◌, ap, inl, inr, div-add-mod', mul-le-mul_left, mul-le-mul_right, add-mul, arith}
use Rattle.std.proofs.lemmas.List.{get_or-map, length-map}
use Rattle.std.proofs.lemmas.Bool.{cases_lt, cond-true, cond-false, le-leb, leb-true, lt-leb, eq-eqb, ne_eqb, both_ways}
use Rattle.std.proofs.lemmas.Option.{cond_some}
use Rattle.tasks.specs.declared.task.Task.{Task}
use Rattle.tasks.specs.Numbers.{ceiling, up_to}
use Rattle.tasks.specs.Sets.{holds}
use Rattle.tasks.specs.declared.task.Timing.{Timing}
use Rattle.tasks.specs.Tasks.{plain, timing_of}
use Rattle.tasks.specs.Timing.{timed, at}
use Rattle.response.specs.Tests.{job_load, demand, settled, Under}
use Rattle.response.specs.Laws.{LeastSolution}
use Rattle.tasks.proofs.Ranges.{least_none, least_some, least_isnt}
use Rattle.response.specs.Demand.{load_held, AllLegal, demand_mono}

-- ---- quotients, rounded up

-- an execution of at most a period in every period begun
pub ceiling_bound : (w t c : ℕ) → 1 ≤ t → c ≤ t → ceiling w t * c ≤ w + t
ceiling_bound w t c pos h =
    let m : ℕ = min 1 (w % t) in
    let wide : (w / t + m) * c ≤ (w / t + m) * t = mul-le-mul_left (w / t + m) h in
    let apart : (w / t + m) * t ≡ w / t * t + m * t = add-mul (w / t) m t in
    let whole : w / t * t + w % t ≡ w = div-add-mod' w t in
    let part : m * t ≤ 1 * t = mul-le-mul_right t (omega arith) in
    omega arith

-- ---- the task at a position

pub timed_length : (tasks : List Task) → length (timed tasks) ≡ length tasks
timed_length tasks = length-map (map plain tasks) timing_of ∙ length-map tasks plain

pub at_timed : (tasks : List Task) (j : ℕ) (t : Task) → j < length tasks → t ≡ slice_index_or tasks j t → at (timed tasks) j ≡ timing_of (plain t)
at_timed tasks j t h e =
    get_or-map timing_of (map plain tasks) j (plain t) _ (omega (arith, length-map tasks plain))
    ∙ ap timing_of (get_or-map plain tasks j t (plain t) h ∙ ap plain (sym e))

-- what a task of the list adds
pub load_task : (tasks : List Task) (h w j : ℕ) (t : Task) → j < length tasks → t ≡ slice_index_or tasks j t → holds h j ≡ true
    → job_load (timed tasks) h w j ≡ ceiling w t.period * t.execution
load_task tasks h w j t l e held =
    load_held (timed tasks) h w j held ∙ ap (λ (s : Timing). ceiling w s.period * s.execution) (at_timed tasks j t l e)

-- ---- the least window that its own load fills

module _ (ts : List Timing) (h base limit : ℕ) where
  pub solution_settles : (r : ℕ) → LeastSolution ts h base r → r ≤ limit → settled ts h base limit ≡ Some r
  solution_settles r s le =
      least_some (λ x. nat_eq x (base + demand ts h x)) limit r
      (record {
        from = s.positive;
        passes = eq-eqb r (base + demand ts h r) s.solves;
        first = λ k a l. ne_eqb k (base + demand ts h k) (λ same. let x = s.first k a same in omega arith);
      })
      le

  pub unsolved_settles : ((x : ℕ) → 1 ≤ x → x ≤ limit → x ≢ base + demand ts h x) → settled ts h base limit ≡ None
  unsolved_settles none =
      least_none (λ x. nat_eq x (base + demand ts h x)) limit
      (λ k a l. ne_eqb k (base + demand ts h k) (λ same. none k a l same))

  pub settles_unsolved : settled ts h base limit ≡ None → (x : ℕ) → 1 ≤ x → x ≤ limit → x ≢ base + demand ts h x
  settles_unsolved e x a le fills =
      both_ways (x == base + demand ts h x)
      (least_isnt (λ x. nat_eq x (base + demand ts h x)) limit e x a le) (eq-eqb x (base + demand ts h x) fills)

module _ (ts : List Timing) (legal : AllLegal ts) (h : ℕ) where
  pub under_next : (base w : ℕ) → Under ts h base w → Under ts h base (base + demand ts h w)
  under_next base w u = record {
    from = omega (arith, u);
    rising = let m = demand_mono ts legal h w (base + demand ts h w) u.rising in omega arith;
    lowest = λ x a e. let m = demand_mono ts legal h w x (u.lowest x a e) in omega arith;
  }

  pub settled_at : (base w limit : ℕ) → Under ts h base w → w ≡ base + demand ts h w → w ≤ limit → settled ts h base limit ≡ Some w
  settled_at base w limit u e le =
      solution_settles ts h base limit w (record { positive = u.from; solves = e; first = u.lowest }) le

  pub settled_past : (base w limit : ℕ) → Under ts h base w → limit < base + demand ts h w → settled ts h base limit ≡ None
  settled_past base w limit u past =
      unsolved_settles ts h base limit (λ k a l same. let x = (under_next base w u).lowest k a same in omega arith)

-- tasks have legal timings
pub tasks_legal : (tasks : List Task) → AllLegal (timed tasks)
tasks_legal [] j l = absurd (omega arith)
tasks_legal (t ∷ tasks) zero l = record { runs = omega (arith, t.preempted); meets = t.in_deadline; repeats = t.in_period; opens = t.preempted }
tasks_legal (t ∷ tasks) (suc j) l = tasks_legal tasks j (omega arith)

-- ---- up to a limit

pub up_to_past : (limit n : ℕ) → limit < n → up_to limit n ≡ None
up_to_past limit n l = cond-false (nat_le n limit) (Some n) None (lt-leb n limit l)

pub up_to_at : (limit n : ℕ) → n ≤ limit → up_to limit n ≡ Some n
up_to_at limit n l = cond-true (nat_le n limit) (Some n) None (le-leb n limit l)

pub up_to_is : (limit n x : ℕ) → up_to limit n ≡ Some x → (x ≡ n) × (n ≤ limit)
up_to_is limit n x e = let within = cond_some (nat_le n limit) n x e in (sym within.1, leb-true n limit within.0)

pub up_to_isnt : (limit n : ℕ) → up_to limit n ≡ None → limit < n
up_to_isnt limit n e = elim (cases_lt limit n) [
  | inl l ↦ l
  | inr l ↦ let o = up_to_at limit n l in cc
]
