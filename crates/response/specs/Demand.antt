-- Lemmas for the laws that the two tests give: the demand of a window, and the windows that their own load fills.
use Rattle.std.specs.Prelude.{◌≡◌, ℕ, zero, suc, ◌+◌, ◌*◌, ◌/◌, ◌%◌, ◌<◌, ◌≤◌, Bool, true, false, List, length, Some, ◌==◌, nat_eq}
use Rattle.std.proofs.Common.{ap, inl, inr, div-add-mod', mul-le-mul_right, arith}
use Rattle.std.specs.Float.Ieee.Nearest.{div_mono}
use Rattle.std.proofs.lemmas.Bool.{cases_Bool, cases_lt, cond-true, cond-false, eq-eqb, eqb-true, both_ways}
use Rattle.tasks.specs.Numbers.{ceiling}
use Rattle.tasks.specs.Sets.{holds}
use Rattle.tasks.specs.declared.task.Timing.{Timing}
use Rattle.tasks.specs.Timing.{at, Legal, Held}
use Rattle.response.specs.Tests.{job_load, demand, settled}
use Rattle.response.specs.Laws.{LeastSolution}
use Rattle.tasks.proofs.Ranges.{sum_mono, least_is, least_below}

pub ceiling_pos : (w t : ℕ) → 1 ≤ w → 1 ≤ t → 1 ≤ ceiling w t
ceiling_pos w t a b = elim (cases_lt 0 (w / t)) [
  | inl l ↦ omega arith
  | inr l ↦
      let none : w / t * t ≤ 0 * t = mul-le-mul_right t l in
      let whole : w / t * t + w % t ≡ w = div-add-mod' w t in
      omega arith
]

pub ceiling_mono : (v w t : ℕ) → 1 ≤ t → v ≤ w → ceiling v t ≤ ceiling w t
ceiling_mono v w t pos h = elim (cases_lt (v / t) (w / t)) [
  | inl l ↦ omega arith
  | inr l ↦
      let up : v / t ≤ w / t = div_mono v t w t pos pos (mul-le-mul_right t h) in
      let same : v / t ≡ w / t = omega arith in
      let whole-v : v / t * t + v % t ≡ v = div-add-mod' v t in
      let whole-w : w / t * t + w % t ≡ w = div-add-mod' w t in
      let rows : v / t * t ≡ w / t * t = ap (λ (x : ℕ). x * t) same in
      omega arith
]

-- ---- the demand

pub load_held : (ts : List Timing) (h w j : ℕ) → holds h j ≡ true → job_load ts h w j ≡ ceiling w (at ts j).period * (at ts j).execution
load_held ts h w j e = cond-true (holds h j) (ceiling w (at ts j).period * (at ts j).execution) 0 e

pub load_other : (ts : List Timing) (h w j : ℕ) → holds h j ≡ false → job_load ts h w j ≡ 0
load_other ts h w j e = cond-false (holds h j) (ceiling w (at ts j).period * (at ts j).execution) 0 e

-- ---- the least window that its own load fills

module _ (ts : List Timing) (h base limit : ℕ) where
  -- what an answer says
  pub least_solution : (r : ℕ) → settled ts h base limit ≡ Some r → LeastSolution ts h base r × (r ≤ limit)
  least_solution r e =
      let l = least_is (λ x. nat_eq x (base + demand ts h x)) limit r e in (
        record {
          positive = l.0.from;
          solves = eqb-true r (base + demand ts h r) l.0.passes;
          first = λ x a fills. elim (cases_lt x r) [
            | inl o ↦ absurd (both_ways (x == base + demand ts h x) (l.0.first x a o) (eq-eqb x (base + demand ts h x) fills))
            | inr o ↦ o
          ];
        },
        l.1,
      )

abbrev pub AllLegal : List Timing → Type 0
AllLegal ts = (j : ℕ) → j < length ts → Legal (at ts j)

pub held_legal : (admits : Timing → Bool) (ts : List Timing) → Held admits ts → AllLegal ts
held_legal admits ts held j l = (held j l).0

module _ (ts : List Timing) (legal : AllLegal ts) (h : ℕ) where
  pub demand_mono : (v w : ℕ) → v ≤ w → demand ts h v ≤ demand ts h w
  demand_mono v w le = sum_mono (length ts) (job_load ts h v) (job_load ts h w) (λ j l. elim (cases_Bool (holds h j)) [
    | inl e ↦ rw (load_held ts h v j e, load_held ts h w j e) (mul-le-mul_right _ (ceiling_mono v w (at ts j).period (let t = legal j l in omega arith) le))
    | inr e ↦ rw (load_other ts h v j e) (omega arith)
  ])

  -- what an answer says
  pub settled_is : (base limit r : ℕ) → settled ts h base limit ≡ Some r
      → (1 ≤ r) × (r ≡ base + demand ts h r) × (r ≤ limit) × ((x : ℕ) → 1 ≤ x → x ≡ base + demand ts h x → r ≤ x)
  settled_is base limit r e = let s = least_solution ts h base limit r e in (s.0.positive, s.0.solves, s.1, s.0.first)

  -- below a window that holds its own load, one is filled by it
  descend : (n base x : ℕ) → x ≤ n → 1 ≤ base → base + demand ts h x ≤ x → (y : ℕ) × (y ≡ base + demand ts h y) × (y ≤ x)
  descend zero base x b pos le = absurd (omega arith)
  descend (suc n) base x b pos le = elim (cases_lt (base + demand ts h x) x) [
    | inl o ↦
        let m = demand_mono (base + demand ts h x) x le in
        let d = descend n base (base + demand ts h x) (omega arith) pos (omega arith) in
        (d.0, d.1, omega (arith, d.2))
    | inr o ↦ (x, omega arith, omega arith)
  ]

  pub settles : (base x limit : ℕ) → 1 ≤ base → base + demand ts h x ≤ x → x ≤ limit → (s : ℕ) × (settled ts h base limit ≡ Some s) × (s ≤ x)
  settles base x limit pos le within =
      let y = descend x base x (omega arith) pos le in
      let at_y = eq-eqb y.0 (base + demand ts h y.0) y.1 in
      let s = least_below (λ x. nat_eq x (base + demand ts h x)) limit y.0 (omega (arith, y.1)) (omega (arith, y.2)) at_y in
      (s.0, s.1, omega (arith, s.2, y.2))
