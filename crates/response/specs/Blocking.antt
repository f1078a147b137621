-- Lemmas for the laws of the one-job test: the blocking from below.
use Rattle.std.specs.Prelude.{◌≡◌, ℕ, zero, suc, ◌+◌, ◌<◌, ◌≤◌, Bool, true, cond, ◌||◌, ◌⊎◌, List, length, ◌==◌}
use Rattle.std.proofs.Common.{sym, ◌∙◌, ap, inl, inr, mul-le-mul_right}
use Rattle.std.proofs.Common.{arith}
use Rattle.std.proofs.lemmas.Bool.{cases_Bool, cond-true, cond-false, or_right}
use Rattle.tasks.specs.Numbers.{sum_below, max_below}
use Rattle.tasks.specs.Sets.{holds, Part}
use Rattle.tasks.specs.declared.task.Timing.{Timing}
use Rattle.tasks.specs.Timing.{at}
use Rattle.response.specs.Tests.{job_load, demand, section_below, blocking, one_job, one_job_admits, Within, Monotone}
use Rattle.response.specs.Demand.{AllLegal, held_legal, ceiling_pos, load_held, load_other, settled_is, settles}

pub section_held : (ts : List Timing) (i h j : ℕ) → holds h j ≡ true → section_below ts i h j ≡ 0
section_held ts i h j e = cond-true (j == i || holds h j) 0 (at ts j).section (or_right (j == i) (holds h j) e)

section_most : (ts : List Timing) (i h j : ℕ) → section_below ts i h j ≤ (at ts j).section
section_most ts i h j = elim (cases_Bool (j == i || holds h j)) [
  | inl e ↦ rw (cond-true {A = ℕ} (j == i || holds h j) 0 (at ts j).section e) (omega arith)
  | inr e ↦ rw (cond-false {A = ℕ} (j == i || holds h j) 0 (at ts j).section e) (omega arith)
]

module _ (ts : List Timing) (legal : AllLegal ts) (i h k w : ℕ) (part : Part k h) (pos : 1 ≤ w) where
  -- a task that leaves the set takes more from the demand than it adds to the blocking
  one_leaves : (j : ℕ) → j < length ts
      → (job_load ts k w j ≤ job_load ts h w j)
      × ((section_below ts i k j ≤ section_below ts i h j) ⊎ (section_below ts i k j + job_load ts k w j ≤ job_load ts h w j))
  one_leaves j l = elim (cases_Bool (holds k j)) [
    | inl stays ↦
        let above = part j stays in
        let lk = load_held ts k w j stays in
        let lh = load_held ts h w j above in
        let sk = section_held ts i k j stays in
        (omega arith, inl (omega arith))
    | inr gone ↦
        let lk = load_other ts k w j gone in (
          omega arith,
          elim (cases_Bool (holds h j)) [
            | inl above ↦
                let t = legal j l in
                let lh = load_held ts h w j above in
                let once = mul-le-mul_right (at ts j).execution (ceiling_pos w (at ts j).period pos (omega (arith, t))) in
                let sk = section_most ts i k j in
                inr (omega arith)
            | inr below ↦ inl (omega (arith, ap (λ (b : Bool). cond (j == i || b) 0 (at ts j).section) (gone ∙ sym below)))
          ],
        )
  ]

  trade : (n : ℕ) → n ≤ length ts
      → (sum_below n (job_load ts k w) ≤ sum_below n (job_load ts h w))
      × (max_below n (section_below ts i k) + sum_below n (job_load ts k w) ≤ max_below n (section_below ts i h) + sum_below n (job_load ts h w))
  unfolding sum_below max_below
  trade zero l = (omega arith, omega arith)
  trade (suc n) l =
      let before = trade n (omega arith) in
      let here = one_leaves n (omega arith) in
      (omega arith, omega arith)

  pub demand_part : demand ts k w ≤ demand ts h w
  demand_part = (trade (length ts) (omega arith)).0

-- ---- the laws

pub one_job_within : Within one_job_admits one_job
one_job_within ts i h r held l e =
    let legal = held_legal one_job_admits ts held in
    let a = settled_is ts legal h ((at ts i).execution + blocking ts i h) (at ts i).deadline r e in
    (a.0, a.2)

pub one_job_monotone : Monotone one_job_admits one_job
one_job_monotone ts i h k r held l part e =
    let legal = held_legal one_job_admits ts held in
    let a = settled_is ts legal h ((at ts i).execution + blocking ts i h) (at ts i).deadline r e in
    let less = (trade ts legal i h k r part a.0 (length ts) (omega arith)).1 in
    let t = legal i l in
    settles ts legal k ((at ts i).execution + blocking ts i k) r (at ts i).deadline (omega arith) (omega (arith, a.1)) a.2
