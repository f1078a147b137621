-- Lemmas for the laws of the window test: the jobs of a window.
use Rattle.std.specs.Prelude.{◌≡◌, ℕ, ◌+◌, ◌-◌, ◌*◌, ◌<◌, ◌≤◌, true, List, length, Some, None, Option, nat_le, refl}
use Rattle.std.proofs.Common.{sym, ◌∙◌, mul-le-mul_right}
use Rattle.std.proofs.Common.{arith}
use Rattle.std.proofs.lemmas.Bool.{le-leb, leb-true}
use Rattle.tasks.specs.Numbers.{least, largest}
use Rattle.tasks.specs.Sets.{Part}
use Rattle.tasks.specs.declared.task.Timing.{Timing}
use Rattle.tasks.specs.Timing.{at}
use Rattle.response.specs.Tests.{busy, closes, delay, window, window_admits, Within, Monotone}
use Rattle.tasks.proofs.Ranges.{Least, least_is, least_below, largest_most, largest_is}
use Rattle.response.specs.Demand.{AllLegal, held_legal, settled_is, settles}
use Rattle.response.specs.Blocking.{demand_part}

-- what `closes` and `delay` are where a job's end is known
module _ (ts : List Timing) (i h : ℕ) where
  pub closes_at : (n w : ℕ) → busy ts i h n ≡ Some w → closes ts i h n ≡ nat_le w (n * (at ts i).period)
  closes_at n w e = rw (e, closes)

  pub delay_at : (n w : ℕ) → busy ts i h n ≡ Some w → delay ts i h n ≡ Some (w - (n - 1) * (at ts i).period)
  delay_at n w e = rw (e, delay)

  pub delay_none : (n : ℕ) → busy ts i h n ≡ None → delay ts i h n ≡ None
  delay_none n e = rw (e, delay)

  pub window_at : (n : ℕ) → least (closes ts i h) 64 ≡ Some n → window ts i h ≡ largest (delay ts i h) n
  window_at n e = rw (e, window)

  pub window_none : least (closes ts i h) 64 ≡ None → window ts i h ≡ None
  window_none e = rw (e, window)

  -- the number of jobs of a window that has an answer
  pub jobs : (r : ℕ) → window ts i h ≡ Some r → (n : ℕ) × (least (closes ts i h) 64 ≡ Some n) × (largest (delay ts i h) n ≡ Some r)
  jobs r e = go (least (closes ts i h) 64) refl
    where
      go : (o : Option ℕ) → least (closes ts i h) 64 ≡ o → (n : ℕ) × (least (closes ts i h) 64 ≡ Some n) × (largest (delay ts i h) n ≡ Some r)
      go None g = let x = window_none g in cc
      go (Some n) g = (n, g, sym (window_at n g) ∙ e)

  -- a job with a delay has an end
  pub ended : (n b : ℕ) → delay ts i h n ≡ Some b → (w : ℕ) × (busy ts i h n ≡ Some w) × (b ≡ w - (n - 1) * (at ts i).period)
  ended n b e = go (busy ts i h n) refl
    where
      go : (o : Option ℕ) → busy ts i h n ≡ o → (w : ℕ) × (busy ts i h n ≡ Some w) × (b ≡ w - (n - 1) * (at ts i).period)
      go None g = let x = delay_none n g in cc
      go (Some w) g = let x = delay_at n w g in (w, g, cc)

pub times_pos : (m c : ℕ) → 1 ≤ m → 1 ≤ c → 1 ≤ m * c
times_pos m c a b = let x = mul-le-mul_right c a in omega arith

-- ---- the laws

pub window_within : Within window_admits window
window_within ts i h r held l e =
    let t = (at ts i).period in
    let d = (at ts i).deadline in
    let n = jobs ts i h r e in
    let some = least_is (closes ts i h) 64 n.0 n.1 in
    let each = largest_is (delay ts i h) n.0 r n.2 in
    let filled = λ (m : ℕ) (w : ℕ) (b : busy ts i h m ≡ Some w).
    settled_is ts (held_legal window_admits ts held) h (m * (at ts i).execution) ((m - 1) * t + d) w b in
    let first = each 1 (omega arith) some.0.from in
    let end = ended ts i h 1 first.0 first.1 in
    let most = largest_most (delay ts i h) n.0 d (λ m pos le.
    let b = each m pos le in
    let w = ended ts i h m b.0 b.1 in
    (b.0, b.1, omega (arith, w.2, (filled m w.0 w.1).2))) in
    let same : most.0 ≡ r = cc (most.1, n.2) in
    (omega (arith, first.2, end.2, (filled 1 end.0 end.1).0), omega (arith, most.2))

module _ (ts : List Timing) (legal : AllLegal ts) (i : ℕ) (l : i < length ts) (h k : ℕ) (part : Part k h) where
  -- a job ends no later below a part of the tasks
  busy_part : (m w : ℕ) → 1 ≤ m → busy ts i h m ≡ Some w → (v : ℕ) × (busy ts i k m ≡ Some v) × (v ≤ w)
  busy_part m w pos e =
      let base = m * (at ts i).execution in
      let limit = (m - 1) * (at ts i).period + (at ts i).deadline in
      let a = settled_is ts legal h base limit w e in
      let less = demand_part ts legal i h k w part a.0 in
      settles ts legal k base w limit (times_pos m (at ts i).execution pos (legal i l).runs) (omega (arith, a.1)) a.2

  delay_part : (m b : ℕ) → 1 ≤ m → delay ts i h m ≡ Some b → (a : ℕ) × (delay ts i k m ≡ Some a) × (a ≤ b)
  delay_part m b pos e =
      let w = ended ts i h m b e in
      let v = busy_part m w.0 pos w.1 in
      (v.0 - (m - 1) * (at ts i).period, delay_at ts i k m v.0 v.1, omega (arith, w.2, v.2))

  closes_part : (m b : ℕ) → 1 ≤ m → delay ts i h m ≡ Some b → closes ts i h m ≡ true → closes ts i k m ≡ true
  closes_part m b pos e c =
      let next = m * (at ts i).period in
      let w = ended ts i h m b e in
      let v = busy_part m w.0 pos w.1 in
      let early = leb-true w.0 next (sym (closes_at ts i h m w.0 w.1) ∙ c) in
      closes_at ts i k m v.0 v.1 ∙ le-leb v.0 next (omega (arith, v.2))

  window_part : (n r : ℕ) → Least (closes ts i h) n × (n ≤ 64) → largest (delay ts i h) n ≡ Some r
      → (s : ℕ) × (window ts i k ≡ Some s) × (s ≤ r)
  window_part n r some e =
      let each = largest_is (delay ts i h) n r e in
      let last = each n some.0.from (omega arith) in
      let fewer = least_below (closes ts i k) 64 n some.0.from some.1 (closes_part n last.0 some.0.from last.1 some.0.passes) in
      let most = largest_most (delay ts i k) fewer.0 r (λ m pos le.
      let b = each m pos (omega (arith, fewer.2)) in
      let a = delay_part m b.0 pos b.1 in
      (a.0, a.1, omega (arith, a.2, b.2))) in
      (most.0, window_at ts i k fewer.0 fewer.1 ∙ most.1, most.2)

pub window_monotone : Monotone window_admits window
window_monotone ts i h k r held l part e =
    let n = jobs ts i h r e in
    window_part ts (held_legal window_admits ts held) i l h k part n.0 r (least_is (closes ts i h) 64 n.0 n.1) n.2
