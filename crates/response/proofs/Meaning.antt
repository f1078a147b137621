-- The definitions of the tests, shown to say what their laws in words say.
use Rattle.std.proofs.Common.{◌≡◌, ℕ, zero, suc, ◌+◌, ◌-◌, ◌*◌, ◌<◌, ◌≤◌, false, ◌⊎◌, List, length, Some, None, Option, sym, refl, ap, ◌∙◌, subst, inl, inr, arith}
use Rattle.std.proofs.lemmas.Bool.{cases_Bool, cases_lt, le-leb, lt-leb, leb-true, ne_eqb, both_ways}
use Rattle.tasks.specs.Numbers.{largest, max_below}
use Rattle.tasks.specs.Sets.{holds}
use Rattle.tasks.specs.declared.task.Timing.{Timing}
use Rattle.tasks.specs.Timing.{at}
use Rattle.tasks.proofs.Ranges.{Least, least_some, least_is, largest_is, largest_most}
use Rattle.response.specs.Tests.{blocking, section_below, busy, closes, delay, window}
use Rattle.response.specs.Laws.{LeastSolution, Below, BusyWindow, LongestDelay, BlockingIsLongest, OneJobIsLeastSolution, WindowIsLongestDelay}
use Rattle.response.specs.Demand.{AllLegal, least_solution}
use Rattle.response.proofs.Demand.{solution_settles, unsolved_settles, settles_unsolved}
use Rattle.response.specs.Blocking.{section_held}
use Rattle.response.proofs.Blocking.{section_other, section_self}
use Rattle.response.specs.Jobs.{jobs, ended, closes_at, delay_at, window_at}
use Rattle.response.proofs.Jobs.{warmer}

-- ---- the blocking

module _ (ts : List Timing) (i h : ℕ) where
  below_section : (j : ℕ) → Below ts i h j → section_below ts i h j ≡ (at ts j).section
  below_section j b = section_other ts i h j (ne_eqb j i b.other) b.lower

  section_bound : (n j : ℕ) → j < n → section_below ts i h j ≤ max_below n (section_below ts i h)
  unfolding max_below
  section_bound zero j l = absurd (omega arith)
  section_bound (suc n) j l = elim (cases_lt j n) [
    | inl o ↦ let before = section_bound n j o in omega arith
    | inr o ↦ let here : j ≡ n = omega arith in let same = ap (section_below ts i h) here in omega arith
  ]

  -- what a section below i is of
  section_of : (j : ℕ) → j < length ts → (section_below ts i h j ≡ 0) ⊎ (Below ts i h j × (section_below ts i h j ≡ (at ts j).section))
  section_of j l = elim (cases_Bool (holds h j)) [
    | inl above ↦ inl (section_held ts i h j above)
    | inr under ↦ elim (cases_lt j i) [
      | inl o ↦ let b : Below ts i h j = record { stands = l; other = λ e. omega arith; lower = under } in inr (b, below_section j b)
      | inr o ↦ elim (cases_lt i j) [
        | inl p ↦ let b : Below ts i h j = record { stands = l; other = λ e. omega arith; lower = under } in inr (b, below_section j b)
        | inr p ↦ inl (section_self ts i h j (omega arith))
      ]
    ]
  ]

  section_reached : (n : ℕ) → n ≤ length ts → (max_below n (section_below ts i h) ≡ 0)
      ⊎ ((j : ℕ) × Below ts i h j × (max_below n (section_below ts i h) ≡ (at ts j).section))
  unfolding max_below
  section_reached zero l = inl refl
  section_reached (suc n) l =
      elim (cases_lt (max_below n (section_below ts i h)) (section_below ts i h n)) [
        | inl o ↦ elim (section_of n (omega arith)) [
          | inl none ↦ absurd (omega arith)
          | inr b ↦ inr (n, b.0, omega (arith, b.1))
        ]
        | inr o ↦ elim (section_reached n (omega arith)) [
          | inl none ↦ inl (omega arith)
          | inr b ↦ inr (b.0, b.1, omega (arith, b.2))
        ]
      ]

pub blocking_is_longest : BlockingIsLongest
blocking_is_longest ts i h = record {
  bound = λ j b. let most = section_bound ts i h (length ts) j b.stands in let same = below_section ts i h j b in omega arith;
  reached = section_reached ts i h (length ts) (omega arith);
}

-- ---- the one-job test

pub one_job_is_least_solution : OneJobIsLeastSolution
one_job_is_least_solution ts i h =
    let base = (at ts i).execution + blocking ts i h in
    let limit = (at ts i).deadline in
    record {
      sound = least_solution ts h base limit;
      complete = solution_settles ts h base limit;
      late = settles_unsolved ts h base limit;
      unsolved = unsolved_settles ts h base limit;
    }

-- ---- the window test

module _ (f : ℕ → Option ℕ) where
  -- one is r, or each is below r
  seek : (n r : ℕ) → ((m : ℕ) → 1 ≤ m → m ≤ n → (b : ℕ) × (f m ≡ Some b) × (b ≤ r))
      → ((m : ℕ) × (1 ≤ m) × (m ≤ n) × (f m ≡ Some r)) ⊎ ((m : ℕ) → 1 ≤ m → m ≤ n → (b : ℕ) × (f m ≡ Some b) × (b < r))
  seek zero r each = inr (λ m a l. absurd (omega arith))
  seek (suc n) r each = elim (seek n r (λ m a l. each m a (omega arith))) [
    | inl s ↦ inl (s.0, s.1, omega (arith, s.2), s.3)
    | inr less ↦
        let here = each (suc n) (omega arith) (omega arith) in
        elim (cases_lt here.0 r) [
          | inl o ↦ inr (λ m a l. elim (cases_lt n m) [
            | inl p ↦ let last : m ≡ suc n = omega arith in (here.0, ap f last ∙ here.1, o)
            | inr p ↦ less m a p
          ])
          | inr o ↦ let same : here.0 ≡ r = omega (arith, here.2) in inl (suc n, omega arith, omega arith, here.1 ∙ ap Some same)
        ]
  ]

  -- the largest of some is one of them
  largest_reached : (n r : ℕ) → 1 ≤ n → largest f n ≡ Some r → (m : ℕ) × (1 ≤ m) × (m ≤ n) × (f m ≡ Some r)
  largest_reached n r pos e = elim (seek n r (largest_is f n r e)) [
    | inl s ↦ s
    | inr less ↦
        let one = less 1 (omega arith) pos in
        let most = largest_most f n (r - 1) (λ m a l. let b = less m a l in (b.0, b.1, omega (arith, b.2))) in
        let same : most.0 ≡ r = cc (most.1, e) in
        absurd (omega (arith, most.2, one.2))
  ]

-- the number of an answer, or 0
abbrev value : Option ℕ → ℕ
value None = 0
value (Some n) = n

back : (p : ℕ) → (p + 1) - 1 ≡ p
back p = omega arith

module _ (ts : List Timing) (i h : ℕ) where
  -- when job p ends
  abbrev end : ℕ → ℕ
  end p = value (busy ts i h (p + 1))

  solution_of : (p w : ℕ) → busy ts i h (p + 1) ≡ Some w
      → LeastSolution ts h ((p + 1) * (at ts i).execution) w × (w ≤ p * (at ts i).period + (at ts i).deadline)
  solution_of p w e =
      let s = least_solution ts h ((p + 1) * (at ts i).execution) (((p + 1) - 1) * (at ts i).period + (at ts i).deadline) w e in
      (s.0, subst (λ (m : ℕ). w ≤ m * (at ts i).period + (at ts i).deadline) (back p) s.1)

  busy_of : (p w : ℕ) → LeastSolution ts h ((p + 1) * (at ts i).execution) w → w ≤ p * (at ts i).period + (at ts i).deadline
      → busy ts i h (p + 1) ≡ Some w
  busy_of p w s le =
      solution_settles ts h ((p + 1) * (at ts i).execution) (((p + 1) - 1) * (at ts i).period + (at ts i).deadline) w s
      (subst (λ (m : ℕ). w ≤ m * (at ts i).period + (at ts i).deadline) (sym (back p)) le)

  delay_of : (p w : ℕ) → busy ts i h (p + 1) ≡ Some w → delay ts i h (p + 1) ≡ Some (w - p * (at ts i).period)
  delay_of p w e = delay_at ts i h (p + 1) w e ∙ ap (λ (m : ℕ). Some (w - m * (at ts i).period)) (back p)

  -- a job with a delay
  job_of : (p b : ℕ) → delay ts i h (p + 1) ≡ Some b → (busy ts i h (p + 1) ≡ Some (end p)) × (b ≡ end p - p * (at ts i).period)
  job_of p b e =
      let w = ended ts i h (p + 1) b e in
      let same : end p ≡ w.0 = ap value w.1 in (
        w.1 ∙ ap Some (sym same),
        w.2 ∙ ap (λ (m : ℕ). w.0 - m * (at ts i).period) (back p) ∙ ap (λ (x : ℕ). x - p * (at ts i).period) (sym same),
      )

  -- ---- an answer has its window
  module _ (q r : ℕ) (some : Least (closes ts i h) (q + 1)) (few : q + 1 ≤ 64) (e : largest (delay ts i h) (q + 1) ≡ Some r) where
    job : (p : ℕ) → p ≤ q → (busy ts i h (p + 1) ≡ Some (end p)) × (end p ≤ p * (at ts i).period + r)
    job p l =
        let b = largest_is (delay ts i h) (q + 1) r e (p + 1) (omega arith) (omega arith) in
        let j = job_of p b.0 b.1 in
        (j.0, omega (arith, j.1, b.2))

    window_of : BusyWindow ts i h q end
    window_of = record {
      short = omega arith;
      ends = λ p l. (solution_of p (end p) (job p l).0).0;
      in_time = λ p l. (solution_of p (end p) (job p l).0).1;
      running = λ p l. elim (cases_lt ((p + 1) * (at ts i).period) (end p)) [
        | inl o ↦ o
        | inr o ↦ absurd (both_ways (closes ts i h (p + 1)) (some.first (p + 1) (omega arith) (omega arith))
            (closes_at ts i h (p + 1) (end p) (job p (omega arith)).0 ∙ le-leb (end p) ((p + 1) * (at ts i).period) o))
      ];
      closed = leb-true (end q) ((q + 1) * (at ts i).period) (sym (closes_at ts i h (q + 1) (end q) (job q (omega arith)).0) ∙ some.passes);
    }

    -- a job ends after its release
    after_release : AllLegal ts → i < length ts → (p : ℕ) → p ≤ q → p * (at ts i).period ≤ end p
    after_release legal l zero le = omega arith
    after_release legal l (suc p) le =
        let before = window_of.running p (omega arith) in
        let next : suc p ≡ p + 1 = omega arith in
        let warm = warmer ts legal i l h (p + 1) (end p) _ (omega arith) (job p (omega arith)).0 in
        let s = window_of.ends (suc p) le in
        let here = subst (λ (m : ℕ). LeastSolution ts h ((m + 1) * (at ts i).execution) (end (suc p))) next s in
        let later = warm.lowest (end (suc p)) here.positive here.solves in
        let turn = ap (λ (m : ℕ). m * (at ts i).period) next in
        omega arith

    delay_longest : AllLegal ts → i < length ts → LongestDelay ts i q end r
    delay_longest legal l = record {
      bound = λ p le. (job p le).1;
      reached =
          let m = largest_reached (delay ts i h) (q + 1) r (omega arith) e in
          let p : ℕ = m.0 - 1 in
          let from : m.0 ≡ p + 1 = omega (arith, m.1) in
          let j = job_of p r (ap (delay ts i h) (sym from) ∙ m.3) in
          let le : p ≤ q = omega (arith, m.2) in
          let after = after_release legal l p le in
          (p, le, omega (arith, j.1));
    }

  -- ---- a window has its answer
  module _ (q : ℕ) (w : ℕ → ℕ) (b : BusyWindow ts i h q w) where
    busy_at : (p : ℕ) → p ≤ q → busy ts i h (p + 1) ≡ Some (w p)
    busy_at p l = busy_of p (w p) (b.ends p l) (b.in_time p l)

    delay_from : (m : ℕ) → 1 ≤ m → m ≤ q + 1 → delay ts i h m ≡ Some (w (m - 1) - (m - 1) * (at ts i).period)
    delay_from m a l =
        let p : ℕ = m - 1 in
        let from : m ≡ p + 1 = omega arith in
        ap (delay ts i h) from ∙ delay_of p (w p) (busy_at p (omega arith))

    open_before : (k : ℕ) → 1 ≤ k → k < q + 1 → closes ts i h k ≡ false
    open_before k a l =
        let p : ℕ = k - 1 in
        let from : k ≡ p + 1 = omega arith in
        ap (closes ts i h) from ∙ closes_at ts i h (p + 1) (w p) (busy_at p (omega arith))
        ∙ lt-leb (w p) ((p + 1) * (at ts i).period) (b.running p (omega arith))

    window_is : window ts i h ≡ largest (delay ts i h) (q + 1)
    window_is =
        window_at ts i h (q + 1)
        (least_some (closes ts i h) 64 (q + 1)
        (record {
          from = omega arith;
          passes = closes_at ts i h (q + 1) (w q) (busy_at q (omega arith)) ∙ le-leb (w q) ((q + 1) * (at ts i).period) b.closed;
          first = open_before;
        })
        (omega (arith, b.short)))

    -- an answer no later than any bound of the delays
    answer_most : (r : ℕ) → ((p : ℕ) → p ≤ q → w p ≤ p * (at ts i).period + r) → (s : ℕ) × (window ts i h ≡ Some s) × (s ≤ r)
    answer_most r bound =
        let most = largest_most (delay ts i h) (q + 1) r (λ m a l.
        (w (m - 1) - (m - 1) * (at ts i).period, delay_from m a l, let le = bound (m - 1) (omega arith) in omega arith)) in
        (most.0, window_is ∙ most.1, most.2)

    answer_is : (r : ℕ) → LongestDelay ts i q w r → window ts i h ≡ Some r
    answer_is r d =
        let s = answer_most r d.bound in
        let p = d.reached in
        let each = largest_is (delay ts i h) (q + 1) s.0 (sym window_is ∙ s.1) (p.0 + 1) (omega arith) (omega (arith, p.1)) in
        let here = delay_of p.0 (w p.0) (busy_at p.0 p.1) in
        let same : each.0 ≡ w p.0 - p.0 * (at ts i).period = cc (here, each.1) in
        let top : s.0 ≡ r = omega (arith, s.2, each.2, p.2) in
        s.1 ∙ ap Some top

module _ (ts : List Timing) (i h : ℕ) (legal : AllLegal ts) (l : i < length ts) where
  window_sound : (r : ℕ) → window ts i h ≡ Some r → (q : ℕ) × (w : ℕ → ℕ) × BusyWindow ts i h q w × LongestDelay ts i q w r
  window_sound r e =
      let n = jobs ts i h r e in
      let some = least_is (closes ts i h) 64 n.0 n.1 in
      let q : ℕ = n.0 - 1 in
      let count : n.0 ≡ q + 1 = omega (arith, some.0.from) in
      let first = subst (Least (closes ts i h)) count some.0 in
      let all = subst (λ (m : ℕ). largest (delay ts i h) m ≡ Some r) count n.2 in
      let few : q + 1 ≤ 64 = omega (arith, some.1) in
      (q, end ts i h, window_of ts i h q r first few all, delay_longest ts i h q r first few all legal l)

  window_late : window ts i h ≡ None → (q : ℕ) (w : ℕ → ℕ) → BusyWindow ts i h q w → ⊥
  window_late e q w b =
      let s = answer_most ts i h q w b (at ts i).deadline b.in_time in
      cc (e, s.1)

  window_unending : ((q : ℕ) (w : ℕ → ℕ) → BusyWindow ts i h q w → ⊥) → window ts i h ≡ None
  window_unending none = go (window ts i h) refl
    where
      go : (o : Option ℕ) → window ts i h ≡ o → window ts i h ≡ None
      go None e = e
      go (Some r) e = let s = window_sound r e in absurd (none s.0 s.1 s.2)

pub window_is_longest_delay : WindowIsLongestDelay
window_is_longest_delay ts i h legal l = record {
  sound = window_sound ts i h legal l;
  complete = λ r q w b d. answer_is ts i h q w b r d;
  late = window_late ts i h legal l;
  unending = window_unending ts i h legal l;
}
