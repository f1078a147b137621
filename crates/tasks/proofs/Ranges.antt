-- Searches, sums and maxima over a range.
use Rattle.std.proofs.Common.{◌≡◌, ℕ, zero, suc, ◌+◌, ◌-◌, ◌<◌, ◌≤◌, max, Bool, true, false, cond, ◌⊎◌, Some, None, Option, sym, refl, ap, ◌∙◌, subst, inl, inr, add-one, arith}
use Rattle.std.proofs.lemmas.Bool.{cases_Bool, cases_lt, both_ways}
use Rattle.tasks.specs.Numbers.{least, largest, sum_below, max_below}

pub sum_front : (n : ℕ) (f : ℕ → ℕ) → sum_below (suc n) f ≡ f 0 + sum_below n (λ i. f (suc i))
unfolding sum_below
sum_front zero f = omega arith
sum_front (suc n) f = ap (λ (x : ℕ). x + f (suc n)) (sum_front n f) ∙ omega arith

pub sum_mono : (n : ℕ) (f g : ℕ → ℕ) → ((j : ℕ) → j < n → f j ≤ g j) → sum_below n f ≤ sum_below n g
unfolding sum_below
sum_mono zero f g h = omega arith
sum_mono (suc n) f g h = let e = sum_mono n f g (λ j l. h j (omega arith)) in let k = h n (omega arith) in omega arith

pub sum_up : (m n : ℕ) (f : ℕ → ℕ) → m ≤ n → sum_below m f ≤ sum_below n f
unfolding sum_below
sum_up zero zero f h = omega arith
sum_up (suc m) zero f h = absurd (omega arith)
sum_up m (suc n) f h = elim (cases_lt n m) [
  | inl l ↦ let e : m ≡ suc n = omega arith in rw e (omega arith)
  | inr l ↦ let e = sum_up m n f l in omega arith
]

-- ---- `least`

-- r is the least from 1 that passes
pub record Least (test : ℕ → Bool) (r : ℕ) : Type 0 where
  pub from : 1 ≤ r
  pub passes : test r ≡ true
  pub first : (k : ℕ) → 1 ≤ k → k < r → test k ≡ false

module _ (test : ℕ → Bool) where
  keeps : (n r : ℕ) → least test n ≡ Some r → least test (suc n) ≡ Some r
  unfolding least
  keeps n r e = rw e

  turns : (n : ℕ) → least test n ≡ None → least test (suc n) ≡ cond (test (suc n)) (Some (suc n)) None
  unfolding least
  turns n e = rw e

  pub least_none : (n : ℕ) → ((k : ℕ) → 1 ≤ k → k ≤ n → test k ≡ false) → least test n ≡ None
  unfolding least
  least_none zero h = refl
  least_none (suc n) h =
      turns n (least_none n (λ k a b. h k a (omega arith))) ∙ ap (λ (b : Bool). cond b (Some (suc n)) None) (h (suc n) (omega arith) (omega arith))

  pub least_some : (n r : ℕ) → Least test r → r ≤ n → least test n ≡ Some r
  unfolding least
  least_some zero r l h = absurd (omega (arith, l.from))
  least_some (suc n) r l h = elim (cases_lt n r) [
    | inl o ↦
        let e : r ≡ suc n = omega arith in
        turns n (least_none n (λ k a b. l.first k a (omega arith)))
        ∙ ap (λ (b : Bool). cond b (Some (suc n)) None) (subst (λ (x : ℕ). test x ≡ true) e l.passes)
        ∙ ap (λ (x : ℕ). Some x) (sym e)
    | inr o ↦ keeps n r (least_some n r l o)
  ]

  find : (n : ℕ) → ((r : ℕ) × Least test r × (r ≤ n)) ⊎ ((k : ℕ) → 1 ≤ k → k ≤ n → test k ≡ false)
  find zero = inr (λ k a b. absurd (omega arith))
  find (suc n) = elim (find n) [
    | inl s ↦ inl (s.0, s.1, omega (arith, s.2))
    | inr none ↦ elim (cases_Bool (test (suc n))) [
      | inl e ↦ inl (suc n, record { from = omega arith; passes = e; first = λ k a b. none k a (omega arith) }, omega arith)
      | inr e ↦ inr (λ k a b. elim (cases_lt n k) [
        | inl o ↦ let x : k ≡ suc n = omega arith in rw x e
        | inr o ↦ none k a o
      ])
    ]
  ]

  -- what an answer says
  pub least_is : (n r : ℕ) → least test n ≡ Some r → Least test r × (r ≤ n)
  least_is n r e = elim (find n) [
    | inl s ↦
        let h = least_some n s.0 s.1 s.2 in
        let x : s.0 ≡ r = cc in
        (subst (Least test) x s.1, omega (arith, s.2))
    | inr none ↦
        let h = least_none n none in
        let z : ◌≡◌ {A = ℕ} 0 1 = cc in
        absurd (omega arith)
  ]

  pub least_isnt : (n : ℕ) → least test n ≡ None → (k : ℕ) → 1 ≤ k → k ≤ n → test k ≡ false
  least_isnt n e = elim (find n) [
    | inl s ↦
        let h = least_some n s.0 s.1 s.2 in
        let z : ◌≡◌ {A = ℕ} 0 1 = cc in
        absurd (omega arith)
    | inr none ↦ none
  ]

  -- what passes bounds the answer
  pub least_below : (n k : ℕ) → 1 ≤ k → k ≤ n → test k ≡ true → (r : ℕ) × (least test n ≡ Some r) × (r ≤ k)
  least_below n k a b e = elim (find n) [
    | inl s ↦ (
      s.0,
      least_some n s.0 s.1 s.2,
      elim (cases_lt k s.0) [
        | inl o ↦ absurd (both_ways (test k) (s.1.first k a o) e)
        | inr o ↦ o
      ],
    )
    | inr none ↦ absurd (both_ways (test k) (none k a b) e)
  ]

pub max_next : (j : ℕ) (f : ℕ → ℕ) → max_below (j + 1) f ≡ max (max_below j f) (f j)
unfolding max_below
max_next j f = rw add-one

pub sum_next : (j : ℕ) (f : ℕ → ℕ) → sum_below (j + 1) f ≡ sum_below j f + f j
unfolding sum_below
sum_next j f = rw add-one

-- ---- `largest`

suc_sub : (n : ℕ) → suc n - 1 ≡ n
suc_sub n = omega arith

module _ (f : ℕ → Option ℕ) where
  largest_step : (n a b : ℕ) → largest f n ≡ Some a → f (suc n) ≡ Some b → largest f (suc n) ≡ Some (max a b)
  unfolding largest
  largest_step n a b e g = rw (e, g)

  step_none : (n : ℕ) → largest f n ≡ None → largest f (suc n) ≡ None
  unfolding largest
  step_none n e = rw e

  step_missing : (n : ℕ) → f (suc n) ≡ None → largest f (suc n) ≡ None
  unfolding largest
  step_missing n e = go (largest f n) refl
    where
      go : (o : Option ℕ) → largest f n ≡ o → largest f (suc n) ≡ None
      go None g = rw g
      go (Some a) g = rw (g, e)

  pub largest_next : (n a b : ℕ) → 1 ≤ n → largest f (n - 1) ≡ Some a → f n ≡ Some b → largest f n ≡ Some (max a b)
  largest_next zero a b pos e g = absurd (omega arith)
  largest_next (suc n) a b pos e g = largest_step n a b (subst (λ (m : ℕ). largest f m ≡ Some a) (suc_sub n) e) g

  pub largest_missing : (n m : ℕ) → 1 ≤ m → m ≤ n → f m ≡ None → largest f n ≡ None
  largest_missing zero m pos le e = absurd (omega arith)
  largest_missing (suc n) m pos le e = elim (cases_lt n m) [
    | inl o ↦ let x : m ≡ suc n = omega arith in step_missing n (subst (λ (j : ℕ). f j ≡ None) x e)
    | inr o ↦ step_none n (largest_missing n m pos o e)
  ]

  -- at most r, if each is there and at most r
  pub largest_most : (n r : ℕ) → ((m : ℕ) → 1 ≤ m → m ≤ n → (b : ℕ) × (f m ≡ Some b) × (b ≤ r)) → (s : ℕ) × (largest f n ≡ Some s) × (s ≤ r)
  unfolding largest
  largest_most zero r each = (0, refl, omega arith)
  largest_most (suc n) r each =
      let a = largest_most n r (λ m pos le. each m pos (omega arith)) in
      let b = each (suc n) (omega arith) (omega arith) in
      (max a.0 b.0, largest_step n a.0 b.0 a.1 b.1, omega (arith, a.2, b.2))

  -- each is there, and at most the largest
  pub largest_is : (n r : ℕ) → largest f n ≡ Some r → (m : ℕ) → 1 ≤ m → m ≤ n → (b : ℕ) × (f m ≡ Some b) × (b ≤ r)
  largest_is zero r e m pos le = absurd (omega arith)
  largest_is (suc n) r e m pos le = go (λ a g. largest_is n a g m pos) (largest f n) (f (suc n)) refl refl
    where
      go : ((a : ℕ) → largest f n ≡ Some a → m ≤ n → (b : ℕ) × (f m ≡ Some b) × (b ≤ a))
          → (o p : Option ℕ) → largest f n ≡ o → f (suc n) ≡ p → (b : ℕ) × (f m ≡ Some b) × (b ≤ r)
      go before None p eo ep = let x = step_none n eo in let z : ◌≡◌ {A = ℕ} 0 1 = cc in absurd (omega arith)
      go before (Some a) None eo ep = let x = step_missing n ep in let z : ◌≡◌ {A = ℕ} 0 1 = cc in absurd (omega arith)
      go before (Some a) (Some b) eo ep =
          let x = largest_step n a b eo ep in
          let top : max a b ≡ r = cc in
          elim (cases_lt n m) [
            | inl o ↦ let here : m ≡ suc n = omega arith in (b, ap f here ∙ ep, omega arith)
            | inr o ↦ let i = before a eo o in (i.0, i.1, omega (arith, i.2))
          ]
