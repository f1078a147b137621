-- Each level of the first order has the task of least cost, and on a tie the smallest.
use Rattle.std.proofs.Common.{◌≡◌, ℕ, zero, suc, ◌<◌, ◌≤◌, Bool, ◌⊎◌, List, [], ◌∷◌, ◌++◌, Some, None, filter, Option, sym, refl, ap, ◌∙◌, subst, ap₂, inl, inr, arith}
use Rattle.std.proofs.lemmas.Option.{none-some, same_Some}
use Rattle.std.proofs.lemmas.Bool.{both_ways, cases_eq, cases_lt, cond_both}
use Rattle.orders.specs.Orders.{count, upto, unplaced, Test, Assignment}
use Rattle.orders.specs.Costs.{Cost, Laws, NoMore}
use Rattle.orders.specs.First.{Choice, from, cheaper, cheapest, first_above}
use Rattle.orders.specs.Theorems.{under_others, LeastChoice, FirstOrderIsGreedy}
use Rattle.orders.proofs.Counts.{same_self, same_other, count_append, count_upto, count_upto_else, count_unplaced, count_kept_le}
use Rattle.orders.proofs.Firsts.{chosen, none_answered}
use Rattle.orders.proofs.Bounds.{no_more_self, less_else}

-- ---- unplaced tasks ascend

abbrev Ascending : List ℕ → Type 0
Ascending [] = Unit {0}
Ascending (i ∷ is) = ((j : ℕ) → 0 < count j is → i < j) × Ascending is

ascending_push : (n : ℕ) (is : List ℕ) → Ascending is → ((j : ℕ) → 0 < count j is → j < n) → Ascending (is ++ (n ∷ []))
ascending_push n [] a h = (λ j l. absurd (omega arith), tt)
ascending_push n (i ∷ is) a h = (
  λ j l. elim (cases_lt 0 (count j is)) [
    | inl k ↦ a.0 j k
    | inr g ↦ elim (cases_eq j n) [
      | inl e ↦ omega (arith, h i (omega (arith, same_self i)))
      | inr ne ↦ absurd (omega (arith, count_append j is (n ∷ []), same_other j n ne))
    ]
  ],
  ascending_push n is a.1 (λ j l. h j (omega arith)),
)

ascending_upto : (n : ℕ) → Ascending (upto n)
ascending_upto zero = tt
ascending_upto (suc n) = ascending_push n (upto n) (ascending_upto n) below
  where
    below : (j : ℕ) → 0 < count j (upto n) → j < n
    below j l = elim (cases_lt j n) [ inl k ↦ k | inr g ↦ absurd (omega (arith, count_upto_else n j g)) ]

ascending_kept : (p : ℕ → Bool) (is : List ℕ) → Ascending is → Ascending (filter p is)
ascending_kept p [] a = tt
ascending_kept p (i ∷ is) a =
    cond_both (p i) (i ∷ filter p is) (filter p is) Ascending
    (λ e. (λ j l. a.0 j (omega (arith, count_kept_le p j is)), ascending_kept p is a.1)) (λ e. ascending_kept p is a.1)

-- ---- the cheapest of a list that ascends

-- no other listed task that is answered costs less, and none at the same cost is smaller
record Least {V : Type 0} (n : ℕ) (answer : Test) (c : Cost V) (lower is : List ℕ) (d : Choice) : Type 0 where
  least : (j s : ℕ) → 0 < count j is → under_others n answer lower j ≡ Some s → NoMore c (c.of d.task d.time) (c.of j s)
  smallest : (j s : ℕ) → 0 < count j is → under_others n answer lower j ≡ Some s
      → NoMore c (c.of j s) (c.of d.task d.time) → d.task ≤ j

head_or_tail : (j i : ℕ) (is : List ℕ) → 0 < count j (i ∷ is) → (j ≡ i) ⊎ (0 < count j is)
head_or_tail j i is h = elim (cases_eq j i) [ inl e ↦ inl e | inr ne ↦ inr (omega (arith, same_other j i ne)) ]

module _ {V : Type 0} (n : ℕ) (answer : Test) (c : Cost V) (laws : Laws c) (lower : List ℕ) where
  abbrev answer_to : ℕ → Option ℕ
  answer_to i = under_others n answer lower i

  abbrev price : Choice → V
  price d = c.of d.task d.time

  cheapest_least : (is : List ℕ) → Ascending is → (d : Choice) → cheapest n answer c lower is ≡ Some d → Least n answer c lower is d
  cheapest_least [] a d e = absurd (none-some d e)
  cheapest_least (i ∷ is) a d e = go (answer_to i) refl (cheapest n answer c lower is) (cheapest_least is a.1) (none_answered n answer c lower is) e
    where
      -- the head of the list, as one that is answered
      head : (j r s : ℕ) → answer_to i ≡ Some r → answer_to j ≡ Some s → j ≡ i → c.of i r ≡ c.of j s
      head j r s er es e = ap₂ c.of (sym e) (same_Some r s (sym er ∙ ap answer_to (sym e) ∙ es))

      tail : (k : Choice) → Least n answer c lower is k
          → ((j s : ℕ) → answer_to j ≡ Some s → j ≡ i → NoMore c (price k) (c.of j s))
          → ((j s : ℕ) → answer_to j ≡ Some s → j ≡ i → NoMore c (c.of j s) (price k) → k.task ≤ j) → Least n answer c lower (i ∷ is) k
      tail k h f g = record {
        least = λ j s l q. elim (head_or_tail j i is l) [ inl e ↦ f j s q e | inr t ↦ h.least j s t q ];
        smallest = λ j s l q m. elim (head_or_tail j i is l) [ inl e ↦ g j s q e m | inr t ↦ h.smallest j s t q m ];
      }

      first : (r : ℕ) → answer_to i ≡ Some r → ((j s : ℕ) → 0 < count j is → answer_to j ≡ Some s → NoMore c (c.of i r) (c.of j s))
          → Least n answer c lower (i ∷ is) (record { task = i; time = r })
      first r er f = record {
        least = λ j s l q. elim (head_or_tail j i is l) [
          | inl e ↦ subst (NoMore c (c.of i r)) (head j r s er q e) (no_more_self c laws (c.of i r))
          | inr t ↦ f j s t q
        ];
        smallest = λ j s l q m. elim (head_or_tail j i is l) [ inl e ↦ omega arith | inr t ↦ omega (arith, a.0 j t) ];
      }

      go : (r : Option ℕ) → answer_to i ≡ r → (o : Option Choice) → ((k : Choice) → o ≡ Some k → Least n answer c lower is k)
          → (o ≡ None → (j s : ℕ) → 0 < count j is → answer_to j ≡ Some s → ⊥) → cheaper c i r o ≡ Some d → Least n answer c lower (i ∷ is) d
      go None er o some none e =
          tail d (some d e) (λ j s q h. absurd (none-some s (sym er ∙ ap answer_to (sym h) ∙ q)))
          (λ j s q h m. absurd (none-some s (sym er ∙ ap answer_to (sym h) ∙ q)))
      go (Some r) er None some none e =
          subst (Least n answer c lower (i ∷ is)) (same_Some (record { task = i; time = r }) d e)
          (first r er (λ j s l q. absurd (none refl j s l q)))
      go (Some r) er (Some k) some none e =
          subst (Least n answer c lower (i ∷ is)) (same_Some _ d e)
          (cond_both (c.no_more (c.of i r) (price k)) (record { task = i; time = r }) k (Least n answer c lower (i ∷ is))
          (λ t. first r er (λ j s l q. laws.chain (c.of i r) (price k) (c.of j s) t ((some k refl).least j s l q)))
          (λ t. tail k (some k refl)
          (λ j s q h. subst (NoMore c (price k)) (head j r s er q h) (less_else c laws (c.of i r) (price k) t))
          (λ j s q h m. absurd (both_ways (c.no_more (c.of i r) (price k)) t (subst (λ x. NoMore c x (price k)) (sym (head j r s er q h)) m)))))

  -- ---- the levels of the first order

  cheapest_choice : (d : Choice) → cheapest n answer c lower (unplaced n lower) ≡ Some d → LeastChoice n answer c lower d
  cheapest_choice d e = record {
    answered = (chosen n answer c lower (unplaced n lower) d e).answered;
    least = λ j s l q. h.least j s (there j l q);
    smallest = λ j s l q. h.smallest j s (there j l q);
  }
    where
      h : Least n answer c lower (unplaced n lower) d
      h = cheapest_least (unplaced n lower) (ascending_kept _ (upto n) (ascending_upto n)) d e

      there : (j : ℕ) → j < n → count j lower ≡ 0 → 0 < count j (unplaced n lower)
      there j l q = omega (arith, count_unplaced n j lower q, count_upto n j l)

module _ {V : Type 0} (n : ℕ) (answer : Test) (c : Cost V) (laws : Laws c) where
  abbrev Greedy : List ℕ → Type 0
  Greedy o = (upper lower : List ℕ) (i : ℕ) → o ≡ upper ++ (i ∷ lower) → (t : ℕ) × LeastChoice n answer c lower (record { task = i; time = t })

  greedy_more : (o : List ℕ) (d : Choice) → cheapest n answer c o (unplaced n o) ≡ Some d → Greedy o → Greedy (d.task ∷ o)
  greedy_more o d e g [] lower i q =
      let h : d.task ≡ i = cc in
      let l : o ≡ lower = cc in (
        d.time,
        subst (λ j. LeastChoice n answer c lower (record { task = j; time = d.time })) h
            (subst (λ os. LeastChoice n answer c os d) l (cheapest_choice n answer c laws o d e)),
      )
  greedy_more o d e g (u ∷ upper) lower i q = let l : o ≡ upper ++ (i ∷ lower) = cc in g upper lower i l

  above_greedy : (k : ℕ) (a b : Assignment) → Greedy a.order → first_above n answer c k a ≡ Some b → Greedy b.order
  above_greedy zero a b g e = subst (λ x. Greedy x.order) (same_Some a b e) g
  above_greedy (suc k) a b g e = go (cheapest n answer c a.order (unplaced n a.order)) refl e (above_greedy k)
    where
      go : (o : Option Choice) → cheapest n answer c a.order (unplaced n a.order) ≡ o
          → from o (λ d. first_above n answer c k (record { order = d.task ∷ a.order; times = d.time ∷ a.times })) ≡ Some b
          → ((a b : Assignment) → Greedy a.order → first_above n answer c k a ≡ Some b → Greedy b.order) → Greedy b.order
      go None q h rest = absurd (none-some b h)
      go (Some d) q h rest =
          rest (record { order = d.task ∷ a.order; times = d.time ∷ a.times }) b (greedy_more a.order d q g) h

  nothing_greedy : Greedy []
  nothing_greedy [] lower i q = cc
  nothing_greedy (u ∷ upper) lower i q = cc

pub first_order_is_greedy : (V : Type 0) → FirstOrderIsGreedy V
first_order_is_greedy V n answer c laws a e =
    above_greedy n answer c laws n (record { order = []; times = [] }) a (nothing_greedy n answer c laws) e
