-- The first order is none exactly if every order fails, and else it passes.
use Rattle.std.proofs.Common.{◌≡◌, ℕ, zero, suc, ◌+◌, ◌<◌, ◌≤◌, ◌⊎◌, List, [], ◌∷◌, ◌++◌, length, Some, None, Option, sym, refl, ap, ◌∙◌, subst, inl, inr, arith}
use Rattle.std.proofs.lemmas.Option.{none-some, same_Some}
use Rattle.std.proofs.lemmas.Bool.{cases_eq, cases_lt, cases_cond}
use Rattle.orders.specs.Orders.{word, count, unplaced, Order, Test, Monotone, Assignment, Passes}
use Rattle.orders.specs.Costs.{Cost}
use Rattle.orders.specs.First.{Choice, from, cheaper, cheapest, first_above, first_order}
use Rattle.orders.specs.Theorems.{under_others, FirstOrderIsExact}
use Rattle.orders.proofs.Counts.{front_nothing, same_self, same_other, count_append, count_upto, Front, Free, unplaced_free, all_counted, front_cons, length_unplaced, order_from_front, order_alike, front_of_order, count_unplaced, some_task}
use Rattle.orders.proofs.Words.{answered_under_part, Sooner}
use Rattle.orders.proofs.Levels.{Timed, timed_from, times_from, timed_alike, Split, split, answered_at}

-- ---- the choice at a level

pub record Chosen (n : ℕ) (answer : Test) (lower is : List ℕ) (d : Choice) : Type 0 where
  pub listed : 0 < count d.task is
  pub answered : under_others n answer lower d.task ≡ Some d.time

module _ {V : Type 0} (n : ℕ) (answer : Test) (c : Cost V) (lower : List ℕ) where
  pub chosen : (is : List ℕ) (d : Choice) → cheapest n answer c lower is ≡ Some d → Chosen n answer lower is d
  chosen [] d e = absurd (none-some d e)
  chosen (i ∷ is) d e = go (under_others n answer lower i) refl (cheapest n answer c lower is) (chosen is) e
    where
      later : (k : Choice) → Chosen n answer lower is k → Chosen n answer lower (i ∷ is) k
      later k h = record { listed = omega (arith, h.listed); answered = h.answered }

      here : (r : ℕ) → under_others n answer lower i ≡ Some r → Chosen n answer lower (i ∷ is) (record { task = i; time = r })
      here r h = record { listed = omega (arith, same_self i); answered = h }

      go : (a : Option ℕ) → under_others n answer lower i ≡ a → (o : Option Choice) → ((k : Choice) → o ≡ Some k → Chosen n answer lower is k)
          → cheaper c i a o ≡ Some d → Chosen n answer lower (i ∷ is) d
      go None ea o rest e = later d (rest d e)
      go (Some r) ea None rest e = subst (Chosen n answer lower (i ∷ is)) (same_Some (record { task = i; time = r }) d e) (here r ea)
      go (Some r) ea (Some k) rest e =
          elim (cases_cond (c.no_more (c.of i r) (c.of k.task k.time)) (record { task = i; time = r }) k d (sym (same_Some _ d e))) [
            | inl q ↦ subst (Chosen n answer lower (i ∷ is)) (sym q) (here r ea)
            | inr q ↦ subst (Chosen n answer lower (i ∷ is)) (sym q) (later k (rest k refl))
          ]

  pub none_answered : (is : List ℕ) → cheapest n answer c lower is ≡ None → (j r : ℕ) → 0 < count j is → under_others n answer lower j ≡ Some r → ⊥
  none_answered [] e j r l q = omega arith
  none_answered (i ∷ is) e j r l q = go (under_others n answer lower i) refl (cheapest n answer c lower is) (λ h k. none_answered is h j r k q) e
    where
      go : (a : Option ℕ) → under_others n answer lower i ≡ a → (o : Option Choice) → (o ≡ None → 0 < count j is → ⊥) → cheaper c i a o ≡ None → ⊥
      go None ea o rest e = elim (cases_eq j i) [
        | inl s ↦ none-some r (sym ea ∙ ap (under_others n answer lower) (sym s) ∙ q)
        | inr ne ↦ rest e (omega (arith, same_other j i ne))
      ]
      go (Some s) ea None rest e = none-some _ (sym e)
      go (Some s) ea (Some k) rest e = none-some _ (sym e)

-- ---- the levels assigned so far, from below, are timed under all other tasks

record Low (n : ℕ) (answer : Test) (a : Assignment) : Type 0 where
  front : Front n a.order
  timed : Timed answer (unplaced n a.order) a.order a.times

low_more : (n : ℕ) (answer : Test) (a : Assignment) (d : Choice) → Low n answer a → Chosen n answer a.order (unplaced n a.order) d
    → Low n answer (record { order = d.task ∷ a.order; times = d.time ∷ a.times })
low_more n answer a d low h = record {
  front = front;
  timed = (
    h.answered,
    timed_alike answer (unplaced n a.order) (unplaced n (d.task ∷ a.order) ++ (d.task ∷ [])) a.order a.times
        (λ j. omega (
          arith,
          count_append j (unplaced n (d.task ∷ a.order)) (d.task ∷ []),
          all_counted n a.order low.front j,
          all_counted n (d.task ∷ a.order) front j,
        )) low.timed,
  );
}
  where
    front : Front n (d.task ∷ a.order)
    front = front_cons n a.order low.front d.task (unplaced_free n d.task a.order h.listed)

low_passes : (n : ℕ) (answer : Test) (a : Assignment) → Low n answer a → length a.order ≡ n → Passes n answer a
low_passes n answer a low e = (
  order,
  times_from answer [] a.order a.times
      (timed_alike answer (unplaced n a.order) [] a.order a.times (λ i. omega (arith, order_alike n a.order order i, all_counted n a.order low.front i)) low.timed),
)
  where
    order : Order n a.order
    order = order_from_front n a.order low.front e

-- ---- the lowest task of an order that is one of some others

record Lowest (u o : List ℕ) : Type 0 where
  task : ℕ
  upper : List ℕ
  lower : List ℕ
  is : o ≡ upper ++ (task ∷ lower)
  one : 0 < count task u
  none_lower : (j : ℕ) → 0 < count j u → count j lower ≡ 0

lowest : (u o : List ℕ) → Lowest u o ⊎ ((j : ℕ) → 0 < count j u → count j o ≡ 0)
lowest u [] = inr (λ j h. refl)
lowest u (i ∷ o) = go (lowest u o)
  where
    go : Lowest u o ⊎ ((j : ℕ) → 0 < count j u → count j o ≡ 0) → Lowest u (i ∷ o) ⊎ ((j : ℕ) → 0 < count j u → count j (i ∷ o) ≡ 0)
    go (inl l) = inl (record { task = l.task; upper = i ∷ l.upper; lower = l.lower; is = ap (λ os. i ∷ os) l.is; one = l.one; none_lower = l.none_lower })
    go (inr none) = elim (cases_lt 0 (count i u)) [
      | inl h ↦ inl (record { task = i; upper = []; lower = o; is = refl; one = h; none_lower = none })
      | inr g ↦ inr (λ j h. omega (arith, none j h, same_other j i (λ e. omega (arith, ap (λ k. count k u) e))))
    ]

-- ---- where a level finds no task, every order fails

module _ {V : Type 0} (n : ℕ) (answer : Test) (c : Cost V) (mono : Monotone n answer) where
  stuck : (a b : Assignment) → Low n answer a → length a.order < n
      → cheapest n answer c a.order (unplaced n a.order) ≡ None → Passes n answer b → ⊥
  stuck a b low short e p = elim (lowest u b.order) [ inl l ↦ at_lowest l | inr none ↦ without none ]
    where
      u : List ℕ
      u = unplaced n a.order

      without : ((j : ℕ) → 0 < count j u → count j b.order ≡ 0) → ⊥
      without none =
          let i = some_task u (omega (arith, length_unplaced n a.order low.front)) in
          omega (arith, none i.0 i.1, p.0.once i.0 (unplaced_free n i.0 a.order i.1).below)

      at_lowest : Lowest u b.order → ⊥
      at_lowest l = none_answered n answer c a.order u e i sooner.time l.one sooner.is
        where
          i : ℕ
          i = l.task

          order : Order n (l.upper ++ (i ∷ l.lower))
          order = subst (Order n) l.is p.0

          free : Free n a.order i
          free = unplaced_free n i a.order l.one

          levels : Split answer [] l.upper (i ∷ l.lower) b.times
          levels = split answer [] l.upper (i ∷ l.lower) b.times
              (subst (λ o. Timed answer [] o b.times) l.is (timed_from answer [] b.order b.times p.1))

          at : (t : ℕ) × (answer i (word l.upper) ≡ Some t)
          at = answered_at answer l.upper i l.lower levels.lower levels.timed_lower

          fewer : (j : ℕ) → count j (unplaced n (i ∷ a.order)) ≤ count j l.upper
          fewer j = elim (cases_lt 0 (count j (unplaced n (i ∷ a.order)))) [ inl h ↦ held h | inr g ↦ omega arith ]
            where
              held : 0 < count j (unplaced n (i ∷ a.order)) → count j (unplaced n (i ∷ a.order)) ≤ count j l.upper
              held h =
                  let f = unplaced_free n j (i ∷ a.order) h in
                  let all = count_unplaced n j (i ∷ a.order) f.not_placed in
                  let one = count_upto n j f.below in
                  let here = count_unplaced n j a.order (omega arith) in
                  omega (arith, l.none_lower j (omega arith), count_append j l.upper (i ∷ l.lower), order.once j f.below)

          sooner : Sooner answer i (unplaced n (i ∷ a.order)) at.0
          sooner = answered_under_part n answer mono i at.0 l.upper (unplaced n (i ∷ a.order)) free.below
              (omega (arith, order.once i free.below, count_append i l.upper (i ∷ l.lower), same_self i))
              (front_of_order n l.upper (i ∷ l.lower) order) fewer at.1

  above_passes : (k : ℕ) (a b : Assignment) → Low n answer a → length a.order + k ≡ n → first_above n answer c k a ≡ Some b → Passes n answer b
  above_passes zero a b low e h = subst (Passes n answer) (same_Some a b h) (low_passes n answer a low (omega arith))
  above_passes (suc k) a b low e h = go (cheapest n answer c a.order (unplaced n a.order)) refl h (above_passes k)
    where
      go : (o : Option Choice) → cheapest n answer c a.order (unplaced n a.order) ≡ o
          → from o (λ d. first_above n answer c k (record { order = d.task ∷ a.order; times = d.time ∷ a.times })) ≡ Some b
          → ((a b : Assignment) → Low n answer a → length a.order + k ≡ n → first_above n answer c k a ≡ Some b → Passes n answer b)
          → Passes n answer b
      go None q h rest = absurd (none-some b h)
      go (Some d) q h rest =
          rest (record { order = d.task ∷ a.order; times = d.time ∷ a.times }) b
          (low_more n answer a d low (chosen n answer c a.order (unplaced n a.order) d q)) (omega arith) h

  above_none : (k : ℕ) (a b : Assignment) → Low n answer a → length a.order + k ≡ n → first_above n answer c k a ≡ None → Passes n answer b → ⊥
  above_none zero a b low e h p = none-some a (sym h)
  above_none (suc k) a b low e h p = go (cheapest n answer c a.order (unplaced n a.order)) refl h (above_none k)
    where
      go : (o : Option Choice) → cheapest n answer c a.order (unplaced n a.order) ≡ o
          → from o (λ d. first_above n answer c k (record { order = d.task ∷ a.order; times = d.time ∷ a.times })) ≡ None
          → ((a b : Assignment) → Low n answer a → length a.order + k ≡ n → first_above n answer c k a ≡ None → Passes n answer b → ⊥) → ⊥
      go None q h rest = stuck a b low (omega arith) q p
      go (Some d) q h rest =
          rest (record { order = d.task ∷ a.order; times = d.time ∷ a.times }) b
          (low_more n answer a d low (chosen n answer c a.order (unplaced n a.order) d q)) (omega arith) h p

  low_nothing : Low n answer (record { order = []; times = [] })
  low_nothing = record { front = front_nothing n; timed = tt }

  first_passes : (a : Assignment) → first_order n answer c ≡ Some a → Passes n answer a
  first_passes a e = above_passes n (record { order = []; times = [] }) a low_nothing (omega arith) e

  first_none : (o : Option Assignment) → first_order n answer c ≡ o → ((a : Assignment) → Passes n answer a → ⊥) → o ≡ None
  first_none None e fail = refl
  first_none (Some a) e fail = absurd (fail a (first_passes a e))

pub first_order_is_exact : (V : Type 0) → FirstOrderIsExact V
first_order_is_exact V n answer c mono = record {
  none_if = λ e a p. above_none n answer c mono n (record { order = []; times = [] }) a (low_nothing n answer c mono) (omega arith) e p;
  only_if = λ fail. first_none n answer c mono (first_order n answer c) refl fail;
  passes = first_passes n answer c mono;
}
