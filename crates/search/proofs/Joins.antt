-- Costs joined over lists of tasks, and by position.
use Rattle.std.proofs.Common.{◌≡◌, ℕ, zero, suc, ◌<◌, Bool, true, false, cond, not, List, [], ◌∷◌, ◌++◌, map, length, get_or, is_some, Some, None, filter, Option, unwrap_or, sym, refl, ap, ◌∙◌, subst, ap₂, inl, inr, arith}
use Rattle.std.proofs.lemmas.Bool.{cases_lt, cases_eq, cond-true, cond-false, false≢true}
use Rattle.tasks.specs.Sets.{holds}
use Rattle.tasks.specs.declared.task.Candidate.{Candidate}
use Rattle.costs.specs.Prices.{Prices, Lawful}
use Rattle.costs.specs.Folds.{charge, join_below, total}
use Rattle.orders.specs.Orders.{word, count, upto, unplaced, Order, Test, both}
use Rattle.orders.specs.Costs.{cost}
use Rattle.orders.specs.Search.{answers, bound, bound_of}
use Rattle.orders.proofs.Counts.{same_self, same_other, joined, joined_alike, count_upto, count_upto_else, count_kept, count_dropped, count_kept_le, count_unplaced, unplaced_free, order_alike, Front}
use Rattle.orders.proofs.Words.{holds_absent, holds_present}
use Rattle.orders.proofs.Members.{unplaced_word}
use Rattle.search.specs.Model.{priced}

module _ {V : Type 0} (p : Prices V) where
  abbrev pub all : (ℕ → V) → List ℕ → V
  all f is = joined p.nothing p.joined f is

  pub cost_all : (held : List Candidate) (t : ℕ → ℕ) (is : List ℕ) → cost (priced p held) is (map t is) ≡ all (λ i. charge p held i (t i)) is
  cost_all held t [] = refl
  cost_all held t (i ∷ is) = ap (p.joined (charge p held i (t i))) (cost_all held t is)

module _ {V : Type 0} (p : Prices V) (laws : Lawful p) where
  after : (x : V) → p.joined x p.nothing ≡ x
  after x = laws.commutative x p.nothing ∙ laws.neutral x

  all_push : (f : ℕ → V) (is : List ℕ) (i : ℕ) → all p f (is ++ (i ∷ [])) ≡ p.joined (all p f is) (f i)
  all_push f [] i = after (f i) ∙ sym (laws.neutral (f i))
  all_push f (x ∷ is) i = ap (p.joined (f x)) (all_push f is i) ∙ sym (laws.associative (f x) (all p f is) (f i))

  -- the fold by position
  by_position : (n : ℕ) (f : ℕ → V) → join_below p n f ≡ all p f (upto n)
  unfolding join_below
  by_position zero f = refl
  by_position (suc n) f = ap (λ x. p.joined x (f n)) (by_position n f) ∙ sym (all_push f (upto n) n)

  -- the cost of an order
  pub total_is : (held : List Candidate) (t : ℕ → ℕ) (o : List ℕ) → Order (length held) o
      → total p held t ≡ cost (priced p held) o (map t o)
  total_is held t o order =
      by_position (length held) (λ i. charge p held i (t i))
      ∙ joined_alike p.nothing p.joined laws.associative laws.commutative (λ i. charge p held i (t i)) (upto (length held)) o
      (λ i. sym (order_alike (length held) o order i))
      ∙ sym (cost_all p held t o)

  -- tasks of two kinds
  all_split : (q : ℕ → Bool) (f g : ℕ → V) (is : List ℕ)
      → all p (λ i. cond (q i) (f i) (g i)) is ≡ p.joined (all p f (filter q is)) (all p g (filter (λ i. not (q i)) is))
  all_split q f g [] = sym (laws.neutral p.nothing)
  all_split q f g (i ∷ is) = ap (p.joined (cond (q i) (f i) (g i))) (all_split q f g is) ∙ go (q i) (all p f (filter q is)) (all p g (filter (λ j. not (q j)) is)) refl refl
    where
      go : (b : Bool) (x y : V) → all p f (filter q is) ≡ x → all p g (filter (λ j. not (q j)) is) ≡ y
          → p.joined (cond b (f i) (g i)) (p.joined x y)
          ≡ p.joined (all p f (cond b (i ∷ filter q is) (filter q is))) (all p g (cond (not b) (i ∷ filter (λ j. not (q j)) is) (filter (λ j. not (q j)) is)))
      go true x y ex ey = rw (ex, ey) (sym (laws.associative (f i) x y))
      go false x y ex ey =
          rw (ex, ey) (sym (laws.associative (g i) x y) ∙ ap (λ z. p.joined z y) (laws.commutative (g i) x) ∙ laws.associative x (g i) y)

  -- the placed tasks, by position
  module _ (n : ℕ) (v : List ℕ) (front : Front n v) (f g : ℕ → V) where
    all_placed : all p f v ≡ all p f (filter (holds (word v)) (upto n))
    all_placed = joined_alike p.nothing p.joined laws.associative laws.commutative f v (filter (holds (word v)) (upto n)) alike
      where
        alike : (i : ℕ) → count i v ≡ count i (filter (holds (word v)) (upto n))
        alike i = elim (cases_lt i n) [
          | inl l ↦ elim (cases_lt 0 (count i v)) [
            | inl m ↦ omega (arith, front.once i, count_kept (holds (word v)) i (upto n) (holds_present v front.once i m), count_upto n i l)
            | inr z ↦ omega (arith, count_dropped (holds (word v)) i (upto n) (holds_absent v front.once i (omega arith)))
          ]
          | inr h ↦ omega (arith, front.else_none i h, count_kept_le (holds (word v)) i (upto n), count_upto_else n i h)
        ]

    all_bound : join_below p n (λ i. cond (holds (word v) i) (f i) (g i)) ≡ p.joined (all p f v) (all p g (unplaced n v))
    all_bound =
        by_position n (λ i. cond (holds (word v) i) (f i) (g i)) ∙ all_split (holds (word v)) f g (upto n)
        ∙ ap₂ (λ x is. p.joined x (all p g is)) (sym all_placed) (sym (unplaced_word n v front.once))

-- ---- the answers to the unplaced tasks

module _ (answer : Test) (w : ℕ) where
  -- the answer, where there is one
  abbrev pub time_of : ℕ → ℕ
  time_of i = unwrap_or (answer i w) 0

  some_is : (o : Option ℕ) → is_some o ≡ true → o ≡ Some (unwrap_or o 0)
  some_is None h = absurd (false≢true h)
  some_is (Some r) h = refl

  pub answers_all : (is : List ℕ) → ((i : ℕ) → 0 < count i is → is_some (answer i w) ≡ true) → answers answer w is ≡ Some (map time_of is)
  answers_all [] h = refl
  answers_all (i ∷ is) h =
      let here = some_is (answer i w) (h i (omega (arith, same_self i))) in
      let rest = answers_all is (λ j l. h j (omega arith)) in
      rw (here, rest) refl

  both_none : (o : Option ℕ) → both o None ≡ None
  both_none None = refl
  both_none (Some r) = refl

  pub answers_late : (is : List ℕ) (i : ℕ) → 0 < count i is → answer i w ≡ None → answers answer w is ≡ None
  answers_late [] i h e = absurd (omega arith)
  answers_late (x ∷ is) i h e = elim (cases_eq i x) [
    | inl q ↦ rw (ap (λ j. answer j w) (sym q) ∙ e) refl
    | inr ne ↦ rw (answers_late is i (omega (arith, same_other i x ne)) e) (both_none (answer x w))
  ]

-- ---- what each position adds to the bound

module _ {V : Type 0} (p : Prices V) (held : List Candidate) (times : List ℕ) (w : ℕ) (answer : Test) where
  abbrev pub of_either : ℕ → V
  of_either i = cond (holds w i) (charge p held i (get_or times i 0)) (charge p held i (time_of answer w i))

  module _ (i : ℕ) where
    pub either_placed : holds w i ≡ true → charge p held i (get_or times i 0) ≡ of_either i
    either_placed h = sym (cond-true (holds w i) (charge p held i (get_or times i 0)) (charge p held i (time_of answer w i)) h)

    pub either_free : (t : ℕ) → holds w i ≡ false → answer i w ≡ Some t → charge p held i t ≡ of_either i
    either_free t h e =
        ap (λ o. charge p held i (unwrap_or o 0)) (sym e)
        ∙ sym (cond-false (holds w i) (charge p held i (get_or times i 0)) (charge p held i (time_of answer w i)) h)

module _ {V : Type 0} (p : Prices V) (laws : Lawful p) (held : List Candidate) (times v : List ℕ) (front : Front (length held) v)
    (w : ℕ) (marked : word v ≡ w) (answer : Test) where
  free_at : (i : ℕ) → holds w i ≡ false → count i v ≡ 0
  free_at i h = elim (cases_lt 0 (count i v)) [
    | inl l ↦ absurd (false≢true (sym h ∙ ap (λ x. holds x i) (sym marked) ∙ holds_present v front.once i l))
    | inr g ↦ omega arith
  ]

  pub bound_is : ((i : ℕ) → i < length held → holds w i ≡ false → is_some (answer i w) ≡ true)
      → Some (join_below p (length held) (of_either p held times w answer))
      ≡ bound (length held) answer (priced p held) v (map (λ i. get_or times i 0) v)
  bound_is h =
      let n = length held in
      let open-tasks = unplaced n v in
      let cost-placed = cost (priced p held) v (map (λ i. get_or times i 0) v) in
      let all-answered : answers answer (word v) open-tasks ≡ Some (map (time_of answer (word v)) open-tasks)
      = answers_all answer (word v) open-tasks (λ i l.
      let free = unplaced_free n i v l in
      subst (λ x. is_some (answer i x) ≡ true) (sym marked)
      (h i free.below (ap (λ x. holds x i) (sym marked) ∙ holds_absent v front.once i free.not_placed))) in
      let joined-all : join_below p n (of_either p held times (word v) answer)
      ≡ p.joined cost-placed (cost (priced p held) open-tasks (map (time_of answer (word v)) open-tasks))
      = all_bound p laws n v front (λ i. charge p held i (get_or times i 0)) (λ i. charge p held i (time_of answer (word v) i))
      ∙ ap₂ p.joined (sym (cost_all p held (λ i. get_or times i 0) v)) (sym (cost_all p held (time_of answer (word v)) open-tasks)) in
      ap (λ x. Some (join_below p n (of_either p held times x answer))) (sym marked) ∙ ap Some joined-all
      ∙ ap (bound_of n answer (priced p held) v (map (λ i. get_or times i 0) v)) (sym all-answered)

  pub bound_late : (i : ℕ) → i < length held → holds w i ≡ false → answer i w ≡ None
      → bound (length held) answer (priced p held) v (map (λ i. get_or times i 0) v) ≡ None
  bound_late i l h e =
      ap (bound_of (length held) answer (priced p held) v (map (λ i. get_or times i 0) v))
      (answers_late answer (word v) (unplaced (length held) v) i
      (omega (arith, count_unplaced (length held) i v (free_at i h), count_upto (length held) i l)) (ap (answer i) marked ∙ e))
