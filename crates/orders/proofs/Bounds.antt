-- The bound of a vertex is no more than the cost of any order that passes and extends it.
use Rattle.std.proofs.Common.{◌≡◌, ℕ, ◌<◌, ◌≤◌, false, List, [], ◌∷◌, ◌++◌, length, Some, None, Option, sym, refl, ap, ◌∙◌, inl, inr, append_assoc, arith}
use Rattle.std.proofs.lemmas.Bool.{both_ways, cases_eq, cases_lt}
use Rattle.orders.specs.Orders.{word, count, unplaced, Order, Test, Monotone}
use Rattle.orders.specs.Costs.{Cost, Laws, NoMore, cost}
use Rattle.orders.specs.Search.{answers, bound, bound_of}
use Rattle.orders.proofs.Paths.{Path}
use Rattle.orders.proofs.Counts.{same_self, same_other, count_append, joined, joined_alike, front_of_order, all_counted, order_alike}
use Rattle.orders.proofs.Words.{answered_under_part, Sooner}
use Rattle.orders.proofs.Levels.{Timed}

-- ---- costs

module _ {V : Type 0} (c : Cost V) (laws : Laws c) where
  pub no_more_self : (x : V) → NoMore c x x
  no_more_self x = elim (laws.total x x) [ inl h ↦ h | inr h ↦ h ]

  pub less_else : (x y : V) → c.no_more x y ≡ false → NoMore c y x
  less_else x y e = elim (laws.total x y) [ inl h ↦ absurd (both_ways (c.no_more x y) e h) | inr h ↦ h ]

  cost_append : (xs ys ts us : List ℕ) → length xs ≡ length ts → cost c (xs ++ ys) (ts ++ us) ≡ c.join (cost c xs ts) (cost c ys us)
  cost_append [] ys [] us e = sym (laws.neutral (cost c ys us))
  cost_append [] ys (t ∷ ts) us e = absurd (omega arith)
  cost_append (x ∷ xs) ys [] us e = absurd (omega arith)
  cost_append (x ∷ xs) ys (t ∷ ts) us e =
      ap (c.join (c.of x t)) (cost_append xs ys ts us (omega arith)) ∙ sym (laws.assoc (c.of x t) (cost c xs ts) (cost c ys us))

-- ---- the answers under a vertex

time_of : Option ℕ → ℕ
time_of None = 0
time_of (Some r) = r

-- the cost of a task with exactly the tasks of v above it
cost_under : {V : Type 0} → Test → Cost V → Path → ℕ → V
cost_under answer c v i = c.of i (time_of (answer i (word v)))

cost_answered : {V : Type 0} (answer : Test) (c : Cost V) (v : Path) (i s : ℕ) → answer i (word v) ≡ Some s → cost_under answer c v i ≡ c.of i s
unfolding cost_under time_of
cost_answered answer c v i s e = ap (λ o. c.of i (time_of o)) e

-- each listed task is answered, and the answers' costs are these
record Answered {V : Type 0} (answer : Test) (c : Cost V) (v : Path) (is : List ℕ) : Type 0 where
  times : List ℕ
  are : answers answer (word v) is ≡ Some times
  cost_is : cost c is times ≡ joined c.none c.join (cost_under answer c v) is

answered : {V : Type 0} (answer : Test) (c : Cost V) (v : Path) (is : List ℕ)
    → ((i : ℕ) → 0 < count i is → (s : ℕ) × (answer i (word v) ≡ Some s)) → Answered answer c v is
answered answer c v [] h = record { times = []; are = refl; cost_is = refl }
answered answer c v (i ∷ is) h = go (h i (omega (arith, same_self i))) (answered answer c v is (λ j l. h j (omega arith)))
  where
    go : (s : ℕ) × (answer i (word v) ≡ Some s) → Answered answer c v is → Answered answer c v (i ∷ is)
    go s a = record {
      times = s.0 ∷ a.times;
      are = rw (s.1, a.are);
      cost_is = ap (c.join (c.of i s.0)) a.cost_is
          ∙ ap (λ x. c.join x (joined c.none c.join (cost_under answer c v) is)) (sym (cost_answered answer c v i s.0 s.1));
    }

-- ---- the tasks below a vertex in an order that passes

module _ {V : Type 0} (n : ℕ) (answer : Test) (c : Cost V) (mono : Monotone n answer) (laws : Laws c) (v : Path) where
  -- under v each task is answered, and costs no more
  record Cheaper (is ts : List ℕ) : Type 0 where
    there : (i : ℕ) → 0 < count i is → (s : ℕ) × (answer i (word v) ≡ Some s)
    less : NoMore c (joined c.none c.join (cost_under answer c v) is) (cost c is ts)

  cheaper_under : (above is ts : List ℕ) → Order n (above ++ is) → ((j : ℕ) → count j v ≤ count j above) → Timed answer above is ts
      → Cheaper is ts
  cheaper_under above [] ts o part h = record { there = λ i l. absurd (omega arith); less = no_more_self c laws c.none }
  cheaper_under above (i ∷ is) [] o part h = absurd h
  cheaper_under above (i ∷ is) (t ∷ ts) o part h =
      go (cheaper_under (above ++ (i ∷ [])) is ts (rw append_assoc o) (λ j. omega (arith, part j, count_append j above (i ∷ []))) h.1)
    where
      below : i < n
      below = elim (cases_lt i n) [ inl l ↦ l | inr g ↦ absurd (omega (arith, o.else_none i g, count_append i above (i ∷ is), same_self i)) ]

      sooner : Sooner answer i v t
      sooner = answered_under_part n answer mono i t above v below
          (omega (arith, o.once i below, count_append i above (i ∷ is), same_self i)) (front_of_order n above (i ∷ is) o) part h.0

      go : Cheaper is ts → Cheaper (i ∷ is) (t ∷ ts)
      go rest = record {
        there = λ j l. elim (cases_eq j i) [
          | inl e ↦ (sooner.time, ap (λ k. answer k (word v)) e ∙ sooner.is)
          | inr ne ↦ rest.there j (omega (arith, same_other j i ne))
        ];
        less = laws.rises (cost_under answer c v i) (c.of i t) (joined c.none c.join (cost_under answer c v) is) (cost c is ts)
            (rw (cost_answered answer c v i sooner.time sooner.is) (laws.later i sooner.time t sooner.sooner)) rest.less;
      }

  -- the vertex has a bound, no more than what an order costs that extends it
  pub record Bounded (tv rest ts : List ℕ) : Type 0 where
    pub value : V
    pub is : bound n answer c v tv ≡ Some value
    pub less : NoMore c value (cost c (v ++ rest) ts)

  pub bounded : (rest tv ts : List ℕ) → Order n (v ++ rest) → length v ≡ length tv → Timed answer v rest ts → Bounded tv rest (tv ++ ts)
  bounded rest tv ts o e h = record {
    value = c.join (cost c v tv) (cost c (unplaced n v) a.times);
    is = ap (bound_of n answer c v tv) a.are;
    less = rw (cost_append c laws v rest tv ts e)
        (laws.rises (cost c v tv) (cost c v tv) (cost c (unplaced n v) a.times) (cost c rest ts) (no_more_self c laws (cost c v tv))
        (rw (a.cost_is ∙ joined_alike c.none c.join laws.assoc laws.comm (cost_under answer c v) (unplaced n v) rest alike) cheap.less));
  }
    where
      alike : (i : ℕ) → count i (unplaced n v) ≡ count i rest
      alike i = omega (arith, all_counted n v (front_of_order n v rest o) i, order_alike n (v ++ rest) o i, count_append i v rest)

      cheap : Cheaper rest ts
      cheap = cheaper_under v rest ts o (λ j. omega arith) h

      a : Answered answer c v (unplaced n v)
      a = answered answer c v (unplaced n v) (λ i l. cheap.there i (omega (arith, alike i)))
