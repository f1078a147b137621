-- The search is right: until the end, an order that passes costs at least as much as the best one or extends an active
-- vertex.
use Rattle.std.proofs.Common.{◌≡◌, ℕ, zero, suc, ◌<◌, Bool, ◌⊎◌, List, [], ◌∷◌, ◌++◌, map, length, Some, sym, refl, ap, ◌∙◌, subst, ap₂, inl, inr, append_assoc, append-nil, arith, length-append}
use Rattle.std.proofs.lemmas.Option.{none-some, same_Some}
use Rattle.std.specs.List.{AllByRecursion}
use Rattle.std.proofs.lemmas.Bool.{cond_both, cases_eq}
use Rattle.std.proofs.ByRecursion.{All-append}
use Rattle.orders.specs.Orders.{count, unplaced, Order, Test, Monotone, Assignment, Passes, times}
use Rattle.orders.specs.Costs.{Cost, Laws, NoMore, cost}
use Rattle.orders.specs.Search.{better, bound}
use Rattle.orders.proofs.Paths.{Path, Paths, entering, begun, examine, examine_active, steps, PathsOptimal}
use Rattle.orders.proofs.Counts.{front_nothing, same_self, same_other, count_append, Front, front_of_order, all_counted, order_from_front, order_alike, length_order}
use Rattle.orders.proofs.Levels.{Timed, timed_from, times_from, Split, split, length_timed}
use Rattle.orders.proofs.Firsts.{first_order_is_exact}
use Rattle.orders.proofs.Steps.{after_examined, fronts_enter}
use Rattle.orders.proofs.Bounds.{no_more_self, less_else, Bounded, bounded}

-- ---- an order that extends a vertex, or one of several

abbrev Extends : List ℕ → Path → Type 0
Extends o v = (rest : List ℕ) × (o ≡ v ++ rest)

abbrev Under : List ℕ → List Path → Type 0
Under o [] = ⊥
Under o (v ∷ vs) = Extends o v ⊎ Under o vs

under_left : (o : List ℕ) (vs ws : List Path) → Under o vs → Under o (vs ++ ws)
under_left o [] ws h = absurd h
under_left o (v ∷ vs) ws h = elim h [ inl e ↦ inl e | inr u ↦ inr (under_left o vs ws u) ]

under_right : (o : List ℕ) (vs ws : List Path) → Under o ws → Under o (vs ++ ws)
under_right o [] ws h = h
under_right o (v ∷ vs) ws h = inr (under_right o vs ws h)

under_one : (o rest : List ℕ) (v : Path) (i : ℕ) (is : List ℕ) → o ≡ v ++ (i ∷ rest) → 0 < count i is → Under o (map (λ j. v ++ (j ∷ [])) is)
under_one o rest v i [] e h = absurd (omega arith)
under_one o rest v i (j ∷ is) e h = elim (cases_eq i j) [
  | inl q ↦ inl (rest, e ∙ ap (λ k. v ++ (k ∷ rest)) q ∙ sym (append_assoc v (j ∷ []) rest))
  | inr ne ↦ inr (under_one o rest v i is e (omega (arith, same_other i j ne)))
]

-- an order that extends a vertex above the last level extends one of those that enter
under_entering : (n : ℕ) (o rest : List ℕ) (v : Path) → Order n o → o ≡ v ++ rest → (length v ≡ n → ⊥) → Under o (entering n v)
under_entering n o [] v ho e ne = absurd (ne (ap length (sym (e ∙ append-nil v)) ∙ length_order n o ho))
under_entering n o (i ∷ rest) v ho e ne =
    let order : Order n (v ++ (i ∷ rest)) = subst (Order n) e ho in
    under_one o rest v i (unplaced n v) e
    (omega (
      arith,
      all_counted n v (front_of_order n v (i ∷ rest) order) i,
      order_alike n (v ++ (i ∷ rest)) order i,
      count_append i v (i ∷ rest),
      same_self i,
    ))

-- ---- the invariant

module _ {V : Type 0} (n : ℕ) (answer : Test) (c : Cost V) where
  abbrev price : Assignment → V
  price a = cost c a.order a.times

  record Sound (s : Paths) : Type 0 where
    passes : Passes n answer s.best
    fronts : AllByRecursion (Front n) s.active
    covers : (a : Assignment) → Passes n answer a → NoMore c (price s.best) (price a) ⊎ Under a.order s.active

module _ {V : Type 0} (n : ℕ) (answer : Test) (c : Cost V) (mono : Monotone n answer) (laws : Laws c) where
  -- an order that passes and extends a vertex has the vertex's response times, and then others
  record Extended (a : Assignment) (v : Path) : Type 0 where
    rest : List ℕ
    is : a.order ≡ v ++ rest
    levels : Split answer [] v rest a.times
    timed : times answer v ≡ Some levels.upper

  extended : (a : Assignment) (v : Path) → Passes n answer a → Extends a.order v → Extended a v
  extended a v p e = record { rest = e.0; is = e.1; levels = levels; timed = times_from answer [] v levels.upper levels.timed_upper }
    where
      levels : Split answer [] v e.0 a.times
      levels = split answer [] v e.0 a.times
          (subst (λ o. Timed answer [] o a.times) e.1 (timed_from answer [] a.order a.times p.1))

  -- the bound of a vertex against an order that extends it
  extended_bound : (a : Assignment) (v : Path) (ts : List ℕ) → Passes n answer a → Extends a.order v → times answer v ≡ Some ts
      → (b : V) × (bound n answer c v ts ≡ Some b) × NoMore c b (cost c a.order a.times)
  extended_bound a v ts p e et =
      (k.value, ap (bound n answer c v) same ∙ k.is, subst (NoMore c k.value) (sym (ap₂ (cost c) x.is x.levels.is)) k.less)
    where
      x : Extended a v
      x = extended a v p e

      same : ts ≡ x.levels.upper
      same = same_Some ts x.levels.upper (sym et ∙ x.timed)

      k : Bounded n answer c mono laws v x.levels.upper x.rest (x.levels.upper ++ x.levels.lower)
      k = bounded n answer c mono laws v x.rest x.levels.upper x.levels.lower (subst (Order n) x.is p.0)
          (length_timed answer [] v x.levels.upper x.levels.timed_upper) x.levels.timed_lower

  -- the better of two is one of them, and costs no more than either
  module _ (a b : Assignment) where
    test : Bool
    test = c.no_more (price n answer c a) (price n answer c b)

    better_passes : Passes n answer a → Passes n answer b → Passes n answer (better n answer c a b)
    unfolding test
    better_passes p q = cond_both test a b (Passes n answer) (λ e. p) (λ e. q)

    better_first : NoMore c (price n answer c (better n answer c a b)) (price n answer c a)
    unfolding test
    better_first = cond_both test a b (λ x. NoMore c (price n answer c x) (price n answer c a))
        (λ e. no_more_self c laws (price n answer c a)) (λ e. less_else c laws (price n answer c a) (price n answer c b) e)

    better_second : NoMore c (price n answer c (better n answer c a b)) (price n answer c b)
    unfolding test
    better_second = cond_both test a b (λ x. NoMore c (price n answer c x) (price n answer c b))
        (λ e. e) (λ e. no_more_self c laws (price n answer c b))

  -- an order that extends a full vertex is the vertex
  same_price : (a : Assignment) (v : Path) (ts : List ℕ) → Passes n answer a → Extends a.order v → length v ≡ n → times answer v ≡ Some ts
      → cost c v ts ≡ price n answer c a
  same_price a v ts p e l et = ap₂ (cost c) is (same_Some ts a.times (sym et ∙ ap (times answer) is ∙ p.1))
    where
      full : (rest : List ℕ) → a.order ≡ v ++ rest → v ≡ a.order
      full [] q = sym (q ∙ append-nil v)
      full (i ∷ rest) q = absurd (omega (arith, ap length q, length-append v (i ∷ rest), length_order n a.order p.0))

      is : v ≡ a.order
      is = full e.0 e.1

  examine_sound : (best : Assignment) (active : List Path) → Sound n answer c (record { best = best; active = active })
      → Sound n answer c (examine_active n answer c best active)
  examine_sound best [] h = h
  examine_sound best (v ∷ rest) h = after_examined n answer c best rest v (Sound n answer c) (record {
    late = λ e. dropped (λ a p x. absurd (none-some _ (sym e ∙ (extended a v p x).timed)));
    last = λ ts e l. replaced ts e l;
    late_below = λ ts e eb. dropped (λ a p x. absurd (none-some _ (sym eb ∙ (extended_bound a v ts p x e).1)));
    no_better = λ ts b e eb q. dropped (λ a p x.
        let k = extended_bound a v ts p x e in
        laws.chain (price n answer c best) b (price n answer c a) q
        (subst (λ y. NoMore c y (price n answer c a)) (same_Some k.0 b (sym k.1 ∙ eb)) k.2));
    branch = λ ts e ne. record {
      passes = h.passes;
      fronts = All-append (Front n) (entering n v) rest (fronts_enter n v h.fronts.0) h.fronts.1;
      covers = λ a p. elim (h.covers a p) [
        | inl less ↦ inl less
        | inr u ↦ inr (elim u [
          | inl x ↦ under_left a.order (entering n v) rest (under_entering n a.order x.0 v p.0 x.1 ne)
          | inr k ↦ under_right a.order (entering n v) rest k
        ])
      ];
    };
  })
    where
      dropped : ((a : Assignment) → Passes n answer a → Extends a.order v → NoMore c (price n answer c best) (price n answer c a))
          → Sound n answer c (record { best = best; active = rest })
      dropped f = record {
        passes = h.passes;
        fronts = h.fronts.1;
        covers = λ a p. elim (h.covers a p) [ inl less ↦ inl less | inr u ↦ elim u [ inl x ↦ inl (f a p x) | inr k ↦ inr k ] ];
      }

      replaced : (ts : List ℕ) → times answer v ≡ Some ts → length v ≡ n
          → Sound n answer c (record { best = better n answer c best (record { order = v; times = ts }); active = rest })
      replaced ts e l = record {
        passes = better_passes best new h.passes (order_from_front n v h.fronts.0 l, e);
        fronts = h.fronts.1;
        covers = λ a p. elim (h.covers a p) [
          | inl less ↦ inl (laws.chain (price n answer c (better n answer c best new)) (price n answer c best) (price n answer c a) (better_first best new) less)
          | inr u ↦ elim u [
            | inl x ↦ inl (subst (NoMore c (price n answer c (better n answer c best new))) (same_price a v ts p x l e) (better_second best new))
            | inr k ↦ inr k
          ]
        ];
      }
        where
          new : Assignment
          new = record { order = v; times = ts }

  steps_sound : (k : ℕ) (s : Paths) → Sound n answer c s → Sound n answer c (steps n answer c k s)
  steps_sound zero s h = h
  steps_sound (suc k) s h = steps_sound k (examine n answer c s) (examine_sound s.best s.active h)

  begun_sound : (first : Assignment) → Passes n answer first → Sound n answer c (begun n first)
  begun_sound first p = record {
    passes = p;
    fronts = fronts_enter n [] (front_nothing n);
    covers = λ a q. elim (cases_eq 0 n) [
      | inl e ↦ inl (subst (NoMore c (price n answer c first)) (sym (nothing e first p) ∙ nothing e a q) (no_more_self c laws (price n answer c first)))
      | inr ne ↦ inr (under_entering n a.order a.order [] q.0 refl ne)
    ];
  }
    where
      nothing : 0 ≡ n → (a : Assignment) → Passes n answer a → cost c [] [] ≡ price n answer c a
      nothing e a q = same_price a [] [] q (a.order, refl) e refl

pub paths_optimal : (V : Type 0) → PathsOptimal V
paths_optimal V n answer c mono laws first e k done = record {
  passes = sound.passes;
  least = λ a p. elim (sound.covers a p) [ inl less ↦ less | inr u ↦ absurd (subst (Under a.order) done u) ];
}
  where
    sound : Sound n answer c (steps n answer c k (begun n first))
    sound = steps_sound n answer c mono laws k (begun n first)
        (begun_sound n answer c mono laws first ((first_order_is_exact V n answer c mono).passes first e))
