-- The ways in which a vertex is examined.
use Rattle.std.proofs.Common.{◌≡◌, ℕ, ◌<◌, Bool, true, false, cond, eqb, List, [], ◌∷◌, ◌++◌, map, length, Some, None, Option, refl, arith}
use Rattle.std.specs.List.{AllByRecursion}
use Rattle.std.proofs.lemmas.Bool.{eqb-true, eqb-false}
use Rattle.orders.specs.Orders.{count, unplaced, Test, Assignment, times}
use Rattle.orders.specs.Costs.{Cost, cost}
use Rattle.orders.specs.Search.{bound, better}
use Rattle.orders.proofs.Paths.{Path, Paths, entering, branched, examined}
use Rattle.orders.proofs.Counts.{same_self, Front, unplaced_free, front_push}

-- what holds of the state after each way in which the vertex v is examined holds of the state after it
pub record Ways {V : Type 0} (n : ℕ) (answer : Test) (c : Cost V) (best : Assignment) (rest : List Path) (v : Path)
    (P : Paths → Type 0) : Type 0 where
  pub late : times answer v ≡ None → P (record { best = best; active = rest })
  pub last : (ts : List ℕ) → times answer v ≡ Some ts → length v ≡ n
      → P (record { best = better n answer c best (record { order = v; times = ts }); active = rest })
  pub late_below : (ts : List ℕ) → times answer v ≡ Some ts → bound n answer c v ts ≡ None → P (record { best = best; active = rest })
  pub no_better : (ts : List ℕ) (b : V) → times answer v ≡ Some ts → bound n answer c v ts ≡ Some b
      → c.no_more (cost c best.order best.times) b ≡ true → P (record { best = best; active = rest })
  pub branch : (ts : List ℕ) → times answer v ≡ Some ts → (length v ≡ n → ⊥) → P (record { best = best; active = entering n v ++ rest })

module _ {V : Type 0} (n : ℕ) (answer : Test) (c : Cost V) (best : Assignment) (rest : List Path) (v : Path)
    (P : Paths → Type 0) (w : Ways n answer c best rest v P) where
  pub after_examined : P (examined n answer c best rest v (times answer v))
  after_examined = by_times (times answer v) refl
    where
      by_cost : (ts : List ℕ) (b : V) → times answer v ≡ Some ts → (length v ≡ n → ⊥) → bound n answer c v ts ≡ Some b
          → (t : Bool) → c.no_more (cost c best.order best.times) b ≡ t
          → P (record { best = best; active = cond t rest (entering n v ++ rest) })
      by_cost ts b et ne eb true q = w.no_better ts b et eb q
      by_cost ts b et ne eb false q = w.branch ts et ne

      by_bound : (ts : List ℕ) → times answer v ≡ Some ts → (length v ≡ n → ⊥) → (o : Option V) → bound n answer c v ts ≡ o
          → P (branched n answer c best rest v o)
      by_bound ts et ne None eb = w.late_below ts et eb
      by_bound ts et ne (Some b) eb = by_cost ts b et ne eb (c.no_more (cost c best.order best.times) b) refl

      by_level : (ts : List ℕ) → times answer v ≡ Some ts → (t : Bool) → eqb (length v) n ≡ t
          → P (cond t (record { best = better n answer c best (record { order = v; times = ts }); active = rest }) (branched n answer c best rest v (bound n answer c v ts)))
      by_level ts et true q = w.last ts et (eqb-true (length v) n q)
      by_level ts et false q = by_bound ts et (eqb-false (length v) n q) (bound n answer c v ts) refl

      by_times : (o : Option (List ℕ)) → times answer v ≡ o → P (examined n answer c best rest v o)
      by_times None e = w.late e
      by_times (Some ts) e = by_level ts e (eqb (length v) n) refl

-- ---- the vertices that enter

pub all_over : {X : Type 0} (P : X → Type 0) (f : ℕ → X) (is : List ℕ) → ((i : ℕ) → 0 < count i is → P (f i)) → AllByRecursion P (map f is)
all_over P f [] h = tt
all_over P f (i ∷ is) h = (h i (omega (arith, same_self i)), all_over P f is (λ j l. h j (omega arith)))

pub fronts_enter : (n : ℕ) (v : Path) → Front n v → AllByRecursion (Front n) (entering n v)
fronts_enter n v f = all_over (Front n) (λ i. v ++ (i ∷ [])) (unplaced n v) (λ i h. front_push n v f i (unplaced_free n i v h))
