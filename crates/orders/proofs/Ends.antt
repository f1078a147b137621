-- The search ends: a vertex weighs as many vertices as can follow from it, and each step takes one off.
use Rattle.std.proofs.Common.{◌≡◌, ℕ, zero, suc, ◌+◌, ◌-◌, ◌*◌, ◌≤◌, List, [], ◌∷◌, ◌++◌, map, length, sym, refl, ap, ◌∙◌, suc-mul, zero-mul, arith, length-append}
use Rattle.std.specs.List.{AllByRecursion}
use Rattle.std.proofs.ByRecursion.{All-append}
use Rattle.orders.specs.Orders.{unplaced, Test, Assignment}
use Rattle.orders.specs.Costs.{Cost}
use Rattle.orders.specs.Search.{better, vertices}
use Rattle.orders.proofs.Paths.{Path, Paths, entering, begun, examine, examine_active, steps, PathsEnd}
use Rattle.orders.proofs.Counts.{Front, front_nothing, length_unplaced}
use Rattle.orders.proofs.Steps.{after_examined, fronts_enter}

-- a vertex and all that can follow from it
weight : ℕ → List Path → ℕ
weight n [] = 0
weight n (v ∷ vs) = 1 + vertices (n - length v) + weight n vs

weight_append : (n : ℕ) (vs ws : List Path) → weight n (vs ++ ws) ≡ weight n vs + weight n ws
unfolding weight
weight_append n [] ws = omega arith
weight_append n (v ∷ vs) ws = omega (arith, weight_append n vs ws)

module _ (n : ℕ) (v : Path) where
  weight_none : (is : List ℕ) → length is ≡ 0 → weight n (map (λ i. v ++ (i ∷ [])) is) ≡ 0
  unfolding weight
  weight_none [] e = refl
  weight_none (i ∷ is) e = absurd (omega arith)

  weight_level : (m : ℕ) (is : List ℕ) → length v + suc m ≡ n → weight n (map (λ i. v ++ (i ∷ [])) is) ≡ length is * (1 + vertices m)
  unfolding weight
  weight_level m [] e = sym (zero-mul (1 + vertices m))
  weight_level m (i ∷ is) e =
      let left : n - length (v ++ (i ∷ [])) ≡ m = omega (arith, length-append v (i ∷ [])) in
      omega (arith, ap vertices left, weight_level m is e, suc-mul (length is) (1 + vertices m))

  weight_enter : Front n v → weight n (entering n v) ≡ vertices (n - length v)
  weight_enter f = go (length (unplaced n v)) refl (length_unplaced n v f)
    where
      go : (m : ℕ) → length (unplaced n v) ≡ m → length v + length (unplaced n v) ≡ n → weight n (entering n v) ≡ vertices (n - length v)
      go zero e h = let left : 0 ≡ n - length v = omega arith in weight_none (unplaced n v) e ∙ ap vertices left
      go (suc m) e h =
          let left : suc m ≡ n - length v = omega arith in
          weight_level m (unplaced n v) (omega arith) ∙ ap (λ k. k * (1 + vertices m)) e ∙ ap vertices left

-- the active vertices are parts of orders, and weigh at most k
record Weighs (n k : ℕ) (s : Paths) : Type 0 where
  fronts : AllByRecursion (Front n) s.active
  light : weight n s.active ≤ k

module _ {V : Type 0} (n : ℕ) (answer : Test) (c : Cost V) where
  examine_weighs : (k : ℕ) (best : Assignment) (active : List Path) → Weighs n (suc k) (record { best = best; active = active })
      → Weighs n k (examine_active n answer c best active)
  unfolding weight
  examine_weighs k best [] h = record { fronts = tt; light = omega arith }
  examine_weighs k best (v ∷ rest) h = after_examined n answer c best rest v (Weighs n k) (record {
    late = λ e. dropped best;
    last = λ ts e l. dropped (better n answer c best (record { order = v; times = ts }));
    late_below = λ ts e b. dropped best;
    no_better = λ ts b e eb q. dropped best;
    branch = λ ts e ne. record {
      fronts = All-append (Front n) (entering n v) rest (fronts_enter n v h.fronts.0) h.fronts.1;
      light = omega (arith, h.light, weight_append n (entering n v) rest, weight_enter n v h.fronts.0);
    };
  })
    where
      dropped : (a : Assignment) → Weighs n k (record { best = a; active = rest })
      dropped a = record { fronts = h.fronts.1; light = omega (arith, h.light) }

  steps_weigh : (k : ℕ) (s : Paths) → Weighs n k s → Weighs n 0 (steps n answer c k s)
  steps_weigh zero s h = h
  steps_weigh (suc k) s h = steps_weigh k (examine n answer c s) (examine_weighs k s.best s.active h)

none_active : (n : ℕ) (vs : List Path) → weight n vs ≤ 0 → vs ≡ []
unfolding weight
none_active n [] h = refl
none_active n (v ∷ vs) h = absurd (omega arith)

pub paths_end : (V : Type 0) → PathsEnd V
paths_end V n answer c first k h =
    none_active n (steps n answer c k (begun n first)).active (steps_weigh n answer c k (begun n first) start).light
  where
    start : Weighs n k (begun n first)
    start = record {
      fronts = fronts_enter n [] (front_nothing n);
      light = let all : n - 0 ≡ n = omega arith in omega (arith, weight_enter n [] (front_nothing n), ap vertices all);
    }
