-- The search over vertices without the times of their ancestors, which are worked out anew: what the theorems are first shown
-- of.
use Rattle.std.proofs.Common.{◌≡◌, ℕ, zero, suc, ◌+◌, ◌*◌, ◌≤◌, cond, eqb, List, [], ◌∷◌, ◌++◌, map, length, Some, None, Option}
use Rattle.orders.specs.Orders.{Test, Monotone, Assignment, unplaced, times}
use Rattle.orders.specs.Costs.{Cost, Laws, cost}
use Rattle.orders.specs.First.{first_order}
use Rattle.orders.specs.Search.{bound, better, vertices}
use Rattle.orders.specs.Theorems.{BestOrder}

-- the tasks placed from level 1 down, the vertex's own last
abbrev pub Path : Type 0
Path = List ℕ

pub record Paths : Type 0 where
  pub best : Assignment
  pub active : List Path

abbrev pub entering : ℕ → Path → List Path
entering n v = map (λ i. v ++ (i ∷ [])) (unplaced n v)

abbrev pub begun : ℕ → Assignment → Paths
begun n first = record { best = first; active = entering n [] }

module _ {V : Type 0} (n : ℕ) (answer : Test) (c : Cost V) where
  abbrev pub branched : Assignment → List Path → Path → Option V → Paths
  branched best rest v None = record { best = best; active = rest }
  branched best rest v (Some b) = record {
    best = best;
    active = cond (c.no_more (cost c best.order best.times) b) rest (entering n v ++ rest);
  }

  abbrev pub examined : Assignment → List Path → Path → Option (List ℕ) → Paths
  examined best rest v None = record { best = best; active = rest }
  examined best rest v (Some ts) =
      cond (eqb (length v) n)
      (record { best = better n answer c best (record { order = v; times = ts }); active = rest })
      (branched best rest v (bound n answer c v ts))

  abbrev pub examine_active : Assignment → List Path → Paths
  examine_active best [] = record { best = best; active = [] }
  examine_active best (v ∷ rest) = examined best rest v (times answer v)

  abbrev pub examine : Paths → Paths
  examine s = examine_active s.best s.active

  abbrev pub steps : ℕ → Paths → Paths
  steps zero s = s
  steps (suc k) s = steps k (examine s)

abbrev pub PathsEnd : Type 0 → Type 0
PathsEnd V = (n : ℕ) (answer : Test) (c : Cost V) (first : Assignment) (k : ℕ) → vertices n ≤ k
    → (steps n answer c k (begun n first)).active ≡ []

abbrev pub PathsOptimal : Type 0 → Type 0
PathsOptimal V = (n : ℕ) (answer : Test) (c : Cost V) → Monotone n answer → Laws c
    → (first : Assignment) → first_order n answer c ≡ Some first
    → (k : ℕ) → (steps n answer c k (begun n first)).active ≡ []
    → BestOrder n answer c (steps n answer c k (begun n first)).best

abbrev pub PathsFew : Type 0 → Type 0
PathsFew V = (n : ℕ) (answer : Test) (c : Cost V) (first : Assignment) (k : ℕ)
    → 2 * length (steps n answer c k (begun n first)).active ≤ n * (n + 1)
