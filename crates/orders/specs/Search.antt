-- Branch and bound over the orders of n tasks.
use Rattle.std.specs.Prelude.{ℕ, zero, suc, ◌+◌, ◌*◌, Bool, true, false, cond, List, [], ◌∷◌, ◌++◌, map, length, Some, None, Option, ◌==◌}
use Rattle.orders.specs.Orders.{Test, Assignment, unplaced, word, both}
use Rattle.orders.specs.Costs.{Cost, cost}

-- a vertex is a task at the level below its ancestors, which have been placed with their response times
pub record Vertex : Type 0 where
  pub ancestors : Assignment
  pub task : ℕ

-- the best order so far, and the active set as a stack of vertices, top first
pub record State : Type 0 where
  pub best : Assignment
  pub active : List Vertex

abbrev pub nothing_placed : Assignment
nothing_placed = record { order = []; times = [] }

-- one task more, at the next level, with its response time
abbrev pub below : Assignment → ℕ → ℕ → Assignment
below a i t = record { order = a.order ++ (i ∷ []); times = a.times ++ (t ∷ []) }

-- all unplaced tasks at the next level, the smallest on top
abbrev pub entering : ℕ → Assignment → List Vertex
entering n a = map (λ i. record { ancestors = a; task = i }) (unplaced n a.order)

-- the search begins with all tasks at level 1
abbrev pub begun : ℕ → Assignment → State
begun n first = record { best = first; active = entering n nothing_placed }

-- the answers to the listed tasks, each with exactly the set `above` above it, or none where one is late
abbrev pub answers : Test → ℕ → List ℕ → Option (List ℕ)
answers answer above [] = Some []
answers answer above (i ∷ is) = both (answer i above) (answers answer above is)

module _ {V : Type 0} (n : ℕ) (answer : Test) (c : Cost V) where
  -- the cost of the placed tasks joined with that of each unplaced one under exactly the placed ones
  abbrev pub bound_of : List ℕ → List ℕ → Option (List ℕ) → Option V
  bound_of v ts None = None
  bound_of v ts (Some us) = Some (c.join (cost c v ts) (cost c (unplaced n v) us))

  abbrev pub bound : List ℕ → List ℕ → Option V
  bound v ts = bound_of v ts (answers answer (word v) (unplaced n v))

  -- the better of the best and a new order: the best, if it costs no more
  abbrev pub better : Assignment → Assignment → Assignment
  better a b = cond (c.no_more (cost c a.order a.times) (cost c b.order b.times)) a b

  -- above the last level: dropped if a bound is missing or not below the best, else its children enter
  abbrev pub branched : Assignment → List Vertex → Assignment → Option V → State
  branched best rest here None = record { best = best; active = rest }
  branched best rest here (Some b) = record {
    best = best;
    active = cond (c.no_more (cost c best.order best.times) b) rest (entering n here ++ rest);
  }

  -- with the vertex's task placed
  abbrev pub placed : Assignment → List Vertex → Assignment → State
  placed best rest here =
      cond (length here.order == n)
      (record { best = better best here; active = rest })
      (branched best rest here (bound here.order here.times))

  -- the vertex v, taken off the stack, with the answer to its task: dropped if it is late
  abbrev pub examined : Assignment → List Vertex → Vertex → Option ℕ → State
  examined best rest v None = record { best = best; active = rest }
  examined best rest v (Some t) = placed best rest (below v.ancestors v.task t)

  -- examine the top vertex
  abbrev pub examine_active : Assignment → List Vertex → State
  examine_active best [] = record { best = best; active = [] }
  examine_active best (v ∷ rest) = examined best rest v (answer v.task (word v.ancestors.order))

  abbrev pub examine : State → State
  examine s = examine_active s.best s.active

  -- examine k vertices
  abbrev pub steps : ℕ → State → State
  steps zero s = s
  steps (suc k) s = steps k (examine s)

abbrev pub is_none : {A : Type 0} → List A → Bool
is_none [] = true
is_none (x ∷ xs) = false

module _ {V : Type 0} (n : ℕ) (answer : Test) (c : Cost V) where
  -- how many of k vertices there are to examine
  abbrev pub stepped : ℕ → State → ℕ
  stepped zero s = 0
  stepped (suc k) s = cond (is_none s.active) 0 (suc (stepped k (examine n answer c s)))

-- V(n): the vertices of the whole tree over n tasks
abbrev pub vertices : ℕ → ℕ
vertices zero = 0
vertices (suc n) = suc n * (1 + vertices n)

-- n (n - 1) .. (n - l + 1), that is n! / (n - l)!: how many vertices there are at level l
abbrev pub arrangements : ℕ → ℕ → ℕ
arrangements n zero = 1
arrangements zero (suc l) = 0
arrangements (suc n) (suc l) = suc n * arrangements n l
