-- What rankings and waiting vertices stand for.
use Rattle.std.specs.Prelude.{◌≡◌, ◌<◌, ℕ, zero, suc, ◌+◌, ◌-◌, Bool, true, ◌&&◌, List, [], ◌∷◌, map, length, take, nat_lt, slice_index}
use Rattle.tasks.specs.Sets.{members}
use Rattle.orders.specs.Orders.{Assignment}
use Rattle.orders.specs.Search as orders
use Rattle.search.specs.declared.ranking.Ranking.{Ranking}
use Rattle.search.specs.declared.vertex.Vertex.{Vertex}

-- the tasks from level 1 down: as many as the set has members
abbrev pub ranks : Ranking → List ℕ
ranks r = take (members r.placed.word) r.order

abbrev pub ranked : Ranking → Assignment
ranked r = record { order = ranks r; times = map (λ i. slice_index r.times i) (ranks r) }

abbrev pub waiting : Vertex → orders.Vertex
waiting v = record { ancestors = ranked v.above; task = v.task }

-- every listed task is one of n
abbrev pub all_below : ℕ → List ℕ → Bool
all_below n [] = true
all_below n (i ∷ is) = nat_lt i n && all_below n is

-- the places on the stack down to level l: 16 at level 1, 15 at level 2, and so on
abbrev pub room : ℕ → ℕ
room zero = 0
room (suc l) = room l + (16 - l)

-- a stack, top first: each vertex has tasks of n, and fewer under it than there are places down to its level
abbrev pub sound : ℕ → List Vertex → Bool
sound n [] = true
sound n (v ∷ vs) =
    nat_lt (length vs) (room (suc (members v.above.placed.word)))
    && (nat_lt v.task n && (all_below n (ranks v.above) && sound n vs))

-- what is known of a vertex that was taken off a stack of tasks of n, with so many under it
pub record Below (n under : ℕ) (v : Vertex) : Type 0 where
  pub low : v.task < n
  pub above : all_below n (ranks v.above) ≡ true
  pub places : under < room (suc (members v.above.placed.word))
