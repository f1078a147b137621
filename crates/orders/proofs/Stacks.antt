-- The active vertices stand by level, and there is room for them.
use Rattle.std.proofs.Common.{◌≡◌, ℕ, zero, suc, ◌+◌, ◌-◌, ◌*◌, ◌<◌, ◌≤◌, List, [], ◌∷◌, ◌++◌, map, length, refl, ap, subst, append-nil, suc-mul, mul-suc, mul-add, arith, length-append}
use Rattle.std.specs.List.{AllByRecursion}
use Rattle.std.proofs.ByRecursion.{All-append, All-weaker}
use Rattle.orders.specs.Orders.{unplaced, Test, Assignment}
use Rattle.orders.specs.Costs.{Cost}
use Rattle.orders.specs.Search.{better}
use Rattle.orders.proofs.Paths.{Path, Paths, entering, begun, examine, examine_active, steps, PathsFew}
use Rattle.orders.proofs.Counts.{Front, front_nothing, length_unplaced}
use Rattle.orders.proofs.Steps.{after_examined, fronts_enter}

-- the active vertices that there is room for down to level l: n at level 1, n - 1 at level 2, and so on
abbrev room : ℕ → ℕ → ℕ
room n zero = 0
room n (suc l) = room n l + (n - l)

-- under a vertex of level l stand fewer than there is room for down to l, none of a deeper level
abbrev Stacked : ℕ → List Path → Type 0
Stacked n [] = Unit {0}
Stacked n (v ∷ rest) = (length rest < room n (length v)) × AllByRecursion (λ w. length w ≤ length v) rest × Stacked n rest

-- ---- vertices enter on top of lower ones

length_map : (v : Path) (is : List ℕ) → length (map (λ i. v ++ (i ∷ [])) is) ≡ length is
length_map v [] = refl
length_map v (i ∷ is) = ap suc (length_map v is)

levels_enter : (l : ℕ) (v : Path) (is : List ℕ) → suc (length v) ≤ l → AllByRecursion (λ w. length w ≤ l) (map (λ i. v ++ (i ∷ [])) is)
levels_enter l v [] h = tt
levels_enter l v (i ∷ is) h = (omega (arith, length-append v (i ∷ [])), levels_enter l v is h)

stacked_more : (n : ℕ) (v : Path) (is : List ℕ) (rest : List Path) → length is + length rest ≤ room n (suc (length v))
    → AllByRecursion (λ w. length w ≤ length v) rest → Stacked n rest → Stacked n (map (λ i. v ++ (i ∷ [])) is ++ rest)
stacked_more n v [] rest h lower s = s
stacked_more n v (i ∷ is) rest h lower s =
    let level : length (v ++ (i ∷ [])) ≡ suc (length v) = omega (arith, length-append v (i ∷ [])) in (
      omega (arith, ap (room n) level, length-append (map (λ j. v ++ (j ∷ [])) is) rest, length_map v is),
      All-append (λ w. length w ≤ length (v ++ (i ∷ []))) (map (λ j. v ++ (j ∷ [])) is) rest
          (levels_enter (length (v ++ (i ∷ []))) v is (omega arith))
          (All-weaker (λ w. length w ≤ length v) (λ w. length w ≤ length (v ++ (i ∷ []))) (λ w k. omega arith) rest lower),
      stacked_more n v is rest (omega arith) lower s,
    )

-- ---- the invariant

record Shaped (n : ℕ) (s : Paths) : Type 0 where
  fronts : AllByRecursion (Front n) s.active
  stacked : Stacked n s.active

module _ {V : Type 0} (n : ℕ) (answer : Test) (c : Cost V) where
  examine_shaped : (best : Assignment) (active : List Path) → Shaped n (record { best = best; active = active })
      → Shaped n (examine_active n answer c best active)
  examine_shaped best [] h = h
  examine_shaped best (v ∷ rest) h = after_examined n answer c best rest v (Shaped n) (record {
    late = λ e. dropped best;
    last = λ ts e l. dropped (better n answer c best (record { order = v; times = ts }));
    late_below = λ ts e b. dropped best;
    no_better = λ ts b e eb q. dropped best;
    branch = λ ts e ne. record {
      fronts = All-append (Front n) (entering n v) rest (fronts_enter n v h.fronts.0) h.fronts.1;
      stacked = stacked_more n v (unplaced n v) rest (omega (arith, length_unplaced n v h.fronts.0, h.stacked.0))
          h.stacked.1 h.stacked.2;
    };
  })
    where
      dropped : (a : Assignment) → Shaped n (record { best = a; active = rest })
      dropped a = record { fronts = h.fronts.1; stacked = h.stacked.2 }

  steps_shaped : (k : ℕ) (s : Paths) → Shaped n s → Shaped n (steps n answer c k s)
  steps_shaped zero s h = h
  steps_shaped (suc k) s h = steps_shaped k (examine n answer c s) (examine_shaped s.best s.active h)

begun_shaped : (n : ℕ) (first : Assignment) → Shaped n (begun n first)
begun_shaped n first = record {
  fronts = fronts_enter n [] (front_nothing n);
  stacked = subst (Stacked n) (append-nil (entering n []))
      (stacked_more n [] (unplaced n []) [] (omega (arith, length_unplaced n [] (front_nothing n))) tt tt);
}

-- ---- the room down to the last level

triangle : ℕ → ℕ
triangle zero = 0
triangle (suc m) = suc m + triangle m

twice_triangle : (m : ℕ) → 2 * triangle m ≡ m * (m + 1)
unfolding triangle
twice_triangle zero = refl
twice_triangle (suc m) = omega (arith, twice_triangle m, mul-add (suc m) (suc m) 1, mul-add m m 1, suc-mul m (suc m), mul-suc m m)

room_left : (n l : ℕ) → l ≤ n → room n l + triangle (n - l) ≡ triangle n
unfolding triangle
room_left n zero h = let all : n - 0 ≡ n = omega arith in omega (arith, ap triangle all)
room_left n (suc l) h =
    let one : n - l ≡ suc (n - suc l) = omega arith in
    omega (arith, room_left n l (omega arith), ap triangle one)

few : (n : ℕ) (vs : List Path) → AllByRecursion (Front n) vs → Stacked n vs → 2 * length vs ≤ n * (n + 1)
few n [] f s = omega arith
few n (v ∷ rest) f s =
    omega (arith, s.0, room_left n (length v) (omega (arith, length_unplaced n v f.0)), twice_triangle n)

pub paths_few : (V : Type 0) → PathsFew V
paths_few V n answer c first k =
    let h = steps_shaped n answer c k (begun n first) (begun_shaped n first) in
    few n (steps n answer c k (begun n first)).active h.fronts h.stacked
