-- A cost, its laws, and the cost of an order.
use Rattle.std.specs.Prelude.{◌≡◌, ℕ, ◌≤◌, Bool, true, ◌⊎◌, List, [], ◌∷◌}

-- the cost of no task, of a task (by position) with a response time, of tasks together; and "no more than"
pub record Cost (V : Type 0) : Type 0 where
  pub none : V
  pub of : ℕ → ℕ → V
  pub join : V → V → V
  pub no_more : V → V → Bool

abbrev pub NoMore : {V : Type 0} → Cost V → V → V → Type 0
NoMore c a b = c.no_more a b ≡ true

-- the comparison is total and transitive; joining is associative and commutative, and no task is neutral; joining keeps the
-- comparison; and a later time never costs less
pub record Laws {V : Type 0} (c : Cost V) : Type 0 where
  pub total : (x y : V) → NoMore c x y ⊎ NoMore c y x
  pub chain : (x y z : V) → NoMore c x y → NoMore c y z → NoMore c x z
  pub assoc : (x y z : V) → c.join (c.join x y) z ≡ c.join x (c.join y z)
  pub comm : (x y : V) → c.join x y ≡ c.join y x
  pub neutral : (x : V) → c.join c.none x ≡ x
  pub rises : (w x y z : V) → NoMore c w x → NoMore c y z → NoMore c (c.join w y) (c.join x z)
  pub later : (i r s : ℕ) → r ≤ s → NoMore c (c.of i r) (c.of i s)

-- the cost of tasks with their response times
abbrev pub cost : {V : Type 0} → Cost V → List ℕ → List ℕ → V
cost c [] ts = c.none
cost c (i ∷ is) [] = c.none
cost c (i ∷ is) (t ∷ ts) = c.join (c.of i t) (cost c is ts)
