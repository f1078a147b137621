-- A plan's state and its search.
use Rattle.std.proofs.Common.{ℕ, zero, suc, ◌≤◌, Bool, true, false, cond, arith}
use Rattle.orders.specs.Orders.{Test}
use Rattle.orders.specs.Costs.{Cost}
use Rattle.orders.specs.Search as orders

-- at most as many vertices are examined as are asked for
module _ {V : Type 0} (n : ℕ) (answer : Test) (c : Cost V) where
  stepped_by : (b : Bool) (k j : ℕ) → j ≤ k → cond b 0 (suc j) ≤ suc k
  stepped_by true k j h = omega arith
  stepped_by false k j h = omega arith

  pub stepped_few : (k : ℕ) (s : orders.State) → orders.stepped n answer c k s ≤ k
  stepped_few zero s = omega arith
  stepped_few (suc k) s =
      stepped_by (orders.is_none s.active) k (orders.stepped n answer c k (orders.examine n answer c s)) (stepped_few k (orders.examine n answer c s))
