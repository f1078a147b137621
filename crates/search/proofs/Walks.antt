-- One examined vertex, and several.
use Rattle.std.proofs.Common.{◌≡◌, ℕ, suc, ◌+◌, ◌-◌, ◌<◌, true, false, cond, eqb, List, length, sym, ap, ◌∙◌, arith}
use Rattle.std.proofs.lemmas.Bool.{eq-eqb, cond-true}
use Rattle.orders.specs.Orders.{Test, Assignment}
use Rattle.orders.specs.Costs.{Cost, cost}
use Rattle.orders.specs.Search.{Vertex, State, placed, examine, steps, stepped, is_none}

module _ {V : Type 0} (n : ℕ) (answer : Test) (c : Cost V) where
  -- an order that is no cheaper is not kept
  pub last_kept : (best : Assignment) (rest : List Vertex) (here : Assignment) → length here.order ≡ n
      → c.no_more (cost c best.order best.times) (cost c here.order here.times) ≡ true
      → placed n answer c best rest here ≡ record { best = best; active = rest }
  last_kept best rest here last e =
      cond-true (eqb (length here.order) n) _ _ (eq-eqb (length here.order) n last)
      ∙ ap (λ a. record { best = a; active = rest }) (cond-true (c.no_more (cost c best.order best.times) (cost c here.order here.times)) best here e)

  module _ (count i : ℕ) (s t first : State) (low : i < count) (next : t ≡ examine n answer c s) where
    one_less : count - i ≡ suc (count - (i + 1))
    one_less = omega arith

    pub steps_next : steps n answer c (count - i) s ≡ steps n answer c count first
        → steps n answer c (count - (i + 1)) t ≡ steps n answer c count first
    steps_next e = ap (steps n answer c (count - (i + 1))) next ∙ ap (λ k. steps n answer c k s) (sym one_less) ∙ e

    pub stepped_next : is_none s.active ≡ false → i + stepped n answer c (count - i) s ≡ stepped n answer c count first
        → i + 1 + stepped n answer c (count - (i + 1)) t ≡ stepped n answer c count first
    stepped_next some e =
        let more : stepped n answer c (count - i) s ≡ suc (stepped n answer c (count - (i + 1)) t)
        = ap (λ k. stepped n answer c k s) one_less
        ∙ ap (λ b. cond b 0 (suc (stepped n answer c (count - (i + 1)) (examine n answer c s)))) some
        ∙ ap (λ u. suc (stepped n answer c (count - (i + 1)) u)) (sym next) in
        omega arith
