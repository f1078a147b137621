-- Runs of several steps, and the end of a search.
use Rattle.std.proofs.Common.{◌≡◌, ℕ, zero, suc, ◌+◌, true, cond, List, [], ◌∷◌, sym, refl, ap, ◌∙◌, zero-add, arith}
use Rattle.std.proofs.lemmas.Bool.{false≢true}
use Rattle.orders.specs.Orders.{Test}
use Rattle.orders.specs.Costs.{Cost}
use Rattle.orders.specs.Search.{State, examine, examine_active, steps, stepped, is_none}

module _ {V : Type 0} (n : ℕ) (answer : Test) (c : Cost V) where
  pub steps_add : (j k : ℕ) (s : State) → steps n answer c (j + k) s ≡ steps n answer c k (steps n answer c j s)
  steps_add zero k s = ap (λ m. steps n answer c m s) (zero-add k)
  steps_add (suc j) k s =
      let more : suc j + k ≡ suc (j + k) = omega arith in
      ap (λ m. steps n answer c m s) more ∙ steps_add j k (examine n answer c s)

  -- once none is left
  pub steps_done : (k : ℕ) (s : State) → s.active ≡ [] → steps n answer c k s ≡ s
  steps_done zero s e = refl
  steps_done (suc k) s e =
      let same : examine n answer c s ≡ s = ap (examine_active n answer c s.best) e ∙ ap (λ vs. record { best = s.best; active = vs }) (sym e) in
      ap (steps n answer c k) same ∙ steps_done k s e

  pub stepped_done : (k : ℕ) (s : State) → s.active ≡ [] → stepped n answer c k s ≡ 0
  stepped_done zero s e = refl
  stepped_done (suc k) s e = ap (λ vs. cond (is_none vs) 0 (suc (stepped n answer c k (examine n answer c s)))) e

pub none_is : {A : Type 0} (xs : List A) → is_none xs ≡ true → xs ≡ []
none_is [] e = refl
none_is (x ∷ xs) e = absurd (false≢true e)
