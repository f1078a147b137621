-- (1, 100) comes before (2, 0), but joined with (5, 1) it comes after.
use Rattle.std.proofs.Common.{◌≡◌, ℕ, Bool, sym, ap, ◌∙◌, ap₂}
use Rattle.std.proofs.lemmas.Bool.{false≢true}
use Rattle.costs_tests.specs.declared.largest.Pair.{Pair}
use Rattle.costs_tests.specs.Largest.{paired, precedes, Unlawful}
use Rattle.costs_tests.proofs.largest.Pair.is_no_cost.Goals as goal

abbrev pair : ℕ → ℕ → Pair
pair m n = record { largest = m; total = n }

unlawful : Unlawful
unlawful p joins compares laws =
    let no_more : (a b : Pair) → p.no_more a b ≡ precedes a b = λ a b. ap (λ (f : Pair → Pair → Bool). f a b) compares in
    let joined : (a b : Pair) → p.joined a b ≡ paired a b = λ a b. ap (λ (f : Pair → Pair → Pair). f a b) joins in
    let kept = laws.keeps_no_more (pair 1 100) (pair 2 0) (pair 5 1) (pair 5 1) (no_more (pair 1 100) (pair 2 0)) (no_more (pair 5 1) (pair 5 1)) in
    false≢true (sym (ap₂ p.no_more (joined (pair 1 100) (pair 5 1)) (joined (pair 2 0) (pair 5 1)) ∙ no_more (pair 5 101) (pair 5 1)) ∙ kept)

pub returns : goal.returns
returns c = unlawful
