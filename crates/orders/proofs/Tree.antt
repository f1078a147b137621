-- The vertices of the whole tree, level by level.
use Rattle.std.proofs.Common.{◌≡◌, ℕ, zero, suc, ◌+◌, ◌*◌, sym, refl, ap, ◌∙◌, mul-add, arith}
use Rattle.tasks.specs.Numbers.{sum_below}
use Rattle.tasks.proofs.Ranges.{sum_front}
use Rattle.orders.specs.Search.{arrangements}
use Rattle.orders.specs.Theorems.{VerticesByLevel}

sum_times : (k n : ℕ) (f : ℕ → ℕ) → sum_below n (λ l. k * f l) ≡ k * sum_below n f
unfolding sum_below
sum_times k zero f = omega arith
sum_times k (suc n) f = ap (λ x. x + k * f n) (sum_times k n f) ∙ sym (mul-add k (sum_below n f) (f n))

none : 0 ≡ sum_below 0 (λ l. arrangements 0 (suc l))
unfolding sum_below
none = refl

pub vertices_by_level : VerticesByLevel
vertices_by_level zero = none
vertices_by_level (suc n) =
    ap (λ x. suc n * (1 + x)) (vertices_by_level n)
    ∙ sym (sum_times (suc n) (suc n) (arrangements n) ∙ ap (λ x. suc n * x) (sum_front n (arrangements n)))
