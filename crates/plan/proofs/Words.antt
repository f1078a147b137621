-- Sets of ids, one id or one position at a time.
use Rattle.std.proofs.Common.{◌≡◌, ℕ, ◌+◌, ◌^◌, true, false, List, get_or, refl, arith}
use Rattle.tasks.specs.declared.task.Candidate.{Candidate}
use Rattle.tasks.specs.Numbers.{sum_below}
use Rattle.tasks.specs.Sets.{holds}
use Rattle.tasks.proofs.Ranges.{sum_next}
use Rattle.costs.specs.Folds.{no_task}
use Rattle.plan.specs.Ids.{bit_if_in}

module _ (ids : ℕ) (cs : List Candidate) where
  pub bit_in : (i word bit : ℕ) → holds ids (get_or cs i no_task).id ≡ true → bit ≡ 2 ^ i → word ≡ sum_below i (bit_if_in ids cs)
      → word + bit ≡ sum_below (i + 1) (bit_if_in ids cs)
  bit_in i word bit h e w = rw (sum_next i (bit_if_in ids cs), h, e, w) refl

  pub bit_out : (i word : ℕ) → holds ids (get_or cs i no_task).id ≡ false → word ≡ sum_below i (bit_if_in ids cs)
      → word ≡ sum_below (i + 1) (bit_if_in ids cs)
  bit_out i word h w = rw (sum_next i (bit_if_in ids cs), h) (omega (arith, w))

pub sum_none : (f : ℕ → ℕ) → 0 ≡ sum_below 0 f
unfolding sum_below
sum_none f = refl
