-- Pairs of the largest and the total, compared by the largest first.
use Rattle.std.specs.Prelude.{◌≡◌, ◌+◌, max, Bool, ◌&&◌, ◌||◌, ◌==◌, nat_le, nat_lt}
use Rattle.costs.specs.Prices.{Prices, Lawful}
use Rattle.costs_tests.specs.declared.largest.Pair.{Pair}

abbrev pub paired : Pair → Pair → Pair
paired a b = record { largest = max a.largest b.largest; total = a.total + b.total }

abbrev pub precedes : Pair → Pair → Bool
precedes a b = nat_lt a.largest b.largest || (a.largest == b.largest && nat_le a.total b.total)

abbrev pub Unlawful : Type 0
Unlawful = (p : Prices Pair) → p.joined ≡ paired → p.no_more ≡ precedes → Lawful p → ⊥
