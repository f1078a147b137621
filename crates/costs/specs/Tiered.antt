-- Two totals, by tier.
use Rattle.std.specs.Prelude.{ℕ, ◌+◌, max, Bool, cond, ◌&&◌, ◌||◌, ◌==◌, nat_le, nat_lt}
use Rattle.costs.specs.Prices.{share}
use Rattle.costs.specs.declared.tiers.Totals.{Totals}

abbrev pub totals : ℕ → ℕ → Totals
totals m n = record { first = m; second = n }

-- the first total for tier 0, the second for tier 1
abbrev pub tiered : ℕ → ℕ → Totals
tiered tier n = cond (tier == 0) (totals n 0) (totals 0 n)

abbrev pub added : Totals → Totals → Totals
added a b = totals (a.first + b.first) (a.second + b.second)

-- the first total decides, and the second breaks ties
abbrev pub precedes : Totals → Totals → Bool
precedes a b = nat_lt a.first b.first || (a.first == b.first && nat_le a.second b.second)

abbrev pub tier_share : Totals → ℕ
tier_share a = max (share a.first) (share a.second)
