-- The packed levels of an order, each by its id and its response time.
use Rattle.std.specs.Prelude.{ℕ, List, [], ◌∷◌}
use Rattle.std.specs.List.{flat_map}
use Rattle.tables.specs.Bits.{packed, bytes_of}

-- a level takes four bytes: the id, zero, the response time
abbrev pub level_record : ℕ × ℕ → List ℕ
level_record l = bytes_of 4 (packed 0 ((6, l.0) ∷ (6, 0) ∷ (20, l.1) ∷ []))

abbrev pub report_bytes : List (ℕ × ℕ) → List ℕ
report_bytes ls = flat_map level_record ls
