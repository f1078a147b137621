-- The bytes of a report, one more level at a time.
use Rattle.std.proofs.Common.{◌≡◌, ℕ, ◌*◌, List, [], ◌∷◌, length, refl, arith}
use Rattle.tables.specs.Bits.{bytes_of}
use Rattle.text.specs.Reports.{level_record, report_bytes}

pub length_level : (l : ℕ × ℕ) → length (level_record l) ≡ 4
unfolding bytes_of
length_level l = refl

pub length_report : (ls : List (ℕ × ℕ)) → length (report_bytes ls) ≡ 4 * length ls
unfolding bytes_of
length_report [] = refl
length_report (l ∷ ls) = omega (arith, length_report ls)
