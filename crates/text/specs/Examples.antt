-- Worked examples of the texts and of the report.
use Rattle.std.specs.Prelude.{◌≡◌, [], ◌∷◌, codes}
use Rattle.text.specs.Reports.{report_bytes}
use Rattle.text.specs.Texts.{listing_text, refusal_line}

pub record Examples : Type 0 where
  pub three_levels : listing_text ((1, 1) ∷ (2, 3) ∷ (3, 10) ∷ []) (104, 0) ≡ codes "1 1 1\n2 2 3\n3 3 10\ncost 104 0\n"
  pub repeated_id : refusal_line 9 2 ≡ codes "refused 9 record 2\n"
  pub no_record : refusal_line 16 0 ≡ codes "refused 16 record 0\n"
  pub packed_levels : report_bytes ((1, 1) ∷ (2, 3) ∷ (3, 10) ∷ []) ≡ 4 ∷ 0 ∷ 0 ∷ 1 ∷ 8 ∷ 0 ∷ 0 ∷ 3 ∷ 12 ∷ 0 ∷ 0 ∷ 10 ∷ []
