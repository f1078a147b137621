use Rattle.std.proofs.Common.{◌≡◌, ℕ, ◌+◌, ◌*◌, List, [], ◌∷◌, slice_index_or, ap, ◌∙◌, div-one, arith}
use Rattle.tables.specs.Bits.{bytes_of, packed}
use Rattle.text.proofs.report.packed.Goals as goal

pub returns : goal.returns
unfolding bytes_of
returns c =
    let l = c.args.level.now in
    let word : c.from.result * 67108864 + c.from-2.result ≡ packed 0 ((6, l.id) ∷ (6, 0) ∷ (20, l.response) ∷ []) = omega arith in
    let whole : c.to_be_bytes.result ≡ bytes_of 8 (c.from.result * 67108864 + c.from-2.result) = rw div-one c.to_be_bytes.ensures in
    ap (λ (bs : List ℕ). slice_index_or bs 4 0 ∷ slice_index_or bs 5 0 ∷ slice_index_or bs 6 0 ∷ slice_index_or bs 7 0 ∷ []) whole ∙ ap (bytes_of 4) word
