use Rattle.std.proofs.Common.{◌≡◌, ℕ, List, [], ◌∷◌, get_or, ap, ◌∙◌, div-one}
use Rattle.tables.specs.Bits.{bytes_of, packed}
use Rattle.tables.specs.Tables.{header_fields}
use Rattle.tables.proofs.header.header_bytes.Goals as goal

pub returns : goal.returns
unfolding bytes_of
returns c =
    let word : c.put-bits.result.word ≡ packed 0 (header_fields c.args.codes.test c.args.codes.cost c.args.count) = cc in
    let whole : c.to_be_bytes-word.result ≡ bytes_of 16 c.put-bits.result.word = rw div-one c.to_be_bytes-word.ensures in
    ap (λ (bs : List ℕ). get_or bs 14 0 ∷ get_or bs 15 0 ∷ []) whole ∙ ap (bytes_of 2) word
