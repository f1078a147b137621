use Rattle.std.proofs.Common.{◌≡◌, ℕ, List, take, drop, ap, ◌∙◌, div-one}
use Rattle.tables.specs.Bits.{bytes_of, packed}
use Rattle.tables.specs.Tables.{record_fields}
use Rattle.tasks.specs.Tasks.{plain}
use Rattle.tables.proofs.record.task_bytes.Goals as goal

pub returns : goal.returns
unfolding bytes_of
returns c =
    let word : c.put-bits.result.word ≡ packed 0 (record_fields (plain c.args.task.now)) = cc in
    let whole : c.to_be_bytes.result ≡ bytes_of 16 c.put-bits.result.word = rw div-one c.to_be_bytes.ensures in
    c.copy_from_slice.ensures.after ∙ (ap (λ (bs : List ℕ). take 12 (drop 4 bs)) whole ∙ ap (bytes_of 12) word)
