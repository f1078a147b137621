use Rattle.std.proofs.Common.{◌≡◌, ◌+◌, ◌-◌, ◌*◌, true, ◌&&◌, eqb, leb, length, ap, ◌∙◌, arith}
use Rattle.std.proofs.lemmas.List.{drop-drop, length-drop}
use Rattle.std.proofs.lemmas.Bool.Decides.{nat_tests}
use Rattle.tables.specs.Tables.{count_of}
use Rattle.tables.proofs.table.record.Goals as goal

pub returns : goal.returns
returns c =
    let n = c.args.n in
    let file = c.args.file.now in
    let s = c.in_ok-header.ensures in
    let size : 12 * n - 12 * (n - 1) ≡ 12 = omega arith in
    let count : c.in_ok-header.header.count ≡ count_of file = ap (λ h. h.count) s.1 in
    let long = ap length s.2 ∙ length-drop 2 file in
    let fits : (leb 2 (length file) && eqb (length file) (2 + 12 * count_of file)) ≡ true = grind (arith, nat_tests) in
    let held : (leb 1 n && leb n (count_of file)) ≡ true = grind (arith, nat_tests) in
    rw (fits, held, size, s.2, drop-drop)
