use Rattle.std.proofs.Common.{◌≡◌, ◌≢◌, ℕ, ◌+◌, ◌<◌, ◌≤◌, Bool, true, not, eqb, List, [], ◌∷◌, ◌++◌, length, get_or, take, refl, arith, length-take}
use Rattle.std.specs.List.{filter}
use Rattle.std.proofs.lemmas.Grind.{common_steps}
use Rattle.std.proofs.lemmas.List.Elements.{filter_more}
use Rattle.std.proofs.lemmas.List.Filters.{length-filter_both}
use Rattle.second.specs.declared.table.Row.{Row}
use Rattle.second.proofs.table.Rows.without.Goals as goal
use Rattle.second.proofs.table.Rows.without.Goals.{then-row-id, else-row-id}

-- what is kept of one task more: the task itself, if its id is another
kept : (id : ℕ) (xs : List Row) (i : ℕ) (d : Row) (old new : List Row) → i < length xs → length xs ≤ 16
    → old ≡ filter (λ (row : Row). not (eqb row.id id)) (take i xs)
    → (length old < 16 → new ≡ old ++ get_or xs i d ∷ []) → (get_or xs i d).id ≢ id
    → new ≡ filter (λ (row : Row). not (eqb row.id id)) (take (i + 1) xs)
kept id xs i d old new h few inv pushed apart =
    let p : Row → Bool = λ (row : Row). not (eqb row.id id) in
    let both = length-filter_both p (λ (row : Row). not (p row)) (λ (_ : Row). refl) (take i xs) in
    let room : length old < 16 = rw inv (omega (arith, both, length-take i xs)) in
    let test : p (get_or xs i d) ≡ true = grind (arith, common_steps) in
    grind (arith, common_steps, filter_more p xs i d h, pushed room, test, inv)

pub loop-row-preserved : goal.loop-row-preserved
loop-row-preserved c =
    let xs = c.all-row-items.result.now in
    let i = c.loop-row.row-index in
    let d : Row = record { id = 0; tier = 0; weight = 0; section = 0; execution = 0; deadline = 0; period = 0 } in
    elim c.if-row-id.branch [
      | then-row-id w ↦ rw w.rows-is (kept c.args.id xs i d _ _ c.loop-row-test.true c.all-row-items.ensures.few c.loop-row.invariant w.push.ensures.room (let apart : (get_or xs i d).id ≢ c.args.id = omega (arith, w.if-row-id.true) in apart))
      | else-row-id w ↦ rw w.rows-is (let p : Row → Bool = λ (row : Row). not (eqb row.id c.args.id) in grind (arith, common_steps, filter_more p xs i d c.loop-row-test.true, w.if-row-id.false, c.loop-row.invariant))
    ]
