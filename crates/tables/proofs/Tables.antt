-- The records of a table, one after another.
use Rattle.std.proofs.Common.{◌≡◌, ℕ, ◌+◌, ◌<◌, ◌≤◌, Bool, leb, List, [], ◌∷◌, ◌++◌, map, length, get_or, drop, Some, None, Ok, Err, Option, sym, ap, ◌∙◌, append_assoc, arith}
use Rattle.std.proofs.lemmas.List.{append-nil, at_drop_all, at_drop_more, length-drop, map_push}
use Rattle.std.proofs.lemmas.Bool.{le-leb, lt-leb}
use Rattle.tasks.specs.declared.fault.Fault.{Fault}
use Rattle.tasks.specs.declared.fault.Fault.TheVariants.{Plan}
use Rattle.tasks.specs.declared.fault.PlanFault.TheVariants.{Order}
use Rattle.tasks.specs.declared.task.Timing.{Timing}
use Rattle.tasks.specs.declared.task.Task.{Task}
use Rattle.tasks.specs.Faults.{unless, first, outcome}
use Rattle.tables.specs.Tables.{candidate, record_fault, records_fault, rows}
use Rattle.tasks.specs.Tasks.{plain}

-- one record, in front of the others
module _ (admitted : Timing → Bool) (n floor : ℕ) (bytes : List ℕ) (rest : List (List ℕ)) where
  others : Option Fault
  others = records_fault admitted (n + 1) ((candidate bytes).id + 1) rest

  pub refused : (e : Fault) → record_fault admitted n bytes ≡ Some e → records_fault admitted n floor (bytes ∷ rest) ≡ Some e
  unfolding others
  refused e h = ap (λ o. first o (unless (leb floor (candidate bytes).id) (Plan (Order n)) others)) h

  pub unordered : record_fault admitted n bytes ≡ None → (candidate bytes).id < floor → records_fault admitted n floor (bytes ∷ rest) ≡ Some (Plan (Order n))
  unfolding others
  unordered h l =
      ap (λ o. first o (unless (leb floor (candidate bytes).id) (Plan (Order n)) others)) h
      ∙ ap (λ t. unless t (Plan (Order n)) others) (lt-leb floor (candidate bytes).id l)

  pub passed : record_fault admitted n bytes ≡ None → floor ≤ (candidate bytes).id → records_fault admitted n floor (bytes ∷ rest) ≡ records_fault admitted (n + 1) ((candidate bytes).id + 1) rest
  unfolding others
  passed h l =
      ap (λ o. first o (unless (leb floor (candidate bytes).id) (Plan (Order n)) others)) h
      ∙ ap (λ t. unless t (Plan (Order n)) others) (le-leb floor (candidate bytes).id l)

-- the next record, where some are left
pub next_record : (records : List (List ℕ)) (k : ℕ) (x : List ℕ) (rest : List (List ℕ)) → drop k records ≡ x ∷ rest
    → (k < length records) × (x ≡ get_or records k []) × (rest ≡ drop (k + 1) records)
next_record records k x rest e =
    let inside : k < length records = omega (arith, ap length e, length-drop k records) in
    let same = sym e ∙ at_drop_more (λ ys. ys) records k [] inside in
    (inside, ap (λ ys. get_or ys 0 []) same, ap (drop 1) same)

-- a turn of the loop over the records: the first `done` are read, and what is left decides the fault
module _ (admitted : Timing → Bool) (records : List (List ℕ)) (done floor : ℕ) (inside : done < length records)
    (same : records_fault admitted (done + 1) floor (drop done records) ≡ records_fault admitted 1 0 records) where
  abbrev pub bytes : List ℕ
  bytes = get_or records done []

  abbrev pub after : List (List ℕ)
  after = drop (done + 1) records

  left_is : drop done records ≡ bytes ∷ after
  left_is = at_drop_more (λ ys. ys) records done [] inside

  here : records_fault admitted (done + 1) floor (bytes ∷ after) ≡ records_fault admitted 1 0 records
  here = sym (ap (records_fault admitted (done + 1) floor) left_is) ∙ same

  refusal : {e : Fault} → records_fault admitted (done + 1) floor (bytes ∷ after) ≡ Some e → rows admitted records ≡ Err e
  refusal h = ap (λ o. outcome o (map candidate records)) (sym here ∙ h)

  pub turn_refused : (e : Fault) → record_fault admitted (done + 1) bytes ≡ Some e → rows admitted records ≡ Err e
  turn_refused e h = refusal (refused admitted (done + 1) floor bytes after e h)

  module _ (ok : record_fault admitted (done + 1) bytes ≡ None) (task : Task) (is : plain task ≡ candidate bytes) where
    pub turn_unordered : task.id < floor → rows admitted records ≡ Err (Plan (Order (done + 1)))
    turn_unordered l =
        let low : (candidate bytes).id < floor = omega (arith, ap (λ c. c.id) is) in
        refusal (unordered admitted (done + 1) floor bytes after ok low)

    pub turn_passed : (tasks more : List Task) → more ≡ tasks ++ task ∷ [] → floor ≤ task.id
        → map plain tasks ++ map candidate (drop done records) ≡ map candidate records
        → (records_fault admitted (done + 1 + 1) (task.id + 1) after ≡ records_fault admitted 1 0 records)
        × (map plain more ++ map candidate after ≡ map candidate records)
    turn_passed tasks more e l h =
        let id : task.id ≡ (candidate bytes).id = ap (λ c. c.id) is in
        let high : floor ≤ (candidate bytes).id = omega (arith, id) in (
          ap (λ k. records_fault admitted (done + 1 + 1) (k + 1) after) id ∙ (sym (passed admitted (done + 1) floor bytes after ok high) ∙ here),
          rw (e, map_push plain tasks task, append_assoc, is) (rw left_is at h),
        )

-- the end of the loop, where no record is left
pub turns_end : (admitted : Timing → Bool) (records : List (List ℕ)) (done floor : ℕ) (tasks : List Task) → length records ≤ done
    → records_fault admitted (done + 1) floor (drop done records) ≡ records_fault admitted 1 0 records
    → map plain tasks ++ map candidate (drop done records) ≡ map candidate records
    → Ok (map plain tasks) ≡ rows admitted records
turns_end admitted records done floor tasks all same h =
    let e : drop done records ≡ [] = at_drop_all (λ ys. ys) records done all in
    let none : None ≡ records_fault admitted 1 0 records = rw e at same in
    let whole : map plain tasks ≡ map candidate records = rw (e, append-nil) at h in
    ap Ok whole ∙ ap (λ o. outcome o (map candidate records)) none
