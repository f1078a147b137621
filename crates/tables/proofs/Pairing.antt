-- Packed tables and lists of tasks pair off.
use Rattle.std.proofs.Common.{◌≡◌, ℕ, zero, suc, ◌+◌, ◌*◌, ◌<◌, ◌≤◌, Bool, true, false, ◌&&◌, eqb, ltb, leb, List, [], ◌∷◌, ◌++◌, map, length, get_or, take, drop, IfOk, Some, None, Ok, Err, Option, Result, sym, refl, ap, ◌∙◌, subst, arith, w8, Fits}
use mathlib.Core.HLevel.{is_prop→PathP}
use native.Mathlib.Bridge.{le_prop}
use Rattle.std.specs.Int.Digits.{AllBelowBase}
use Rattle.std.specs.List.{flat_map, AllByRecursion}
use Rattle.std.proofs.ByRecursion.{All-take, All-drop, All-from_get_or}
use Rattle.std.proofs.lemmas.List.{take_at, drop_at, length-map, length-drop, nil_from_length, length-take-le, take-append-drop}
use Rattle.std.proofs.lemmas.Bool.{le-leb, lt-ltb, eq-eqb, leb-true, ltb-true, eqb-true, and_parts, and_from}
use Rattle.std.proofs.lemmas.Bool.Decides.{nat_tests}
use Rattle.std.specs.Option.{option_map}
use Rattle.tasks.specs.declared.fault.Fault.{Fault}
use Rattle.tasks.specs.declared.fault.TaskFault.{TaskFault}
use Rattle.tasks.specs.declared.fault.Fault.TheVariants as fault
use Rattle.tasks.specs.declared.fault.FileFault.TheVariants.{Length, Format, Spare, Code}
use Rattle.tasks.specs.declared.fault.TaskFault.TheVariants.{Range, Deadline, Section, NotAdmitted}
use Rattle.tasks.specs.declared.fault.PlanFault.TheVariants.{Order, Full}
use Rattle.tasks.specs.declared.task.Candidate.{Candidate}
use Rattle.tasks.specs.declared.task.Task.{Task}
use Rattle.tasks.specs.declared.task.Timing.{Timing}
use Rattle.tables.specs.declared.header.Header.{Header}
use Rattle.tables.specs.Bits.{field, bytes_of, packed}
use Rattle.tasks.specs.Faults.{unless, first, outcome}
use Rattle.tasks.specs.declared.list.TaskList.{TaskList}
use Rattle.tasks.specs.Lists.{plains, plainly}
use Rattle.tables.specs.Pairing.{Sound, AscendFrom, Held, Pairs}
use Rattle.tables.specs.Tables.{candidate, chunks, count_of, header, header_in, header_fault, record_fault, records_fault, records_of, table_fault, decoded, encoded, record_bytes, record_fields, header_fields}
use Rattle.tasks.specs.Tasks.{task_fault, ranged, tick, timing_of, plain}
use Rattle.tables.proofs.Fields.{Fit, record_back, record_same, header_back, header_same}
use Rattle.tables.proofs.Packing.{bytes_of_length}
use Rattle.tables.proofs.Tables.{passed}
use Rattle.tables.proofs.Encoding.{encoded_length}

-- where there is no fault, each test held
pub unless_none : {F : Type 0} (b : Bool) (f : F) (rest : Option F) → unless b f rest ≡ None → (b ≡ true) × (rest ≡ None)
unless_none true f rest h = (refl, h)
unless_none false f rest h = let z : ◌≡◌ {A = ℕ} 0 1 = cc in absurd (omega arith)

pub first_none : {F : Type 0} (o rest : Option F) → first o rest ≡ None → (o ≡ None) × (rest ≡ None)
first_none None rest h = (refl, h)
first_none (Some f) rest h = let z : ◌≡◌ {A = ℕ} 0 1 = cc in absurd (omega arith)

outcome_ok : {X F : Type 0} (o : Option F) (x y : X) → outcome o x ≡ Ok y → (o ≡ None) × (x ≡ y)
outcome_ok None x y h = (refl, cc)
outcome_ok (Some f) x y h = let z : ◌≡◌ {A = ℕ} 0 1 = cc in absurd (omega arith)

pub mapped_none : (o : Option TaskFault) → option_map fault.Task o ≡ None → o ≡ None
mapped_none None h = refl
mapped_none (Some f) h = let z : ◌≡◌ {A = ℕ} 0 1 = cc in absurd (omega arith)

-- a task breaks no rule exactly if it is sound
sound_passes : (n : ℕ) (c : Candidate) → Sound c → task_fault n c ≡ None
sound_passes n c s =
    let d : (leb c.execution c.deadline && leb c.execution c.period) ≡ true = and_from _ _ (le-leb _ _ s.1) (le-leb _ _ s.2) in
    let p : ltb c.section c.execution ≡ true = lt-ltb _ _ s.3 in
    rw (s.0, d, p)

pub passes_sound : (n : ℕ) (c : Candidate) → task_fault n c ≡ None → Sound c
passes_sound n c h =
    let r = unless_none (ranged c) (Range n) _ h in
    let d = unless_none (leb c.execution c.deadline && leb c.execution c.period) (Deadline n) _ r.1 in
    let s = unless_none (ltb c.section c.execution) (Section n) None d.1 in
    let p = and_parts (leb c.execution c.deadline) (leb c.execution c.period) d.0 in
    (r.0, leb-true _ _ p.0, leb-true _ _ p.1, ltb-true _ _ s.0)

-- and then each field fits its width
pub sound_fits : (c : Candidate) → Sound c → Fit (record_fields c)
sound_fits c s =
    let id = and_parts (ltb c.id 64) _ s.0 in
    let tier = and_parts (ltb c.tier 2) _ id.1 in
    let weight = and_parts (ltb c.weight 65536) _ tier.1 in
    let section = and_parts (ltb c.section 4096) _ weight.1 in
    let execution = and_parts (tick c.execution) _ section.1 in
    let times = and_parts (tick c.deadline) (tick c.period) execution.1 in
    let below : (n : ℕ) → tick n ≡ true → n < 1048576 = λ n h. ltb-true n 1048576 (and_parts (leb 1 n) (ltb n 1048576) h).1 in (
      ltb-true _ _ id.0,
      (
        ltb-true _ _ tier.0,
        (
          omega arith,
          (
            ltb-true _ _ weight.0,
            (
              ltb-true _ _ section.0,
              (below _ execution.0, (below _ times.0, (below _ times.1, tt))),
            ),
          ),
        ),
      ),
    )

-- a task is sound, and is its numbers
task_sound : (t : Task) → Sound (plain t)
task_sound t = (grind (arith, nat_tests), t.in_deadline, t.in_period, t.preempted)

tasks_sound : (ts : List Task) → AllByRecursion Sound (map plain ts)
tasks_sound [] = tt
tasks_sound (t ∷ ts) = (task_sound t, tasks_sound ts)

same_task : (t u : Task) → plain t ≡ plain u → t ≡ u
same_task t u p = λ i. record {
  id = (p i).id;
  tier = (p i).tier;
  weight = (p i).weight;
  section = (p i).section;
  execution = (p i).execution;
  deadline = (p i).deadline;
  period = (p i).period;
  ids = is_prop→PathP (λ j. (p j).id < 64) (λ j. le_prop) t.ids u.ids i;
  tiers = is_prop→PathP (λ j. (p j).tier < 2) (λ j. le_prop) t.tiers u.tiers i;
  weights = is_prop→PathP (λ j. (p j).weight < 65536) (λ j. le_prop) t.weights u.weights i;
  sections = is_prop→PathP (λ j. (p j).section < 4096) (λ j. le_prop) t.sections u.sections i;
  deadlines = is_prop→PathP (λ j. (p j).deadline < 1048576) (λ j. le_prop) t.deadlines u.deadlines i;
  periods = is_prop→PathP (λ j. (p j).period < 1048576) (λ j. le_prop) t.periods u.periods i;
  in_deadline = is_prop→PathP (λ j. (p j).execution ≤ (p j).deadline) (λ j. le_prop) t.in_deadline u.in_deadline i;
  in_period = is_prop→PathP (λ j. (p j).execution ≤ (p j).period) (λ j. le_prop) t.in_period u.in_period i;
  preempted = is_prop→PathP (λ j. (p j).section < (p j).execution) (λ j. le_prop) t.preempted u.preempted i;
}

-- the records of a table

chunks_joined : (cs : List Candidate) → chunks (length cs) (flat_map record_bytes cs) ≡ map record_bytes cs
chunks_joined [] = refl
chunks_joined (c ∷ cs) =
    let size = bytes_of_length 12 (packed 0 (record_fields c)) in
    rw (take_at (record_bytes c) (flat_map record_bytes cs) 12 size, drop_at (record_bytes c) (flat_map record_bytes cs) 12 size, chunks_joined cs)

length_chunks : (count : ℕ) (bytes : List ℕ) → length (chunks count bytes) ≡ count
length_chunks zero bytes = refl
length_chunks (suc count) bytes = ap suc (length_chunks count (drop 12 bytes))

map_back : (cs : List Candidate) → AllByRecursion Sound cs → map candidate (map record_bytes cs) ≡ cs
map_back [] s = refl
map_back (c ∷ cs) s = rw ((record_back c (sound_fits c s.0)).0, map_back cs s.1)

module _ (admitted : Timing → Bool) where
  -- one record
  record_parts : (n : ℕ) (bytes : List ℕ) → record_fault admitted n bytes ≡ None
      → (field bytes 7 1 ≡ 0) × Sound (candidate bytes) × (admitted (timing_of (candidate bytes)) ≡ true)
  record_parts n bytes h =
      let spare = unless_none (eqb (field bytes 7 1) 0) (fault.File (Spare n)) _ h in
      let task = first_none (option_map fault.Task (task_fault n (candidate bytes))) _ spare.1 in
      let test = unless_none (admitted (timing_of (candidate bytes))) (fault.Task (NotAdmitted n)) None task.1 in
      (eqb-true _ _ spare.0, passes_sound n (candidate bytes) (mapped_none _ task.0), test.0)

  record_passes : (n : ℕ) (c : Candidate) → Sound c → admitted (timing_of c) ≡ true → record_fault admitted n (record_bytes c) ≡ None
  record_passes n c s a =
      let back = record_back c (sound_fits c s) in
      let at : ℕ → Candidate → Option Fault
      = λ spare d. unless (eqb spare 0) (fault.File (Spare n)) (first (option_map fault.Task (task_fault n d)) (unless (admitted (timing_of d)) (fault.Task (NotAdmitted n)) None)) in
      let same : at (field (record_bytes c) 7 1) (candidate (record_bytes c)) ≡ at 0 c = λ i. at (back.1 i) (back.0 i) in
      same ∙ rw (sound_passes n c s, a)

  -- several records, from the record n on
  records_parts : (n floor : ℕ) (bytes : List ℕ) (rest : List (List ℕ)) → records_fault admitted n floor (bytes ∷ rest) ≡ None
      → (record_fault admitted n bytes ≡ None) × (floor ≤ (candidate bytes).id) × (records_fault admitted (n + 1) ((candidate bytes).id + 1) rest ≡ None)
  records_parts n floor bytes rest h =
      let one = first_none (record_fault admitted n bytes) _ h in
      let order = unless_none (leb floor (candidate bytes).id) (fault.Plan (Order n)) _ one.1 in
      (one.0, leb-true _ _ order.0, order.1)

  held_passes : (cs : List Candidate) (n floor : ℕ) → AllByRecursion Sound cs → AllByRecursion (λ c. admitted (timing_of c) ≡ true) cs → AscendFrom floor cs
      → records_fault admitted n floor (map record_bytes cs) ≡ None
  held_passes [] n floor s a l = refl
  held_passes (c ∷ cs) n floor s a l =
      let id : (candidate (record_bytes c)).id ≡ c.id = ap (λ d. d.id) (record_back c (sound_fits c s.0)).0 in
      let low : floor ≤ (candidate (record_bytes c)).id = omega (arith, id, l.0) in
      passed admitted n floor (record_bytes c) (map record_bytes cs) (record_passes n c s.0 a.0) low
      ∙ rw id (held_passes cs (n + 1) (c.id + 1) s.1 a.1 l.1)

  passes_held : (records : List (List ℕ)) (n floor : ℕ) → records_fault admitted n floor records ≡ None
      → AllByRecursion Sound (map candidate records) × AllByRecursion (λ c. admitted (timing_of c) ≡ true) (map candidate records) × AscendFrom floor (map candidate records)
  passes_held [] n floor h = (tt, tt, tt)
  passes_held (r ∷ rs) n floor h =
      let parts = records_parts n floor r rs h in
      let one = record_parts n r parts.0 in
      let rest = passes_held rs (n + 1) ((candidate r).id + 1) parts.2 in
      ((one.1, rest.0), (one.2, rest.1), (parts.1, rest.2))

  joined_chunks : (count n floor : ℕ) (bytes : List ℕ) → length bytes ≡ 12 * count → AllBelowBase 256 bytes
      → records_fault admitted n floor (chunks count bytes) ≡ None → flat_map record_bytes (map candidate (chunks count bytes)) ≡ bytes
  joined_chunks zero n floor bytes size under h = sym (nil_from_length bytes size)
  joined_chunks (suc count) n floor bytes size under h =
      let parts = records_parts n floor (take 12 bytes) (chunks count (drop 12 bytes)) h in
      let twelve = length-take-le 12 bytes (omega arith) in
      let rest : length (drop 12 bytes) ≡ 12 * count = rw (length-drop 12 bytes) (omega arith) in
      let one = record_same (take 12 bytes) twelve (All-take (λ b. b < 256) 12 bytes under) (record_parts n (take 12 bytes) parts.0).0 in
      let more = joined_chunks count (n + 1) ((candidate (take 12 bytes)).id + 1) (drop 12 bytes) rest (All-drop (λ b. b < 256) 12 bytes under) parts.2 in
      rw (one, more) (take-append-drop 12 bytes)

  -- whole tables

  -- a table that breaks no rule has tasks that can be held
  pub table_held : (test cost : ℕ) (file : List ℕ) → table_fault admitted test cost file ≡ None → Held admitted (map candidate (records_of file))
  table_held test cost file h =
      let two = unless_none (leb 2 (length file)) (fault.File Length) _ h in
      let head = first_none (header_fault test cost (header file)) _ two.1 in
      let format = unless_none (eqb (header file).format 1) (fault.File Format) _ head.0 in
      let spare = unless_none (eqb (header file).spare 0) (fault.File (Spare 0)) _ format.1 in
      let code = unless_none (eqb (header file).test test && eqb (header file).cost cost) (fault.File Code) _ spare.1 in
      let full = unless_none (leb (count_of file) 16) (fault.Plan Full) None code.1 in
      let sized = unless_none (eqb (length file) (2 + 12 * count_of file)) (fault.File Length) _ head.1 in
      let count : length (map candidate (records_of file)) ≡ count_of file = length-map (records_of file) candidate ∙ length_chunks (count_of file) (drop 2 file) in
      let held = passes_held (records_of file) 1 0 sized.1 in
      record { sound = held.0; admits = held.1; ascend = held.2; few = omega (arith, count, leb-true (count_of file) 16 full.0) }

  module _ (test cost : ℕ) (t : test < 4) (k : cost < 4) where
    -- what a table decodes to, by its length, its header and what follows
    by : ℕ → Header → List ℕ → Result (List Candidate) Fault
    by size h body =
        outcome
        (unless (leb 2 size) (fault.File Length)
        (first (header_fault test cost h)
        (unless (eqb size (2 + 12 * h.count)) (fault.File Length)
        (records_fault admitted 1 0 (chunks h.count body)))))
        (map candidate (chunks h.count body))

    list : (cs : List Candidate) → Held admitted cs → decoded admitted test cost (encoded test cost cs) ≡ Ok cs
    unfolding by
    list cs held =
        let n = length cs in
        let front = bytes_of 2 (packed 0 (header_fields test cost n)) in
        let body = flat_map record_bytes cs in
        let h : Header = record { format = 1; test = test; cost = cost; spare = 0; count = n } in
        let two = bytes_of_length 2 (packed 0 (header_fields test cost n)) in
        let size = encoded_length test cost cs in
        let fit : Fit (header_fields test cost n) = (omega arith, (omega arith, (omega arith, (omega arith, (omega (arith, held.few), tt))))) in
        let head : header (front ++ body) ≡ h = ap header_in (take_at front body 2 two) ∙ header_back test cost n fit in
        let rest = drop_at front body 2 two in
        let codes : (eqb test test && eqb cost cost) ≡ true = and_from _ _ (eq-eqb test test refl) (eq-eqb cost cost refl) in
        let passes : records_fault admitted 1 0 (map record_bytes cs) ≡ None = held_passes cs 1 0 held.sound held.admits held.ascend in
        let parts : by (length (front ++ body)) (header (front ++ body)) (drop 2 (front ++ body)) ≡ by (2 + 12 * n) h body = λ i. by (size i) (head i) (rest i) in
        parts
        ∙ rw (le-leb 2 (2 + 12 * n) (omega arith), codes, le-leb n 16 held.few, eq-eqb (2 + 12 * n) (2 + 12 * n) refl, chunks_joined cs, passes)
        (ap Ok (map_back cs held.sound))

    table : (file : List ℕ) (cs : List Candidate) → AllBelowBase 256 file → decoded admitted test cost file ≡ Ok cs
        → Held admitted cs × (encoded test cost cs ≡ file)
    table file cs under h =
        let rows = map candidate (records_of file) in
        let answer = outcome_ok (table_fault admitted test cost file) rows cs h in
        let two = unless_none (leb 2 (length file)) (fault.File Length) _ answer.0 in
        let head = first_none (header_fault test cost (header file)) _ two.1 in
        let format = unless_none (eqb (header file).format 1) (fault.File Format) _ head.0 in
        let spare = unless_none (eqb (header file).spare 0) (fault.File (Spare 0)) _ format.1 in
        let code = unless_none (eqb (header file).test test && eqb (header file).cost cost) (fault.File Code) _ spare.1 in
        let sized = unless_none (eqb (length file) (2 + 12 * count_of file)) (fault.File Length) _ head.1 in
        let codes = and_parts (eqb (header file).test test) (eqb (header file).cost cost) code.0 in
        let long : 2 ≤ length file = leb-true _ _ two.0 in
        let size : length file ≡ 2 + 12 * count_of file = eqb-true _ _ sized.0 in
        let first_two = header_same (take 2 file) test cost (count_of file) (length-take-le 2 file long) (All-take (λ b. b < 256) 2 file under)
        (λ i. record { format = eqb-true (header file).format 1 format.0 i; test = eqb-true (header file).test test codes.0 i; cost = eqb-true (header file).cost cost codes.1 i; spare = eqb-true (header file).spare 0 spare.0 i; count = count_of file }) in
        let rest : length (drop 2 file) ≡ 12 * count_of file = rw (length-drop 2 file) (omega arith) in
        let records = joined_chunks (count_of file) 1 0 (drop 2 file) rest (All-drop (λ b. b < 256) 2 file under) sized.1 in
        let count : length rows ≡ count_of file = length-map (records_of file) candidate ∙ length_chunks (count_of file) (drop 2 file) in
        let same : encoded test cost rows ≡ file = rw (count, records, first_two) (take-append-drop 2 file) in
        subst (λ (ds : List Candidate). Held admitted ds × (encoded test cost ds ≡ file)) answer.1
        (table_held test cost file answer.0, same)

    pub pairs : Pairs admitted test cost
    pairs = record { table = table; list = list; numbers = same_task }

    -- so the tasks that are decoded encode into the table that they came from
    pub table_made : (r : Result TaskList Fault) (file : List ℕ) → ((i : ℕ) → Fits w8 (get_or file i 0))
        → plainly r ≡ decoded admitted test cost file → IfOk r (λ l. encoded test cost (plains l) ≡ file)
    table_made (Ok l) file typed h = (table file (plains l) (All-from_get_or (λ b. b < 256) file 0 (λ i _. (typed i).fits)) (sym h)).1
    table_made (Err e) file typed h = tt

    -- the tasks of a list are sound, so that they can be held where they are admitted, ascend and are few
    pub tasks_back : (ts : List Task) → length ts ≤ 16 → AllByRecursion (λ c. admitted (timing_of c) ≡ true) (map plain ts) → AscendFrom 0 (map plain ts)
        → decoded admitted test cost (encoded test cost (map plain ts)) ≡ Ok (map plain ts)
    tasks_back ts few admits ascend =
        list (map plain ts) (record { sound = tasks_sound ts; admits = admits; ascend = ascend; few = rw (length-map ts plain) few })
