-- A table written into a buffer.
use Rattle.std.proofs.Common.{◌≡◌, ℕ, ◌+◌, ◌-◌, ◌*◌, ◌<◌, ◌≤◌, List, [], ◌∷◌, ◌++◌, map, length, get_or, take, drop, Ok, Result, sym, refl, ap, ◌∙◌, arith, le-ltb}
use borrow.Rule.Slice.PartMut.{put_mid}
use Rattle.std.specs.List.{flat_map}
use Rattle.std.proofs.lemmas.List.{flat_map_more, map_more, length-append, length-map, length-drop, take-append-drop, take_all, take_at}
use Rattle.std.proofs.lemmas.Slice.{take-put_mid, drop-put_mid, drop-append-drop}
use Rattle.tasks.specs.declared.task.Candidate.{Candidate}
use Rattle.tasks.specs.declared.task.Task.{Task}
use Rattle.tables.specs.Bits.{bytes_of, packed}
use Rattle.tasks.specs.Buffers.{delivered}
use Rattle.tasks.specs.declared.fault.Fault.{Fault}
use Rattle.tables.specs.Tables.{encoded, record_bytes, record_fields, header_fields}
use Rattle.tasks.specs.Tasks.{plain}
use Rattle.tables.proofs.Packing.{bytes_of_length}

-- each record of a table has twelve bytes
pub joined_length : (cs : List Candidate) → length (flat_map record_bytes cs) ≡ 12 * length cs
joined_length [] = refl
joined_length (c ∷ cs) =
    rw (length-append (record_bytes c) (flat_map record_bytes cs), bytes_of_length 12 (packed 0 (record_fields c)), joined_length cs) (omega arith)

pub encoded_length : (test cost : ℕ) (cs : List Candidate) → length (encoded test cost cs) ≡ 2 + 12 * length cs
encoded_length test cost cs =
    rw (
      length-append (bytes_of 2 (packed 0 (header_fields test cost (length cs)))) (flat_map record_bytes cs),
      bytes_of_length 2 (packed 0 (header_fields test cost (length cs))),
      joined_length cs,
    )

-- the same, by the tasks
pub encoded_size : (test cost : ℕ) (tasks : List Task) → length (encoded test cost (map plain tasks)) ≡ 2 + 12 * length tasks
encoded_size test cost tasks = rw (encoded_length test cost (map plain tasks), length-map tasks plain)

-- a turn: the record of the task k is written behind those before it
module _ (out bytes : List ℕ) (tasks : List Task) (k : ℕ) (task : Task)
    (room : 14 + 12 * k ≤ length out) (is : bytes ≡ record_bytes (plain task)) where
  size : length bytes ≡ 12
  size = ap length is ∙ bytes_of_length 12 (packed 0 (record_fields (plain task)))

  pub record_written : (front : List ℕ) → k < length tasks → task ≡ get_or tasks k task
      → take (2 + 12 * k) out ≡ front ++ flat_map record_bytes (map plain (take k tasks))
      → take (2 + 12 * (k + 1)) (put_mid (2 + 12 * k) (14 + 12 * k - (2 + 12 * k)) out bytes) ≡ front ++ flat_map record_bytes (map plain (take (k + 1) tasks))
  record_written front inside read before =
      take-put_mid (2 + 12 * k) (14 + 12 * k - (2 + 12 * k)) out bytes (2 + 12 * (k + 1)) (omega (arith, size)) (omega arith)
      ∙ rw (before, is, map_more plain tasks k task inside, sym read) (flat_map_more record_bytes front (map plain (take k tasks)) (plain task))

  pub past_record : (n : ℕ) → 14 + 12 * k ≤ n → drop n (put_mid (2 + 12 * k) (14 + 12 * k - (2 + 12 * k)) out bytes) ≡ drop n out
  past_record n h = drop-put_mid (2 + 12 * k) (14 + 12 * k - (2 + 12 * k)) out bytes n (omega arith) (omega arith) (omega (arith, size))

-- the header is written into the front of a buffer, and then the records of all tasks
module _ (test cost : ℕ) (tasks : List Task) (head before : List ℕ)
    (is : head ≡ bytes_of 2 (packed 0 (header_fields test cost (length tasks)))) (room : 2 + 12 * length tasks ≤ length before) where
  head_size : length head ≡ 2
  head_size = ap length is ∙ bytes_of_length 2 (packed 0 (header_fields test cost (length tasks)))

  pub header_length : length (head ++ drop 2 before) ≡ length before
  header_length = rw (length-append head (drop 2 before), head_size, length-drop 2 before) (omega arith)

  pub table_written : (k : ℕ) (out : List ℕ) → k ≡ length tasks
      → take (2 + 12 * k) out ≡ take 2 (head ++ drop 2 before) ++ flat_map record_bytes (map plain (take k tasks))
      → drop (2 + 12 * length tasks) out ≡ drop (2 + 12 * length tasks) (head ++ drop 2 before)
      → ◌≡◌ {A = Result ℕ Fault × List ℕ} (Ok (2 + 12 * length tasks), out)
      (delivered (length (encoded test cost (map plain tasks))) (encoded test cost (map plain tasks)) before)
  table_written k out all front past =
      let size = encoded_size test cost tasks in
      let header : take 2 (head ++ drop 2 before) ≡ bytes_of 2 (packed 0 (header_fields test cost (length (map plain tasks))))
      = rw (length-map tasks plain) (take_at head (drop 2 before) 2 head_size ∙ is) in
      let whole : take (2 + 12 * length tasks) out ≡ encoded test cost (map plain tasks)
      = rw (all, take_all (length tasks) tasks (omega arith), header) at front in
      let rest : drop (2 + 12 * length tasks) out ≡ drop (2 + 12 * length tasks) before
      = past ∙ drop-append-drop 2 before head (2 + 12 * length tasks) (omega arith) head_size in
      let join : out ≡ encoded test cost (map plain tasks) ++ drop (2 + 12 * length tasks) before
      = sym (take-append-drop (2 + 12 * length tasks) out) ∙ rw (whole, rest) in
      let tail : out ≡ encoded test cost (map plain tasks) ++ drop (length (encoded test cost (map plain tasks))) before = rw size join in
      rw (le-ltb (length before) (length (encoded test cost (map plain tasks))) (omega (arith, size))) (λ i. (Ok (sym size i), tail i))
