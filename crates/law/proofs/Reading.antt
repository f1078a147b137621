-- The bytes of a report give back the ids and the response times.
use Rattle.std.proofs.Common.{◌≡◌, ℕ, zero, suc, ◌+◌, ◌*◌, ◌<◌, List, [], ◌∷◌, ◌++◌, length, get_or, take, drop, sym, refl, ◌∙◌, subst, inl, inr, append_assoc, arith, length-append, take_at}
use lib.Seq.{drop-append-add}
use Rattle.std.specs.List.{flat_map}
use Rattle.std.proofs.lemmas.Bool.{cases_lt}
use Rattle.tasks.specs.declared.task.Candidate.{Candidate}
use Rattle.tables.specs.Bits.{packed}
use Rattle.tables.specs.Pairing.{Held}
use Rattle.tasks.specs.Timing.{timings}
use Rattle.tables.proofs.Packing.{bytes_of_length}
use Rattle.tables.proofs.Fields.{Fit, packed_small, packed_field, field_bytes_of}
use Rattle.costs.specs.Folds.{no_task}
use Rattle.orders.specs.Orders.{word, Order}
use Rattle.orders.proofs.Counts.{same_self, count_append}
use Rattle.orders.proofs.Levels.{Timed}
use Rattle.law.specs.Meaning.{Meaning, Lawful, answers}
use Rattle.law.specs.Obey.{Level, level_bytes, levels}
use Rattle.law.specs.Law.{LevelHolds}
use Rattle.law.proofs.Laws.{length_timings, timings_held, short_deadline, small_id}

level_back : (l : Level) → l.id < 64 → l.time < 1048576 → LevelHolds (level_bytes l) l.id l.time
level_back l small short =
    let fs : List (ℕ × ℕ) = (6, l.id) ∷ (6, 0) ∷ (20, l.time) ∷ [] in
    let fit : Fit fs = (omega arith, (omega arith, (omega arith, tt))) in
    let fits = packed_small fs fit in
    record {
      id = field_bytes_of 4 (packed 0 fs) 0 6 fits ∙ packed_field 0 fs 0 (omega arith) fit;
      filler = field_bytes_of 4 (packed 0 fs) 6 6 fits ∙ packed_field 0 fs 1 (omega arith) fit;
      response = field_bytes_of 4 (packed 0 fs) 12 20 fits ∙ packed_field 0 fs 2 (omega arith) fit;
    }

length_level : (l : Level) → length (level_bytes l) ≡ 4
length_level l = bytes_of_length 4 (packed 0 ((6, l.id) ∷ (6, 0) ∷ (20, l.time) ∷ []))

front : (a b c : List ℕ) → length a ≡ 4 → take 4 ((a ++ b) ++ c) ≡ a
front a b c h = rw append_assoc (take_at a (b ++ c) 4 h)

beyond : (a b c : List ℕ) (l : ℕ) → length a ≡ 4 → drop (4 * suc l) ((a ++ b) ++ c) ≡ drop (4 * l) (b ++ c)
beyond a b c l h =
    let e : 4 * suc l ≡ length a + 4 * l = omega arith in
    rw (e, append_assoc) (drop-append-add a (b ++ c) (4 * l))

module _ (tasks : List Candidate) where
  abbrev pub bytes : List ℕ → List ℕ → List ℕ
  bytes order times = flat_map level_bytes (levels tasks order times)

  abbrev named : ℕ → ℕ → Level
  named i t = record { id = (get_or tasks i no_task).id; time = t }

  -- each level's id and time fit their fields
  abbrev pub Fitting : List ℕ → List ℕ → Type 0
  Fitting [] ts = Unit {0}
  Fitting (i ∷ is) [] = ⊥
  Fitting (i ∷ is) (t ∷ ts) = ((get_or tasks i no_task).id < 64) × (t < 1048576) × Fitting is ts

  pub length_bytes : (order times : List ℕ) → Fitting order times → length (bytes order times) ≡ 4 * length order
  length_bytes [] times h = refl
  length_bytes (i ∷ is) [] h = absurd h
  length_bytes (i ∷ is) (t ∷ ts) h =
      omega (arith, length-append (level_bytes (named i t)) (bytes is ts), length_level (named i t), length_bytes is ts h.2)

  pub level_at : (order times rest : List ℕ) → Fitting order times → (l : ℕ) → l < length order
      → LevelHolds (take 4 (drop (4 * l) (bytes order times ++ rest))) (get_or tasks (get_or order l 0) no_task).id (get_or times l 0)
  level_at [] times rest h l b = absurd (omega arith)
  level_at (i ∷ is) [] rest h l b = absurd h
  level_at (i ∷ is) (t ∷ ts) rest h zero b =
      let level : Level = named i t in
      subst (λ bs. LevelHolds bs level.id t) (sym (front (level_bytes level) (bytes is ts) rest (length_level level)))
      (level_back level h.0 h.1)
  level_at (i ∷ is) (t ∷ ts) rest h (suc l) b =
      let level : Level = named i t in
      subst (λ bs. LevelHolds (take 4 bs) (get_or tasks (get_or is l 0) no_task).id (get_or ts l 0))
      (sym (beyond (level_bytes level) (bytes is ts) rest l (length_level level))) (level_at is ts rest h.2 l (omega arith))

module _ {V : Type 0} (w : Meaning V) (lawful : Lawful w) (tasks : List Candidate) (held : Held w.admitted tasks) where
  pub fitting : (above is ts : List ℕ) → Order (length tasks) (above ++ is) → Timed (answers w tasks) above is ts → Fitting tasks is ts
  fitting above [] ts o h = tt
  fitting above (i ∷ is) [] o h = h
  fitting above (i ∷ is) (t ∷ ts) o h =
      let here : i < length tasks = elim (cases_lt i (length tasks)) [
        | inl l ↦ l
        | inr g ↦ absurd (omega (arith, o.else_none i g, count_append i above (i ∷ is), same_self i))
      ] in
      let within = lawful.within (timings tasks) i (word above) t (timings_held w.admitted tasks held)
      (omega (arith, length_timings tasks)) h.0 in (
        small_id w.admitted tasks held i here,
        omega (arith, within.1, short_deadline w.admitted tasks held i here),
        fitting (above ++ (i ∷ [])) is ts (rw append_assoc o) h.1,
      )
