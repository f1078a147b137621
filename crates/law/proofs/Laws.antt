-- What the laws say of the held tasks.
use Rattle.std.proofs.Common.{◌≡◌, ℕ, ◌<◌, Bool, true, List, [], ◌∷◌, length, get_or, arith}
use Rattle.std.specs.List.{AllByRecursion}
use Rattle.std.proofs.ByRecursion.{All-map, All-get_or}
use Rattle.std.proofs.lemmas.List.{length-map}
use Rattle.tasks.specs.declared.task.Candidate.{Candidate}
use Rattle.tasks.specs.declared.task.Timing.{Timing}
use Rattle.tables.specs.Pairing as pairing
use Rattle.tasks.specs.Tasks.{timing_of}
use Rattle.tasks.specs.Timing.{at, Legal, Held, timings}
use Rattle.tables.proofs.Pairing.{sound_fits}
use Rattle.costs.specs.Folds.{no_task}
use Rattle.orders.specs.Orders.{Monotone}
use Rattle.orders.specs.Costs.{Laws}
use Rattle.law.specs.Meaning.{Meaning, Lawful, answers, costs}

pub length_timings : (tasks : List Candidate) → length (timings tasks) ≡ length tasks
length_timings tasks = length-map tasks timing_of

module _ (admitted : Timing → Bool) where
  -- what is known of the timing of a held task
  record Possible (t : Timing) : Type 0 where
    legal : Legal t
    admits : admitted t ≡ true
    short : t.deadline < 1048576

  possible : (tasks : List Candidate) → AllByRecursion pairing.Sound tasks → AllByRecursion (λ c. admitted (timing_of c) ≡ true) tasks
      → AllByRecursion (λ c. Possible (timing_of c)) tasks
  possible [] s a = tt
  possible (c ∷ cs) s a = (
    record {
      legal = record { runs = omega (arith, s.0.3); meets = s.0.1; repeats = s.0.2; opens = s.0.3 };
      admits = a.0;
      short = (sound_fits c s.0).1.1.1.1.1.1.0;
    },
    possible cs s.1 a.1,
  )

  module _ (tasks : List Candidate) (held : pairing.Held admitted tasks) where
    possible_at : (i : ℕ) → i < length (timings tasks) → Possible (at (timings tasks) i)
    possible_at i l =
        All-get_or Possible (timings tasks) i (at [] 0) l
        (All-map Possible timing_of tasks (possible tasks held.sound held.admits))

    pub timings_held : Held admitted (timings tasks)
    timings_held i l = let p = possible_at i l in (p.legal, p.admits)

    pub short_deadline : (i : ℕ) → i < length tasks → (at (timings tasks) i).deadline < 1048576
    short_deadline i l = (possible_at i (omega (arith, length_timings tasks))).short

    pub small_id : (i : ℕ) → i < length tasks → (get_or tasks i no_task).id < 64
    small_id i l =
        let s = All-get_or pairing.Sound tasks i no_task l held.sound in
        (sound_fits (get_or tasks i no_task) s).0

module _ {V : Type 0} (w : Meaning V) (lawful : Lawful w) (tasks : List Candidate) where
  pub monotone_held : pairing.Held w.admitted tasks → Monotone (length tasks) (answers w tasks)
  monotone_held held i above part r l _ _ sub e =
      lawful.monotone (timings tasks) i above part r (timings_held w.admitted tasks held) (omega (arith, length_timings tasks)) sub e

  pub laws_held : Laws (costs w tasks)
  laws_held = record {
    total = lawful.prices.comparable;
    chain = lawful.prices.transitive;
    assoc = lawful.prices.associative;
    comm = lawful.prices.commutative;
    neutral = lawful.prices.neutral;
    rises = lawful.prices.keeps_no_more;
    later = λ i r s. lawful.prices.later_no_less (get_or tasks i no_task).weight (get_or tasks i no_task).tier r s;
  }
