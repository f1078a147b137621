-- The steps of a fold of costs.
use Rattle.std.proofs.Common.{◌≡◌, ℕ, zero, suc, ◌+◌, ◌<◌, true, List, map, length, get_or, Some, None, Option, sym, refl, ap, ◌∙◌, ap₂, inl, inr, ⊎_elim, add-one, arith}
use Rattle.std.proofs.lemmas.List.{get_or-map, length-map}
use Rattle.std.proofs.lemmas.Bool.{cases_lt}
use Rattle.tasks.specs.declared.task.Candidate.{Candidate}
use Rattle.tasks.specs.declared.task.Task.{Task}
use Rattle.tasks.specs.Tasks.{plain}
use Rattle.costs.specs.Prices.{Prices, Lawful}
use Rattle.costs.specs.Folds.{no_task, join_below, join_both, join_all_below, charge, LaterNoLess}

module _ {V : Type 0} (p : Prices V) where
  pub join_none : (f : ℕ → V) → join_below p 0 f ≡ p.nothing
  unfolding join_below
  join_none f = refl

  -- one task more
  pub join_next : (n : ℕ) (f : ℕ → V) → join_below p (n + 1) f ≡ p.joined (join_below p n f) (f n)
  unfolding join_below
  join_next n f = rw add-one

  pub join_all_none : (f : ℕ → Option V) → join_all_below p 0 f ≡ Some p.nothing
  unfolding join_all_below
  join_all_none f = refl

  pub join_all_next : (n : ℕ) (f : ℕ → Option V) (sum one : V) → join_all_below p n f ≡ Some sum → f n ≡ Some one
      → join_all_below p (n + 1) f ≡ Some (p.joined sum one)
  unfolding join_all_below
  join_all_next n f sum one a b = rw add-one (ap₂ (join_both p) a b)

  join_both_none : (o : Option V) → join_both p o None ≡ None
  join_both_none None = refl
  join_both_none (Some a) = refl

  -- one that is missing leaves none
  pub join_all_missing : (m n : ℕ) (f : ℕ → Option V) → m < n → f m ≡ None → join_all_below p n f ≡ None
  unfolding join_all_below
  join_all_missing m zero f h e = absurd (omega arith)
  join_all_missing m (suc n) f h e = elim (cases_lt m n) [
    | inl l ↦ ap (λ (o : Option V). join_both p o (f n)) (join_all_missing m n f l e)
    | inr g ↦
        let last : n ≡ m = omega arith in
        ap (λ (o : Option V). join_both p (join_all_below p n f) o) (ap f last ∙ e) ∙ join_both_none (join_all_below p n f)
  ]

  -- where none is missing, the two folds agree
  pub join_all_there : (n : ℕ) (f : ℕ → Option V) (g : ℕ → V) → ((i : ℕ) → i < n → f i ≡ Some (g i))
      → join_all_below p n f ≡ Some (join_below p n g)
  unfolding join_all_below join_below
  join_all_there zero f g h = refl
  join_all_there (suc n) f g h = ap₂ (join_both p) (join_all_there n f g (λ i l. h i (omega arith))) (h n (omega arith))

  -- the cost of a task as the program reads it, from a slice of the held tasks
  pub charge_at : (held slice : List Task) → slice ≡ held → (i : ℕ) (task : Task) (time : ℕ) → i < length slice → task ≡ get_or slice i task
      → p.single task.weight task.tier time ≡ charge p (map plain held) i time
  charge_at held slice same i task time low is =
      ap (λ (c : Candidate). p.single c.weight c.tier time)
      (sym (ap (λ (ts : List Task). get_or (map plain ts) i no_task) (sym same) ∙ get_or-map plain slice i task no_task low ∙ ap plain (sym is)))

module _ {V : Type 0} (p : Prices V) (laws : Lawful p) where
  pub no_more_self : (x : V) → p.no_more x x ≡ true
  no_more_self x = ⊎_elim (λ e. e) (λ e. e) (laws.comparable x x)

  -- joining keeps "no more than" at each position
  pub join_keeps : (n : ℕ) (f g : ℕ → V) → ((i : ℕ) → i < n → p.no_more (f i) (g i) ≡ true)
      → p.no_more (join_below p n f) (join_below p n g) ≡ true
  unfolding join_below
  join_keeps zero f g h = no_more_self p.nothing
  join_keeps (suc n) f g h =
      laws.keeps_no_more (join_below p n f) (join_below p n g) (f n) (g n) (join_keeps n f g (λ i l. h i (omega arith))) (h n (omega arith))

  pub later_no_less : (tasks : List Candidate) (times : ℕ → ℕ) → LaterNoLess p tasks times
  later_no_less tasks times later h =
      join_keeps (length tasks) (λ i. charge p tasks i (times i)) (λ i. charge p tasks i (later i))
      (λ i l. laws.later_no_less (get_or tasks i no_task).weight (get_or tasks i no_task).tier (times i) (later i) (h i l))

-- the held tasks as plain numbers are as many as the slice that the program reads
pub count_plain : (held slice : List Task) → slice ≡ held → length (map plain held) ≡ length slice
count_plain held slice same = length-map held plain ∙ ap length (sym same)
