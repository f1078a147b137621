-- A level of an order is answered as the same level of its tasks that stand by level.
use Rattle.std.proofs.Common.{◌≡◌, ℕ, zero, suc, ◌+◌, ◌-◌, ◌*◌, ◌^◌, ◌<◌, max, Bool, false, cond, ◌||◌, eqb, leb, List, [], ◌∷◌, ◌++◌, length, get_or, take, Some, None, Option, sym, refl, ap, ◌∙◌, ap₂, inl, inr, add_assoc, add_comm, arith}
use mathlib.Core.Path.{fun_ext}
use lib.ListN.{length-map}
use Rattle.std.proofs.lemmas.List.{get_or-map}
use Rattle.std.proofs.lemmas.Bool.{cases_lt, cases_eq, eq-eqb, ne_eqb, lt-ltb, le-ltb}
use Rattle.tasks.specs.Numbers.{least, largest, sum_below, max_below}
use Rattle.tasks.specs.Sets.{holds}
use Rattle.tasks.specs.declared.task.Timing.{Timing}
use Rattle.tasks.specs.Timing.{at}
use Rattle.tasks.proofs.Words.{holds_first}
use Rattle.response.specs.Tests.{Answers, task_load, job_load, demand, section_below, blocking, settled, one_job, window, busy, closes, delay}
use Rattle.orders.specs.Orders.{Order, upto, word}
use Rattle.orders.proofs.Counts.{joined, joined_alike, order_alike}
use Rattle.machine.specs.Claims.{levels}
use Rattle.machine.proofs.Places.{above_holds, above_lacks, not_above, stands_above, same_place}

-- the answers agree between an order and its tasks by level
abbrev pub Agrees : Answers → Type 0
Agrees answer =
    (ts : List Timing) (o : List ℕ) → Order (length ts) o → (level : ℕ) → level < length o →
    answer (levels ts o) level (2 ^ level - 1) ≡ answer ts (get_or o level 0) (word (take level o))

-- ---- what is joined over all positions is the same in any order
module _ (join : ℕ → ℕ → ℕ) (assoc : (x y z : ℕ) → join (join x y) z ≡ join x (join y z))
    (comm : (x y : ℕ) → join x y ≡ join y x)
    (below : ℕ → (ℕ → ℕ) → ℕ) (none : (f : ℕ → ℕ) → below 0 f ≡ 0)
    (more : (n : ℕ) (f : ℕ → ℕ) → below (suc n) f ≡ join (below n f) (f n)) where
  below_alike : (n : ℕ) (f g : ℕ → ℕ) → ((j : ℕ) → j < n → f j ≡ g j) → below n f ≡ below n g
  below_alike zero f g h = none f ∙ sym (none g)
  below_alike (suc n) f g h =
      more n f ∙ ap₂ join (below_alike n f g (λ j l. h j (omega arith))) (h n (omega arith)) ∙ sym (more n g)

  below_front : (n : ℕ) (f : ℕ → ℕ) → below (suc n) f ≡ join (f 0) (below n (λ i. f (suc i)))
  below_front zero f = more 0 f ∙ ap (λ x. join x (f 0)) (none f) ∙ comm 0 (f 0) ∙ ap (join (f 0)) (sym (none (λ i. f (suc i))))
  below_front (suc n) f =
      more (suc n) f ∙ ap (λ x. join x (f (suc n))) (below_front n f) ∙ assoc (f 0) (below n (λ i. f (suc i))) (f (suc n))
      ∙ ap (join (f 0)) (sym (more n (λ i. f (suc i))))

  below_list : (f : ℕ → ℕ) (o : List ℕ) → below (length o) (λ m. f (get_or o m 0)) ≡ joined 0 join f o
  below_list f [] = none (λ m. f 0)
  below_list f (i ∷ o) = below_front (length o) (λ m. f (get_or (i ∷ o) m 0)) ∙ ap (join (f i)) (below_list f o)

  joined_push : (f : ℕ → ℕ) (is : List ℕ) (i : ℕ) → joined 0 join f (is ++ (i ∷ [])) ≡ join (joined 0 join f is) (f i)
  joined_push f [] i = comm (f i) 0
  joined_push f (x ∷ is) i = ap (join (f x)) (joined_push f is i) ∙ sym (assoc (f x) (joined 0 join f is) (f i))

  below_upto : (f : ℕ → ℕ) (n : ℕ) → joined 0 join f (upto n) ≡ below n f
  below_upto f zero = sym (none f)
  below_upto f (suc n) = joined_push f (upto n) n ∙ ap (λ x. join x (f n)) (below_upto f n) ∙ sym (more n f)

  pub below_order : (n : ℕ) (o : List ℕ) → Order n o → (f g : ℕ → ℕ) → ((m : ℕ) → m < length o → g m ≡ f (get_or o m 0)) →
      below (length o) g ≡ below n f
  below_order n o order f g same =
      below_alike (length o) g (λ m. f (get_or o m 0)) same ∙ below_list f o
      ∙ joined_alike 0 join assoc comm f o (upto n) (order_alike n o order) ∙ below_upto f n

sum_order : (n : ℕ) (o : List ℕ) → Order n o → (f g : ℕ → ℕ) → ((m : ℕ) → m < length o → g m ≡ f (get_or o m 0)) →
    sum_below (length o) g ≡ sum_below n f
unfolding sum_below
sum_order = below_order ◌+◌ add_assoc add_comm sum_below (λ f. refl) (λ n f. refl)

max_order : (n : ℕ) (o : List ℕ) → Order n o → (f g : ℕ → ℕ) → ((m : ℕ) → m < length o → g m ≡ f (get_or o m 0)) →
    max_below (length o) g ≡ max_below n f
unfolding max_below
max_order = below_order max (λ x y z. omega arith) (λ x y. omega arith) max_below (λ f. refl) (λ n f. refl)

-- ---- an answer reads the task's own timing, the demand from above and the blocking from below
module _ (ts us : List Timing) (i j h k : ℕ) (same_task : at ts i ≡ at us j)
    (same-demand : (w : ℕ) → demand ts h w ≡ demand us k w) where
  settled_alike : (a b c d : ℕ) → a ≡ b → c ≡ d → settled ts h a c ≡ settled us k b d
  settled_alike a b c d e f =
      ap (λ (load : ℕ → ℕ). least (λ w. eqb w (a + load w)) c) (fun_ext same-demand)
      ∙ ap₂ (λ base limit. settled us k base limit) e f

  pub one_job_alike : blocking ts i h ≡ blocking us j k → one_job ts i h ≡ one_job us j k
  one_job_alike same-blocking =
      settled_alike _ _ _ _ (ap₂ (λ (task : Timing) b. task.execution + b) same_task same-blocking) (ap (λ (task : Timing). task.deadline) same_task)

  busy_alike : (n : ℕ) → busy ts i h n ≡ busy us j k n
  busy_alike n =
      settled_alike _ _ _ _ (ap (λ (task : Timing). n * task.execution) same_task)
      (ap (λ (task : Timing). (n - 1) * task.period + task.deadline) same_task)

  closes_alike : (n : ℕ) → closes ts i h n ≡ closes us j k n
  closes_alike n =
      ap₂ (λ (end : Option ℕ) (task : Timing). elim end [ None ↦ false | Some w ↦ leb w (n * task.period) ]) (busy_alike n) same_task

  delay_alike : (n : ℕ) → delay ts i h n ≡ delay us j k n
  delay_alike n =
      ap₂ (λ (end : Option ℕ) (task : Timing). elim end [ None ↦ None | Some w ↦ Some (w - (n - 1) * task.period) ])
      (busy_alike n) same_task

  pub window_alike : window ts i h ≡ window us j k
  window_alike =
      ap₂ (λ (ends : Option ℕ) (delays : ℕ → Option ℕ). elim ends [ None ↦ None | Some n ↦ largest delays n ])
      (ap (λ (closed : ℕ → Bool). least closed 64) (fun_ext closes_alike)) (fun_ext delay_alike)

-- ---- the levels of an order
module _ (ts : List Timing) (o : List ℕ) (order : Order (length ts) o) where
  pub at_level : (m : ℕ) → m < length o → at (levels ts o) m ≡ at ts (get_or o m 0)
  at_level m l = get_or-map (at ts) o m 0 _ l

  level_count : length (levels ts o) ≡ length o
  level_count = length-map o (at ts)

  module _ (level : ℕ) (l : level < length o) where
    -- the same levels are above
    holds_alike : (m : ℕ) → m < length o → holds (2 ^ level - 1) m ≡ holds (word (take level o)) (get_or o m 0)
    holds_alike m m-in =
        elim (cases_lt m level) [
          | inl above ↦
              holds_first level m ∙ lt-ltb m level above
              ∙ sym (above_holds (length ts) o order level (get_or o m 0) (stands_above m level o above m-in))
          | inr below ↦
              holds_first level m ∙ le-ltb m level below
              ∙ sym (above_lacks (length ts) o order level (get_or o m 0) (not_above (length ts) o order level m below m-in))
        ]

    place_alike : (m : ℕ) → m < length o → eqb m level ≡ eqb (get_or o m 0) (get_or o level 0)
    place_alike m m-in =
        elim (cases_eq m level) [
          | inl same ↦ eq-eqb m level same ∙ sym (eq-eqb (get_or o m 0) (get_or o level 0) (ap (λ j. get_or o j 0) same))
          | inr other ↦
              ne_eqb m level other
              ∙ sym (ne_eqb (get_or o m 0) (get_or o level 0) (λ e. other (same_place (length ts) o order m level m-in l e)))
        ]

    demand_alike : (w : ℕ) → demand (levels ts o) (2 ^ level - 1) w ≡ demand ts (word (take level o)) w
    demand_alike w =
        ap (λ n. sum_below n (job_load (levels ts o) (2 ^ level - 1) w)) level_count
        ∙ sum_order (length ts) o order (job_load ts (word (take level o)) w) (job_load (levels ts o) (2 ^ level - 1) w)
        (λ m m-in. ap₂ (λ b (task : Timing). cond b (task_load task w) 0) (holds_alike m m-in) (at_level m m-in))

    blocking_alike : blocking (levels ts o) level (2 ^ level - 1) ≡ blocking ts (get_or o level 0) (word (take level o))
    blocking_alike =
        ap (λ n. max_below n (section_below (levels ts o) level (2 ^ level - 1))) level_count
        ∙ max_order (length ts) o order (section_below ts (get_or o level 0) (word (take level o)))
        (section_below (levels ts o) level (2 ^ level - 1))
        (λ m m-in. ap₂ (λ b (task : Timing). cond b 0 task.section) (ap₂ ◌||◌ (place_alike m m-in) (holds_alike m m-in)) (at_level m m-in))

pub one_job_agrees : Agrees one_job
one_job_agrees ts o order level l =
    one_job_alike (levels ts o) ts level (get_or o level 0) (2 ^ level - 1) (word (take level o))
    (at_level ts o order level l) (demand_alike ts o order level l) (blocking_alike ts o order level l)

pub window_agrees : Agrees window
window_agrees ts o order level l =
    window_alike (levels ts o) ts level (get_or o level 0) (2 ^ level - 1) (word (take level o))
    (at_level ts o order level l) (demand_alike ts o order level l)
