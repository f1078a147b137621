-- Where commands lead a plan.
use Rattle.std.proofs.Common.{◌≡◌, ℕ, ◌+◌, ◌<◌, ◌≤◌, List, [], ◌∷◌, ◌++◌, length, get_or, take, Some, None, Option, Result, sym, refl, ap, ◌∙◌}
use mathlib.Core.List.{map-append}
use Rattle.std.proofs.lemmas.List.{take_more, take_all}
use Rattle.tasks.specs.declared.fault.Fault.{Fault}
use Rattle.law.specs.declared.command.Command.{Command}
use Rattle.law.specs.declared.command.Command.TheVariants.{Load, Add, Drop, Start, Advance, Stop, Report}
use Rattle.law.specs.declared.command.Outcome.{Outcome}
use Rattle.tasks.specs.declared.admission.Admission as admission
use Rattle.response.specs.declared.test.ResponseTest as test
use Rattle.costs.specs.declared.cost.Cost as cost
use Rattle.law.specs.Meaning.{Meaning, Lawful, meaning}
use Rattle.law.specs.Obey.{Model, Point, Reply, decided, fault, effect, obey}
use Rattle.law.specs.Runs.{Event, new, after, events, outcomes}
use Rattle.law.specs.Law.{Ran}
use Rattle.law.proofs.Kept.{every_run_keeps_the_promises}
use Rattle.law.proofs.Runs.{after_append, events_append}
use Rattle.plan.specs.declared.plan.Plan.{Plan}
use Rattle.plan.specs.Calls.{Obeyed, at}
use Rattle.plan.specs.Leading.{LedOn, RanFrom}
use Rattle.plan.specs.Model.{means}

-- the plan after a command does not depend on the buffer
same_fault : (o : Option Fault) (p q : Point) (r s : Reply) → p.plan ≡ q.plan → r.next.plan ≡ s.next.plan
    → (decided o p r).next.plan ≡ (decided o q s).next.plan
same_fault None p q r s e f = f
same_fault (Some x) p q r s e f = e

leaves_plan : (o : Option Fault) (p : Point) (r : Reply) → r.next.plan ≡ p.plan → (decided o p r).next.plan ≡ p.plan
leaves_plan None p r e = e
leaves_plan (Some x) p r e = refl

module _ {V : Type 0} (w : Meaning V) where
  plan_alone : (m : Model) (b d : List ℕ) (c : Command)
      → (obey w (record { plan = m; buffer = b }) c).next.plan ≡ (obey w (record { plan = m; buffer = d }) c).next.plan
  plan_alone m b d (Load file) = same_fault (fault w m b (Load file)) _ _ (effect w m b (Load file)) (effect w m d (Load file)) refl refl
  plan_alone m b d (Add x) = same_fault (fault w m b (Add x)) _ _ (effect w m b (Add x)) (effect w m d (Add x)) refl refl
  plan_alone m b d (Drop x) = same_fault (fault w m b (Drop x)) _ _ (effect w m b (Drop x)) (effect w m d (Drop x)) refl refl
  plan_alone m b d Start = same_fault (fault w m b Start) _ _ (effect w m b Start) (effect w m d Start) refl refl
  plan_alone m b d (Advance k) = same_fault (fault w m b (Advance k)) _ _ (effect w m b (Advance k)) (effect w m d (Advance k)) refl refl
  plan_alone m b d Stop = same_fault (fault w m b Stop) _ _ (effect w m b Stop) (effect w m d Stop) refl refl
  plan_alone m b d Report =
      leaves_plan (fault w m b Report) (record { plan = m; buffer = b }) (effect w m b Report) refl
      ∙ sym (leaves_plan (fault w m d Report) (record { plan = m; buffer = d }) (effect w m d Report) refl)

  pub after_alone : (p q : Point) (cs : List Command) → p.plan ≡ q.plan → (after w p cs).plan ≡ (after w q cs).plan
  after_alone p q [] e = e
  after_alone p q (c ∷ cs) e =
      after_alone (obey w p c).next (obey w q c).next cs
      (plan_alone p.plan p.buffer q.buffer c ∙ ap (λ m. (obey w (record { plan = m; buffer = q.buffer }) c).next.plan) e)

  module _ (lawful : Lawful w) (cs : List Command) (start end : Point) (reached : end ≡ after w start cs) where
    pub led_on : LedOn w cs start.plan end.plan
    led_on buffer history e =
        let further : (after w start cs).plan ≡ (after w (after w (new buffer) history) cs).plan
        = after_alone start (after w (new buffer) history) cs e in
        record {
          leads = ap (λ p. p.plan) reached ∙ further ∙ ap (λ p. p.plan) (sym (after_append w (new buffer) history cs));
          promised = every_run_keeps_the_promises V w lawful buffer (history ++ cs);
        }

module _ {V : Type 0} (w : Meaning V) (start : Point) (cs : List Command) where
  -- one command more
  pub run_more : {T C : Type 0} (i : ℕ) (c : Command) (xs : List (Result Outcome Fault)) (v : Meaning V) (p q : Plan T C) (old left : List ℕ)
      (x : Result Outcome Fault) → i < length cs → xs ≡ outcomes (events w start (take i cs)) → at p old ≡ after w start (take i cs) → v ≡ w
      → Obeyed v (get_or cs i c) p q old left x
      → (xs ++ x ∷ [] ≡ outcomes (events w start (take (i + 1) cs))) × (at q left ≡ after w start (take (i + 1) cs))
  run_more i c xs v p q old left x h answered reached same o =
      let one = get_or cs i c in
      let told : ◌≡◌ {A = Reply} (record { answer = x; next = at q left }) (obey w (after w start (take i cs)) one)
      = o.reply ∙ (λ j. obey (same j) (reached j) one) in
      let more : take (i + 1) cs ≡ take i cs ++ one ∷ [] = take_more cs i c h in
      let listed : outcomes (events w start (take i cs ++ one ∷ []))
      ≡ outcomes (events w start (take i cs)) ++ (obey w (after w start (take i cs)) one).answer ∷ []
      = ap outcomes (events_append w start (take i cs) (one ∷ []))
      ∙ map-append (λ (v : Event). v.answer) (events w start (take i cs)) (events w (after w start (take i cs)) (one ∷ [])) in (
        rw (more, listed) (λ j. answered j ++ (told j).answer ∷ []),
        rw (more, after_append w start (take i cs) (one ∷ [])) (ap (λ r. r.next) told),
      )

  -- all of them
  pub run_all : (i : ℕ) (xs : List (Result Outcome Fault)) (here : Point) → length cs ≤ i → xs ≡ outcomes (events w start (take i cs))
      → here ≡ after w start (take i cs) → RanFrom w cs start xs here
  run_all i xs here h answered reached =
      let all : take i cs ≡ cs = take_all i cs h in
      record { answered = rw all at answered; reached = rw all at reached }

-- a run from a new plan
pub ran_new : {V : Type 0} (v w : Meaning V) (buffer : List ℕ) (cs : List Command) (xs : List (Result Outcome Fault)) (start end : Point)
    → Lawful w → v ≡ w → start ≡ new buffer → RanFrom v cs start xs end → Ran w buffer cs xs end.plan end.buffer
ran_new {V} v w buffer cs xs start end lawful e s r =
    let reached : end ≡ after w (new buffer) cs = r.reached ∙ (λ i. after (e i) (s i) cs) in
    record {
      answered = r.answered ∙ (λ i. outcomes (events (e i) (s i) cs));
      planned = ap (λ p. p.plan) reached;
      written = ap (λ p. p.buffer) reached;
      promised = every_run_keeps_the_promises V w lawful buffer cs;
    }

module _ {T C V : Type 0} (a : admission.Ghosts T) (t : test.Ghosts T) (k : cost.Ghosts C V) where
  -- a plan means the same while it has its test and its cost
  pub means_same : (p q : Plan T C) → q.test ≡ p.test → q.cost ≡ p.cost → means a t k q ≡ means a t k p
  means_same p q e f = λ i. meaning t.number (a.admitted (e i)) (t.answer (e i)) k.number (k.prices (f i))

  pub means_new : (p : Plan T C) (x : T) (y : C) → p.test ≡ x → p.cost ≡ y
      → means a t k p ≡ meaning t.number (a.admitted x) (t.answer x) k.number (k.prices y)
  means_new p x y e f = λ i. meaning t.number (a.admitted (e i)) (t.answer (e i)) k.number (k.prices (f i))
