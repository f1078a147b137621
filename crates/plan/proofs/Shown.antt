-- The levels of an order, in text and packed.
use Rattle.std.proofs.Common.{◌≡◌, ℕ, zero, suc, Bool, true, false, cond, not, ltb, leb, List, [], ◌∷◌, ◌++◌, map, length, get_or, take, drop, Some, None, Ok, Err, Result, sym, refl, ap, ◌∙◌, arith, ltb-false, ltb-true, le-leb}
use borrow.Author.Tests.{lt-leb}
use Rattle.std.specs.List.{flat_map}
use Rattle.tasks.specs.declared.fault.Fault.{Fault}
use Rattle.tasks.specs.declared.fault.Fault.TheVariants.{Plan as PlanFault}
use Rattle.tasks.specs.declared.fault.PlanFault.TheVariants as plan
use Rattle.tasks.specs.declared.task.Candidate.{Candidate}
use Rattle.tasks.specs.Buffers.{delivered}
use Rattle.tasks.specs.Faults.{unless}
use Rattle.costs.specs.Folds.{no_task}
use Rattle.orders.specs.Orders.{Assignment}
use Rattle.text.specs.Reports.{level_record, report_bytes}
use Rattle.law.specs.declared.command.Command.TheVariants.{Report}
use Rattle.law.specs.declared.command.Outcome.TheVariants.{Reported}
use Rattle.law.specs.Meaning.{Meaning}
use Rattle.law.specs.Obey.{Model, Stage, Level, finished, is_open, is_finished, levels, level_bytes, best_levels, report, cost_of, best_of, fault, reply}
use Rattle.plan.specs.declared.plan.Plan.{Plan}
use Rattle.plan.specs.Calls.{Obeyed}
use Rattle.plan.specs.Listing.{shown}
use Rattle.plan.specs.Progress.{best_cost}
use Rattle.plan.specs.Model.{model}
use Rattle.plan.proofs.Replies.{turned_down, accepted_in}

-- the id and the response time at a position
abbrev pub seen : List Candidate → List ℕ → ℕ → ℕ × ℕ
seen cs times i = ((get_or cs i no_task).id, get_or times i 0)

pub levels_seen : (cs : List Candidate) (times order : List ℕ) → map shown (levels cs order (map (λ i. get_or times i 0) order)) ≡ map (seen cs times) order
levels_seen cs times [] = refl
levels_seen cs times (i ∷ is) = ap (λ xs. seen cs times i ∷ xs) (levels_seen cs times is)

pub take_front : (m : ℕ) (xs : List ℕ) → take (length (take m xs)) xs ≡ take m xs
take_front zero xs = refl
take_front (suc m) [] = refl
take_front (suc m) (x ∷ xs) = ap (λ ys. x ∷ ys) (take_front m xs)

joined_shown : (ls : List Level) → flat_map level_record (map shown ls) ≡ flat_map level_bytes ls
joined_shown [] = refl
joined_shown (l ∷ ls) = ap (λ bs. level_bytes l ++ bs) (joined_shown ls)

pub packed_report : (m : Model) (ls : List (ℕ × ℕ)) → ls ≡ map shown (best_levels m) → report_bytes ls ≡ report m
packed_report m ls e = rw e (joined_shown (best_levels m))

-- the numbers of the cost of the best order, once there is one
pub shown_cost : {V : Type 0} (w : Meaning V) (m : Model) (best : Assignment) → m.stage ≡ finished best → (two : ℕ × ℕ)
    → Some two ≡ best_cost w m.tasks m.stage → two ≡ w.prices.numbers (cost_of w m.tasks (best_of m.stage))
shown_cost w m best st two e =
    let there : Some two ≡ Some (w.prices.numbers (cost_of w m.tasks best)) = e ∙ ap (best_cost w m.tasks) st in
    cc there ∙ ap (λ s. w.prices.numbers (cost_of w m.tasks (best_of s))) (sym st)

module _ {T C V : Type 0} (w : Meaning V) (p : Plan T C) (b b' bytes : List ℕ) (best : Assignment)
    (st : (model p).stage ≡ finished best) (is : bytes ≡ report (model p)) where
  report_fault : fault w (model p) b Report ≡ unless (leb (length bytes) (length b)) (PlanFault plan.Buffer) None
  report_fault =
      let rest = λ (bs : List ℕ). unless (leb (length bs) (length b)) (PlanFault plan.Buffer) None in
      let late : (s : Stage) → s ≡ finished best
      → unless (not (is_open s)) (PlanFault plan.Open) (unless (is_finished s) (PlanFault plan.Unfinished) (rest (report (model p)))) ≡ rest (report (model p))
      = λ s e. rw e refl in
      late (model p).stage st ∙ ap rest (sym is)

  -- too small a buffer
  pub told_short : (e : Fault) → ◌≡◌ {A = Result ℕ Fault × List ℕ} (Err e, b') (delivered (length bytes) bytes b)
      → Obeyed w Report p p b b' (Err e)
  told_short e h = go (ltb (length b) (length bytes)) refl h
    where
      go : (t : Bool) → ltb (length b) (length bytes) ≡ t
          → ◌≡◌ {A = Result ℕ Fault × List ℕ} (Err e, b') (cond t (Err (PlanFault plan.Buffer), b) (Ok (length bytes), bytes ++ drop (length bytes) b))
          → Obeyed w Report p p b b' (Err e)
      go true t k =
          let short : leb (length bytes) (length b) ≡ false = lt-leb _ _ (ltb-true _ _ t) in
          let why : e ≡ PlanFault plan.Buffer = cc (ap (λ x. x.0) k) in
          let same : b' ≡ b = ap (λ x. x.1) k in
          rw (why, same) (turned_down w Report p b (PlanFault plan.Buffer) (report_fault ∙ ap (λ t. unless t (PlanFault plan.Buffer) None) short))
      go false t k = absurd (let z : ◌≡◌ {A = ℕ} 0 1 = cc (ap (λ x. x.0) k) in omega arith)

  pub told : (n : ℕ) (two : ℕ × ℕ) → ◌≡◌ {A = Result ℕ Fault × List ℕ} (Ok n, b') (delivered (length bytes) bytes b)
      → Some two ≡ best_cost w (model p).tasks (model p).stage → Obeyed w Report p p b b' (Ok (Reported n two.0 two.1))
  told n two h e = go (ltb (length b) (length bytes)) refl h
    where
      go : (t : Bool) → ltb (length b) (length bytes) ≡ t
          → ◌≡◌ {A = Result ℕ Fault × List ℕ} (Ok n, b') (cond t (Err (PlanFault plan.Buffer), b) (Ok (length bytes), bytes ++ drop (length bytes) b))
          → Obeyed w Report p p b b' (Ok (Reported n two.0 two.1))
      go true s k = absurd (let z : ◌≡◌ {A = ℕ} 0 1 = cc (ap (λ x. x.0) k) in omega arith)
      go false s k =
          let room : leb (length bytes) (length b) ≡ true = le-leb _ _ (ltb-false _ _ s) in
          let count : n ≡ length (report (model p)) = cc (ap (λ x. x.0) k, ap length is) in
          let text : b' ≡ report (model p) ++ drop (length (report (model p))) b = rw (← is) (ap (λ x. x.1) k) in
          let costs = shown_cost w (model p) best st two e in
          accepted_in w Report p b p b' (Reported n two.0 two.1) (report_fault ∙ ap (λ t. unless t (PlanFault plan.Buffer) None) room)
          (λ i. reply (Reported (count i) (costs i).0 (costs i).1) (model p) (text i)) refl refl
