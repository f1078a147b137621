-- Adds and drops leave tasks that a plan can hold.
use Rattle.std.proofs.Common.{◌≡◌, ℕ, suc, ◌+◌, ◌<◌, ◌≤◌, Bool, true, false, eqb, ltb, List, [], ◌∷◌, length, None, refl, ap, arith}
use Rattle.std.specs.List.{AllByRecursion}
use Rattle.std.proofs.lemmas.Bool.{ltb-true, ltb-false, eqb-false, or_parts, cond_both}
use Rattle.tasks.specs.declared.task.Candidate.{Candidate}
use Rattle.tasks.specs.declared.task.Timing.{Timing}
use Rattle.tables.specs.Pairing.{Sound, AscendFrom, Held}
use Rattle.tasks.specs.Tasks.{timing_of, task_fault}
use Rattle.tables.proofs.Pairing.{passes_sound}
use Rattle.law.specs.Held.{has, inserted, without}

-- ---- adds

module _ (c : Candidate) where
  length_inserted : (ts : List Candidate) → length (inserted c ts) ≡ suc (length ts)
  length_inserted [] = refl
  length_inserted (t ∷ ts) =
      cond_both (ltb c.id t.id) _ _ (λ l. length l ≡ suc (suc (length ts))) (λ _. refl) (λ _. ap suc (length_inserted ts))

  all_inserted : (P : Candidate → Type 0) (ts : List Candidate) → P c → AllByRecursion P ts → AllByRecursion P (inserted c ts)
  all_inserted P [] h hs = (h, tt)
  all_inserted P (t ∷ ts) h hs =
      cond_both (ltb c.id t.id) _ _ (AllByRecursion P) (λ _. (h, hs)) (λ _. (hs.0, all_inserted P ts h hs.1))

  ascend_inserted : (floor : ℕ) (ts : List Candidate) → floor ≤ c.id → has c.id ts ≡ false → AscendFrom floor ts
      → AscendFrom floor (inserted c ts)
  ascend_inserted floor [] low new hs = (low, tt)
  ascend_inserted floor (t ∷ ts) low new hs =
      let other = or_parts (eqb t.id c.id) (has c.id ts) new in
      cond_both (ltb c.id t.id) _ _ (AscendFrom floor)
      (λ e. (low, (omega (arith, ltb-true c.id t.id e), hs.1)))
      (λ e. (
        hs.0,
        ascend_inserted (t.id + 1) ts
            (omega (arith, ltb-false c.id t.id e, eqb-false t.id c.id other.0)) other.1 hs.1,
      ))

-- ---- drops

module _ (id : ℕ) where
  length_without : (ts : List Candidate) → length (without id ts) ≤ length ts
  length_without [] = omega arith
  length_without (t ∷ ts) =
      cond_both (eqb t.id id) _ _ (λ l. length l ≤ suc (length ts)) (λ _. omega arith) (λ _. omega (arith, length_without ts))

  all_without : (P : Candidate → Type 0) (ts : List Candidate) → AllByRecursion P ts → AllByRecursion P (without id ts)
  all_without P [] hs = tt
  all_without P (t ∷ ts) hs = cond_both (eqb t.id id) _ _ (AllByRecursion P) (λ _. hs.1) (λ _. (hs.0, all_without P ts hs.1))

  ascend_lower : (low high : ℕ) (ts : List Candidate) → low ≤ high → AscendFrom high ts → AscendFrom low ts
  ascend_lower low high [] h hs = tt
  ascend_lower low high (t ∷ ts) h hs = (omega (arith, hs.0), hs.1)

  ascend_without : (floor : ℕ) (ts : List Candidate) → AscendFrom floor ts → AscendFrom floor (without id ts)
  ascend_without floor [] hs = tt
  ascend_without floor (t ∷ ts) hs =
      cond_both (eqb t.id id) _ _ (AscendFrom floor)
      (λ _. ascend_lower floor (t.id + 1) ts (omega (arith, hs.0)) hs.1)
      (λ _. (hs.0, ascend_without (t.id + 1) ts hs.1))

module _ (admitted : Timing → Bool) where
  abbrev Admits : Candidate → Type 0
  Admits c = admitted (timing_of c) ≡ true

  pub none_held : Held admitted []
  none_held = record { sound = tt; admits = tt; ascend = tt; few = omega arith }

  pub add_held : (c : Candidate) (ts : List Candidate) → task_fault 0 c ≡ None → admitted (timing_of c) ≡ true
      → has c.id ts ≡ false → length ts < 16 → Held admitted ts → Held admitted (inserted c ts)
  add_held c ts fit admits new room h = record {
    sound = all_inserted c Sound ts (passes_sound 0 c fit) h.sound;
    admits = all_inserted c Admits ts admits h.admits;
    ascend = ascend_inserted c 0 ts (omega arith) new h.ascend;
    few = rw (length_inserted c ts) room;
  }

  pub drop_held : (id : ℕ) (ts : List Candidate) → Held admitted ts → Held admitted (without id ts)
  drop_held id ts h = record {
    sound = all_without id Sound ts h.sound;
    admits = all_without id Admits ts h.admits;
    ascend = ascend_without id 0 ts h.ascend;
    few = omega (arith, length_without id ts, h.few);
  }
