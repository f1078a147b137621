-- The places of the tasks of an order.
use Rattle.std.proofs.Common.{◌≡◌, ℕ, zero, suc, ◌<◌, ◌≤◌, true, false, ◌||◌, eqb, ltb, List, [], ◌∷◌, ◌++◌, length, get_or, take, Some, sym, refl, ap, ◌∙◌, inl, inr, append_assoc, append-nil, arith}
use Rattle.std.proofs.lemmas.Bool.{cases_lt, cases_eq, lt-ltb, le-ltb, eq-eqb, ne_eqb}
use Rattle.tasks.specs.Sets.{holds}
use Rattle.orders.specs.Orders.{Test, Order, word, count}
use Rattle.orders.proofs.Counts.{same_self, same_is, same_other, count_append}
use Rattle.orders.proofs.Levels.{Timed}
use Rattle.orders.proofs.Words.{holds_absent, holds_present, same_bits}

-- each level's time is the answer under the levels above it
pub timed_at : (answer : Test) (upper is ts : List ℕ) (level : ℕ) → Timed answer upper is ts → level < length is →
    answer (get_or is level 0) (word (upper ++ take level is)) ≡ Some (get_or ts level 0)
timed_at answer upper [] ts level h l = absurd (omega arith)
timed_at answer upper (i ∷ is) [] level h l = absurd h
timed_at answer upper (i ∷ is) (t ∷ ts) zero h l = rw append-nil h.0
timed_at answer upper (i ∷ is) (t ∷ ts) (suc level) h l =
    rw append_assoc at (timed_at answer (upper ++ (i ∷ [])) is ts level h.1 (omega arith))

count_take : (j level : ℕ) (o : List ℕ) → count j (take level o) ≤ count j o
count_take j zero o = omega arith
count_take j (suc level) [] = omega arith
count_take j (suc level) (i ∷ o) = omega (arith, count_take j level o)

-- the task of a level stands above each lower level
pub stands_above : (m level : ℕ) (o : List ℕ) → m < level → m < length o → 0 < count (get_or o m 0) (take level o)
stands_above m level [] h l = absurd (omega arith)
stands_above m zero (i ∷ o) h l = absurd (omega arith)
stands_above zero (suc level) (i ∷ o) h l = omega (arith, same_self i)
stands_above (suc m) (suc level) (i ∷ o) h l = omega (arith, stands_above m level o (omega arith) (omega arith))

-- and once more in the order than above its own level
again : (level m : ℕ) (o : List ℕ) → level ≤ m → m < length o → count (get_or o m 0) (take level o) < count (get_or o m 0) o
again level m [] h l = absurd (omega arith)
again zero zero (i ∷ o) h l = omega (arith, same_self i)
again zero (suc m) (i ∷ o) h l = omega (arith, again zero m o (omega arith) (omega arith))
again (suc level) zero (i ∷ o) h l = absurd (omega arith)
again (suc level) (suc m) (i ∷ o) h l = omega (arith, again level m o (omega arith) (omega arith))

module _ (n : ℕ) (o : List ℕ) (order : Order n o) where
  once : (j : ℕ) → count j o ≤ 1
  once j = elim (cases_lt j n) [ inl l ↦ omega (arith, order.once j l) | inr g ↦ omega (arith, order.else_none j g) ]

  once_above : (level j : ℕ) → count j (take level o) ≤ 1
  once_above level j = omega (arith, once j, count_take j level o)

  -- no level's task stands above it, nor above a higher level
  pub not_above : (level m : ℕ) → level ≤ m → m < length o → count (get_or o m 0) (take level o) ≡ 0
  not_above level m h l = omega (arith, once (get_or o m 0), again level m o h l)

  -- different levels have different tasks
  pub same_place : (m level : ℕ) → m < length o → level < length o → get_or o m 0 ≡ get_or o level 0 → m ≡ level
  same_place m level m-in l e =
      elim (cases_lt m level) [
        | inl above ↦ absurd (apart m level above m-in l e)
        | inr not_above ↦ elim (cases_lt level m) [
          | inl below ↦ absurd (apart level m below l m-in (sym e))
          | inr not-below ↦ omega arith
        ]
      ]
    where
      apart : (a b : ℕ) → a < b → a < length o → b < length o → get_or o a 0 ≡ get_or o b 0 → ⊥
      apart a b h a_in b-in e =
          omega (arith, stands_above a b o h a_in, ap (λ j. count j (take b o)) e, not_above b b (omega arith) b-in)

  pub position : (m : ℕ) → m < length o → get_or o m 0 < n
  position m l =
      elim (cases_lt (get_or o m 0) n) [
        | inl below ↦ below
        | inr g ↦ absurd (omega (arith, order.else_none (get_or o m 0) g, again 0 m o (omega arith) l))
      ]

  -- the set of the tasks above a level holds exactly those
  pub above_holds : (level j : ℕ) → 0 < count j (take level o) → holds (word (take level o)) j ≡ true
  above_holds level = holds_present (take level o) (once_above level)

  pub above_lacks : (level j : ℕ) → count j (take level o) ≡ 0 → holds (word (take level o)) j ≡ false
  above_lacks level = holds_absent (take level o) (once_above level)

  -- the tasks above a level fit in a set where all do
  pub above_small : n ≤ 64 → (level i : ℕ) → 0 < count i (take level o) → i < 64
  above_small few level i some = elim (cases_lt i n) [
    | inl below ↦ omega arith
    | inr g ↦ absurd (omega (arith, order.else_none i g, count_take i level o))
  ]

  -- a set that holds just the tasks above a level is their word
  pub above_word : (level w : ℕ) → ((j : ℕ) → holds w j ≡ ltb 0 (count j (take level o))) → w ≡ word (take level o)
  above_word level w h =
      same_bits w (word (take level o)) (λ j. elim (cases_lt 0 (count j (take level o))) [
        | inl some ↦ h j ∙ lt-ltb 0 (count j (take level o)) some ∙ sym (above_holds level j some)
        | inr none ↦ h j ∙ le-ltb 0 (count j (take level o)) none ∙ sym (above_lacks level j (omega arith))
      ])

-- ---- a set, made of one task after another

-- it holds exactly the listed tasks, where all of them fit
abbrev pub IsSetOf : List ℕ → ℕ → Type 0
IsSetOf ps w = ((i : ℕ) → 0 < count i ps → i < 64) → (j : ℕ) → holds w j ≡ ltb 0 (count j ps)

pub set_of_none : IsSetOf [] 0
set_of_none small j = holds_absent [] (λ i. omega arith) j refl

stands_more : (j p : ℕ) (ps : List ℕ) → ltb 0 (count j (ps ++ (p ∷ []))) ≡ (eqb j p || ltb 0 (count j ps))
stands_more j p ps =
    let both = count_append j ps (p ∷ []) in
    elim (cases_eq j p) [
      | inl here ↦
          lt-ltb 0 (count j (ps ++ (p ∷ []))) (omega (arith, same_is j p here))
          ∙ sym (ap (λ b. b || ltb 0 (count j ps)) (eq-eqb j p here))
      | inr other ↦
          ap (ltb 0) (omega (arith, same_other j p other))
          ∙ sym (ap (λ b. b || ltb 0 (count j ps)) (ne_eqb j p other))
    ]

pub set_of_more : (ps : List ℕ) (p w v : ℕ) → IsSetOf ps w → (p < 64 → (j : ℕ) → holds v j ≡ (eqb j p || holds w j)) → IsSetOf (ps ++ (p ∷ [])) v
set_of_more ps p w v before added small j =
    let fits : p < 64 = small p (omega (arith, count_append p ps (p ∷ []), same_self p)) in
    added fits j
    ∙ ap (λ b. eqb j p || b) (before (λ i some. small i (omega (arith, count_append i ps (p ∷ [])))) j)
    ∙ sym (stands_more j p ps)
