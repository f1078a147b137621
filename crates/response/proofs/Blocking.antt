-- The blocking from below, task by task.
use Rattle.std.specs.Prelude.{◌≡◌, ℕ, suc, ◌+◌, ◌<◌, max, Bool, true, false, cond, ◌||◌, List, [], ◌∷◌, length, ◌==◌, ◌≢◌, slice_index_or}
use Rattle.std.specs.List.{enumerate_from, fold}
use Rattle.std.proofs.Common.{refl, sym, ap, ◌∙◌, subst, arith}
use Rattle.std.proofs.lemmas.Bool.{cond-true, cond-false, or_left, or_from, ne_eqb, eq-eqb}
use Rattle.tasks.specs.Numbers.{max_below}
use Rattle.tasks.specs.declared.task.Task.{Task}
use Rattle.tasks.specs.Sets.{holds}
use Rattle.tasks.specs.declared.task.Timing.{Timing}
use Rattle.tasks.specs.Timing.{timed, at}
use Rattle.tasks.proofs.Ranges.{max_next}
use Rattle.response.specs.Tests.{section_below, blocking}
use Rattle.response.proofs.Demand.{at_timed, timed_length}

-- ---- the greatest of what a list keeps

-- the greatest size of the items that a test does not leave out, and of a number
abbrev pub grown : {X : Type 0} → (ℕ × X → Bool) → (X → ℕ) → ℕ → ℕ × X → ℕ
grown out size a p = cond (out p) a (max a (size p.1))

one_more : (b : Bool) (s m n : ℕ) → n ≡ cond b 0 s → cond b m (max m s) ≡ max m n
one_more true s m n e = omega (arith, e)
one_more false s m n e = omega (arith, e)

-- f has the size of each item that is kept, and 0 for the others
greatest_from : {X : Type 0} (out : ℕ × X → Bool) (size : X → ℕ) (f : ℕ → ℕ) (n : ℕ) (xs : List X)
    → ((j p : ℕ) (x : X) → p ≡ n + j → j < length xs → x ≡ slice_index_or xs j x → f p ≡ cond (out (p, x)) 0 (size x))
    → fold (grown out size) (max_below n f) (enumerate_from n xs) ≡ max_below (n + length xs) f
greatest_from out size f n [] each = ap (λ (m : ℕ). max_below m f) (omega arith)
greatest_from out size f n (x ∷ xs) each =
    let here = each 0 n x (omega arith) (omega arith) refl in
    ap (λ (a : ℕ). fold (grown out size) a (enumerate_from (n + 1) xs)) (one_more (out (n, x)) (size x) (max_below n f) (f n) here ∙ sym (max_next n f))
    ∙ greatest_from out size f (n + 1) xs (λ j p y e l at. each (suc j) p y (omega arith) (omega arith) at)
    ∙ ap (λ (m : ℕ). max_below m f) (omega arith)

-- ---- the sections below a task

pub section_self : (ts : List Timing) (i h j : ℕ) → j ≡ i → section_below ts i h j ≡ 0
section_self ts i h j e = cond-true (j == i || holds h j) 0 (at ts j).section (or_left (j == i) (holds h j) (eq-eqb j i e))

pub section_other : (ts : List Timing) (i h j : ℕ) → (j == i) ≡ false → holds h j ≡ false → section_below ts i h j ≡ (at ts j).section
section_other ts i h j e f = cond-false (j == i || holds h j) 0 (at ts j).section (or_from (j == i) (holds h j) e f)

-- what a task of the list adds
pub section_task : (tasks : List Task) (i h j : ℕ) (t : Task) → j < length tasks → t ≡ slice_index_or tasks j t → (j ≢ i) → holds h j ≡ false
    → section_below (timed tasks) i h j ≡ t.section
section_task tasks i h j t l e other below =
    section_other (timed tasks) i h j (ne_eqb j i other) below ∙ ap (λ (s : Timing). s.section) (at_timed tasks j t l e)

-- the task stands at i or in h
abbrev pub not_lower : ℕ → ℕ → ℕ × Task → Bool
not_lower i h p = p.0 == i || holds h p.0

-- the longest section of the others, and of a number
abbrev pub longest : ℕ → ℕ → ℕ → List (ℕ × Task) → ℕ
longest i h a ps = fold (grown (not_lower i h) (λ (t : Task). t.section)) a ps

stays_short : (b : Bool) (a s : ℕ) → a < 4096 → s < 4096 → cond b a (max a s) < 4096
stays_short true a s l k = l
stays_short false a s l k = omega (arith, l, k)

pub longest_short : (i h a : ℕ) (ps : List (ℕ × Task)) → a < 4096 → longest i h a ps < 4096
longest_short i h a [] l = l
longest_short i h a (p ∷ ps) l =
    longest_short i h (cond (not_lower i h p) a (max a p.1.section)) ps (stays_short (not_lower i h p) a p.1.section l p.1.sections)

pub longest_is_blocking : (tasks : List Task) (i h : ℕ) → longest i h 0 (enumerate_from 0 tasks) ≡ blocking (timed tasks) i h
unfolding max_below
longest_is_blocking tasks i h =
    let f = section_below (timed tasks) i h in
    greatest_from (not_lower i h) (λ (t : Task). t.section) f 0 tasks
    (λ j p t e l at.
    let here : j ≡ p = omega arith in
    ap (λ (s : Timing). cond (p == i || holds h p) 0 s.section)
    (at_timed tasks p t (omega arith) (subst (λ (m : ℕ). t ≡ slice_index_or tasks m t) here at)))
    ∙ ap (λ (m : ℕ). max_below m f) (omega (arith, timed_length tasks))
