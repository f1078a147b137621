-- Orders of tasks, and the response times of an order. Tasks go by position, 0 to n - 1.
use Rattle.std.specs.Prelude.{◌≡◌, ℕ, zero, suc, ◌+◌, ◌^◌, ◌<◌, ◌≤◌, true, false, cond, List, [], ◌∷◌, ◌++◌, Some, None, filter, Option, ◌==◌, nat_eq}
use Rattle.tasks.specs.Sets.{holds, Part}

-- ---- lists of tasks

-- the word of the tasks in a list that has none twice
abbrev pub word : List ℕ → ℕ
word [] = 0
word (i ∷ is) = 2 ^ i + word is

-- 1 for the same task, else 0
abbrev pub same : ℕ → ℕ → ℕ
same i j = cond (i == j) 1 0

-- how often a task stands in a list
abbrev pub count : ℕ → List ℕ → ℕ
count i [] = 0
count i (j ∷ js) = same i j + count i js

-- 0, 1, .., n - 1
abbrev pub upto : ℕ → List ℕ
upto zero = []
upto (suc n) = upto n ++ (n ∷ [])

-- the tasks that a list lacks, ascending
abbrev pub unplaced : ℕ → List ℕ → List ℕ
unplaced n placed = filter (λ i. nat_eq (count i placed) 0) (upto n)

-- an order has every task once; level 1, the highest, stands first
pub record Order (n : ℕ) (o : List ℕ) : Type 0 where
  pub once : (i : ℕ) → i < n → count i o ≡ 1
  pub else_none : (i : ℕ) → n ≤ i → count i o ≡ 0

-- ---- response times. A test answers for a task and the set of the tasks above it; none says that the task is late.

abbrev pub Test : Type 0
Test = ℕ → ℕ → Option ℕ

-- under a part of what is above it, a task that is answered is answered no later time
abbrev pub Monotone : ℕ → Test → Type 0
Monotone n answer = (i above part r : ℕ) → i < n → holds above i ≡ false → ((j : ℕ) → holds above j ≡ true → j < n)
    → Part part above → answer i above ≡ Some r → (s : ℕ) × (answer i part ≡ Some s) × (s ≤ r)

-- one answer before others, or none where one is missing
abbrev pub both : Option ℕ → Option (List ℕ) → Option (List ℕ)
both None rs = None
both (Some r) None = None
both (Some r) (Some rs) = Some (r ∷ rs)

module _ (answer : Test) where
  -- the answers to tasks that stand level by level below the tasks `above`
  abbrev pub times_below : List ℕ → List ℕ → Option (List ℕ)
  times_below above [] = Some []
  times_below above (i ∷ is) = both (answer i (word above)) (times_below (above ++ (i ∷ [])) is)

  -- the response times of an order: each level's answer with exactly the tasks of the higher levels above, or none
  -- where one is late
  abbrev pub times : List ℕ → Option (List ℕ)
  times o = times_below [] o

-- tasks at levels that follow one another, highest first, with their response times
pub record Assignment : Type 0 where
  pub order : List ℕ
  pub times : List ℕ

-- an order that passes, with its response times
abbrev pub Passes : ℕ → Test → Assignment → Type 0
Passes n answer a = Order n a.order × (times answer a.order ≡ Some a.times)
