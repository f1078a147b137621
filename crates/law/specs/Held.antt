-- The held tasks, in ascending order of id.
use Rattle.std.specs.Prelude.{ℕ, Bool, false, cond, ◌||◌, List, [], ◌∷◌, ◌==◌, nat_lt}
use Rattle.tasks.specs.declared.task.Candidate.{Candidate}

-- a task of that id is held
abbrev pub has : ℕ → List Candidate → Bool
has id [] = false
has id (t ∷ ts) = t.id == id || has id ts

-- with one task more, before the first of a larger id
abbrev pub inserted : Candidate → List Candidate → List Candidate
inserted c [] = c ∷ []
inserted c (t ∷ ts) = cond (nat_lt c.id t.id) (c ∷ t ∷ ts) (t ∷ inserted c ts)

-- without the task of that id
abbrev pub without : ℕ → List Candidate → List Candidate
without id [] = []
without id (t ∷ ts) = cond (t.id == id) ts (t ∷ without id ts)
