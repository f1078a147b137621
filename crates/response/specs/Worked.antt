-- Worked cases of the two tests.
use Rattle.std.specs.Prelude.{◌≡◌, ℕ, List, [], ◌∷◌, Some, None, Option}
use Rattle.std.specs.List.{AllByRecursion}
use Rattle.tasks.specs.declared.task.Timing.{Timing}
use Rattle.response.specs.Tests.{Answers, one_job, window}

pub record Case : Type 0 where
  pub test : Answers
  pub held : List Timing
  pub position : ℕ
  pub above : ℕ
  pub answer : Option ℕ

abbrev pub Right : Case → Type 0
Right c = c.test c.held c.position c.above ≡ c.answer

abbrev timing : ℕ → ℕ → ℕ → ℕ → Timing
timing c d t s = record { execution = c; deadline = d; period = t; section = s }

-- ids 1, 2 and 3 at the positions 0, 1 and 2; id 3 with a section of s
abbrev three : ℕ → List Timing
three s = timing 1 4 4 0 ∷ timing 2 6 6 0 ∷ timing 3 12 12 s ∷ []

-- ids 1 and 2 at the positions 0 and 1; id 2 with a deadline of d
abbrev two : ℕ → List Timing
two d = timing 26 70 70 0 ∷ timing 62 d 100 0 ∷ []

abbrev case : Answers → List Timing → ℕ → ℕ → Option ℕ → Case
case test held position above answer = record { test = test; held = held; position = position; above = above; answer = answer }

abbrev pub cases : List Case
cases =
    case one_job (three 0) 2 0b011 (Some 10)
    ∷ case one_job (three 0) 0 0b100 (Some 4)
    ∷ case one_job (three 0) 1 0b101 None
    ∷ case one_job (three 2) 0 0b000 (Some 3)
    ∷ case one_job (three 2) 1 0b001 (Some 6)
    ∷ case one_job (three 2) 0 0b010 None
    ∷ case window (two 118) 1 0b01 (Some 118)
    ∷ case window (two 117) 1 0b01 None
    ∷ []

abbrev pub Worked : Type 0
Worked = AllByRecursion Right cases
