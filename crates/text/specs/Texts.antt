-- The listing and the refusal line, as bytes.
use Rattle.std.specs.Prelude.{ℕ, ◌+◌, List, [], ◌∷◌, ◌++◌, codes}
use Rattle.text.specs.Lines.{line}

-- LEVEL ID RESPONSE
abbrev pub level_line : ℕ → ℕ × ℕ → List ℕ
level_line n (id, response) = line ((codes "", n) ∷ (codes " ", id) ∷ (codes " ", response) ∷ [])

-- a line for each level, the first of which has the number n
abbrev pub level_lines : ℕ → List (ℕ × ℕ) → List ℕ
level_lines n [] = []
level_lines n (l ∷ ls) = level_line n l ++ level_lines (n + 1) ls

-- cost FIRST SECOND
abbrev pub cost_line : ℕ × ℕ → List ℕ
cost_line (a, b) = line ((codes "cost ", a) ∷ (codes " ", b) ∷ [])

abbrev pub listing_text : List (ℕ × ℕ) → ℕ × ℕ → List ℕ
listing_text ls cost = level_lines 1 ls ++ cost_line cost

-- refused NUMBER record RECORD
abbrev pub refusal_line : ℕ → ℕ → List ℕ
refusal_line n r = line ((codes "refused ", n) ∷ (codes " record ", r) ∷ [])
