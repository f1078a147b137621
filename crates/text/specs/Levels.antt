-- A level by its plain numbers.
use Rattle.std.specs.Prelude.{ℕ}
use Rattle.text.specs.declared.level.Level.{Level}

-- the id and the response time
abbrev pub numbers : Level → ℕ × ℕ
numbers l = (l.id, l.response)
