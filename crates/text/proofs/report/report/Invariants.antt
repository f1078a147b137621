use Rattle.std.proofs.Common.{◌≡◌, map, take}
use Rattle.text.specs.Levels.{numbers}
use Rattle.text.specs.Reports.{report_bytes}
use Rattle.text.proofs.report.report.Given as goal

abbrev pub invariant-loop-level : goal.invariant-loop-level
invariant-loop-level l = l.bytes.items ≡ report_bytes (map numbers (take l.level-index l.levels))
