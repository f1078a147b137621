use Rattle.std.proofs.Common.{◌≡◌, ◌+◌, ◌*◌, ◌≤◌, ◌++◌, map, length}
use Rattle.std.specs.Iterator.Adapters.{zip_first, zip_second}
use Rattle.std.specs.Slice.Iter.{iter_rest}
use Rattle.text.specs.Levels.{numbers}
use Rattle.text.specs.Texts.{level_lines}
use Rattle.text.proofs.listing.Given as goal

-- the text with the lines of the levels that are left is the text of all levels
abbrev pub invariant-loop-number : goal.invariant-loop-number
invariant-loop-number l =
    let number = (zip_first l.number-iterator).start in
    let left = iter_rest (zip_second l.number-iterator) in
    record {
      next : (goal.iterator-loop-number).can_next l.number-iterator;
      ends : (goal.iterator-loop-number).is_finite l.number-iterator;
      count : number + length left ≡ 1 + length l.levels;
      lines : l.text.bytes ++ level_lines number (map numbers left) ≡ level_lines 1 (map numbers l.levels);
      room : length l.text.bytes + 18 * length left ≤ 18 * length l.levels;
    }
