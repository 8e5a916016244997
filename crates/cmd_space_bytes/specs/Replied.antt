-- What the code of IOVA_RANGES promises past the gate.
use Rattle.std.specs.Prelude.{ℕ, ◌≡◌, cond, List, length}
use Rattle.wire.specs.Fields.{field}
use Rattle.rules_table.specs.declared.Object.{Object}
use Rattle.rules_calls.specs.Ranges.{free_of, replies_to, ranges_bytes, ranges_area}
use Rattle.edits.specs.Numbers.{ranges_errno_at}

-- IOVA_RANGES: size, space, count, reserved, pointer, alignment
-- its reply: n is the full number of ranges, and what the command and the range area are after it
pub record RangesReply (os : List Object) (space count n : ℕ) (cmd cmd' area area' : List ℕ) : Type 0 where
  pub full : n ≡ length (free_of os space)
  pub bytes : cmd' ≡ ranges_bytes os space cmd
  pub ranges : area' ≡ ranges_area os space count area

-- past the gate: n is the errno; 0 and 90 write the reply
pub record RangesDone (os : List Object) (n : ℕ) (cmd cmd' area area' : List ℕ) : Type 0 where
  pub errno : n ≡ ranges_errno_at os (field 4 cmd 4) (field 4 cmd 8) (field 4 cmd 12) area
  pub bytes : cmd' ≡ cond (replies_to n) (ranges_bytes os (field 4 cmd 4) cmd) cmd
  pub ranges : area' ≡ cond (replies_to n) (ranges_area os (field 4 cmd 4) (field 4 cmd 8) area) area
