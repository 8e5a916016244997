-- What the tool answers: the rule's answer, and no run that no word holds.
use Rattle.std.specs.Prelude.{◌≤◌, ◌≡◌, Ok, Err}
use Rattle.ranges.specs.Ranges.{U64MAX}
use Rattle.rules_calls.specs.Opening.{Opening}
use Rattle.rules_calls.specs.declared.Unopened.TheVariants.{UnknownRequest, NoSizeField, SizeTooSmall, SizePastBytes, TailNotZero}
use Rattle.rules_reasons.specs.declared.Reason.{Reason}
use Rattle.rules_reasons.specs.declared.Reason.TheVariants as reason
use Rattle.rules_reasons.specs.Explain.{Explained}
use Rattle.reason_words.specs.Words.{Short}

-- what stood in the way of the opening
abbrev pub opening_reason : Opening → Reason
opening_reason (Err UnknownRequest) = reason.Accepted
opening_reason (Err NoSizeField) = reason.NoSizeField
opening_reason (Err SizeTooSmall) = reason.SizeTooSmall
opening_reason (Err SizePastBytes) = reason.SizePastBytes
opening_reason (Err TailNotZero) = reason.TailNotZero
opening_reason (Ok c) = reason.Accepted

abbrev pub ShortTold : Explained → Type 0
ShortTold (Err n) = 0 ≤ U64MAX
ShortTold (Ok r) = Short r

pub record Answered (rule e : Explained) : Type 0 where
  pub answer : e ≡ rule
  pub short : ShortTold e
