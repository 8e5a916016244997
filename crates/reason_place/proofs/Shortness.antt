-- Where n bytes have no place, the longest run is shorter than they are: its length fits a word.
use Rattle.std.specs.Prelude.{Some, None, Option}
use Prim.Native.Nat.{ℕ, ◌≤◌}
use mathlib.Core.Path.{◌≡◌, refl}
use mathlib.Core.Bool.{true, false}
use mathlib.Core.List.{List}
use native.Mathlib.Omega.{arith}
use Rattle.lists.specs.Tests.{contrary}
use Rattle.ranges.specs.Ranges.{U64MAX}
use Rattle.rangelists.specs.Listed.{allowed}
use Rattle.runs.specs.declared.Run.{Run}
use Rattle.runs.specs.Longest.{told-shorter}
use Rattle.rules_table.specs.declared.Object.{Object}
use Rattle.rules_table.specs.declared.Mapping.{Mapping}
use Rattle.rules_table.specs.Records.{object_at}
use Rattle.rules_table.specs.Spaces.{alignment}
use Rattle.rules_calls.specs.Edits.{is_none}
use Rattle.rules_calls.specs.Landing.{lowest_tried, blocked_in, automatic}
use Rattle.rules_reasons.specs.declared.Reason.TheVariants.{NoPlace}
use Rattle.rules_reasons.specs.Reasons.{longest_in}
use Rattle.reason_words.specs.Words.{Short}

none_is : (o : Option ℕ) → is_none o ≡ true → o ≡ None
none_is None w = refl
none_is (Some x) w = contrary false w refl

pub short-run : (os : List Object) (ms : List Mapping) (s n : ℕ) → n ≤ U64MAX → is_none (automatic os ms s n) ≡ true → (run : Option Run) → longest_in os ms s ≡ run → Short (NoPlace run)
unfolding longest_in automatic
short-run os ms s n h w None l = omega arith
short-run os ms s n h w (Some x) l =
    omega (arith, h, told-shorter (alignment os s) lowest_tried (blocked_in os ms s) (allowed (object_at os s).allow) n x.start x.more (none_is (automatic os ms s n) w) l)
