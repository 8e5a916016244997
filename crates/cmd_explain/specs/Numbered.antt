-- The reasons of MAP and COPY by the numbers of their fields, as the code holds them, and the checks on these numbers that the two share.
use Rattle.std.specs.Prelude.{ℕ, Bool, List, [], ◌∷◌, Result, Ok, Err}
use Rattle.lists.specs.Checks.{Check, when}
use Rattle.ranges.specs.Ranges.{passes}
use Rattle.rules_table.specs.declared.Object.{Object}
use Rattle.rules_table.specs.declared.Mapping.{Mapping}
use Rattle.rules_calls.specs.Map.{no_right, wrong_length, fixed_passes}
use Rattle.landing.specs.declared.Target.{Target}
use Rattle.rules_reasons.specs.declared.Reason.{Reason}
use Rattle.rules_reasons.specs.declared.Reason.TheVariants.{Flags, NoRight, WrongLength, AddressPasses}
use Rattle.rules_reasons.specs.Reasons.{map_reason, copy_reason}

-- the name of a check that fired, else what the checks after it tell
abbrev pub told_or : {A : Type 0} → Result A Reason → Reason → Reason
told_or (Ok a) rest = rest
told_or (Err r) rest = r

abbrev pub number_checks : Bool → ℕ → ℕ → ℕ → ℕ → Reason → List (Check Reason)
number_checks unknown flags n x start past =
    when unknown Flags
    ∷ when (no_right flags) NoRight
    ∷ when (wrong_length n) WrongLength
    ∷ when (passes start n) past
    ∷ when (fixed_passes flags x n) AddressPasses
    ∷ []

abbrev pub map_reason_at : ℕ → List Object → List Mapping → Target → ℕ → ℕ → Reason
map_reason_at limit os ms t z memory =
    map_reason limit os ms (record { flags = t.flags; space = t.space; must_be_zero = z; memory = memory; length = t.length; address = t.address })

abbrev pub copy_reason_at : List Object → List Mapping → Target → ℕ → ℕ → Reason
copy_reason_at os ms t source from =
    copy_reason os ms (record { flags = t.flags; target = t.space; source = source; length = t.length; address = t.address; origin = from })
