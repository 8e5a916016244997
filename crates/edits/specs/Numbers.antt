-- The rules of five commands by the numbers of their fields, as the laws and the code hold them: each is the rule on the record of these numbers.
use Rattle.std.specs.Prelude.{ℕ, ◌≤◌, List}
use Rattle.std.proofs.Common.{arith}
use Rattle.lists.specs.Tests.{by-test}
use Rattle.lists.specs.Checks.{Check}
use Rattle.ranges.specs.Ranges.{U64MAX, span, span-some}
use Rattle.rules_table.specs.declared.Object.{Object}
use Rattle.rules_table.specs.declared.Mapping.{Mapping}
use Rattle.rules_calls.specs.declared.Edit.{Edit}
use Rattle.rules_calls.specs.Map.{MapFields, map_number_checks, map_checks, map_edit}
use Rattle.rules_calls.specs.Copy.{CopyFields, copy_number_checks, copy_checks, copy_edit}
use Rattle.rules_calls.specs.Unmap.{UnmapFields, asks_all, range_asked, unmap_number_checks, unmap_checks, unmap_edit}
use Rattle.rules_calls.specs.Allow.{AllowFields, allow_number_checks, allow_checks, allow_edit}
use Rattle.rules_calls.specs.Ranges.{RangesFields, ranges_checks, ranges_errno}

abbrev map_of : ℕ → ℕ → ℕ → ℕ → ℕ → ℕ → MapFields
map_of flags s z memory n x = record { flags = flags; space = s; must_be_zero = z; memory = memory; length = n; address = x }

abbrev pub map_number_checks_at : List Object → ℕ → ℕ → ℕ → ℕ → ℕ → ℕ → List (Check ℕ)
map_number_checks_at os flags s z memory n x = map_number_checks os (map_of flags s z memory n x)

abbrev pub map_checks_at : ℕ → List Object → List Mapping → ℕ → ℕ → ℕ → ℕ → ℕ → ℕ → List (Check ℕ)
map_checks_at limit os ms flags s z memory n x = map_checks limit os ms (map_of flags s z memory n x)

abbrev pub map_edit_at : ℕ → List Object → List Mapping → ℕ → ℕ → ℕ → ℕ → ℕ → ℕ → Edit
map_edit_at limit os ms flags s z memory n x = map_edit limit os ms (map_of flags s z memory n x)

abbrev copy_by : ℕ → ℕ → ℕ → ℕ → ℕ → ℕ → CopyFields
copy_by flags target source n x y = record { flags = flags; target = target; source = source; length = n; address = x; origin = y }

abbrev pub copy_number_checks_at : List Object → ℕ → ℕ → ℕ → ℕ → ℕ → ℕ → List (Check ℕ)
copy_number_checks_at os flags target source n x y = copy_number_checks os (copy_by flags target source n x y)

abbrev pub copy_checks_at : List Object → List Mapping → ℕ → ℕ → ℕ → ℕ → ℕ → ℕ → List (Check ℕ)
copy_checks_at os ms flags target source n x y = copy_checks os ms (copy_by flags target source n x y)

abbrev pub copy_edit_at : List Object → List Mapping → ℕ → ℕ → ℕ → ℕ → ℕ → ℕ → Edit
copy_edit_at os ms flags target source n x y = copy_edit os ms (copy_by flags target source n x y)

abbrev unmap_of : ℕ → ℕ → ℕ → UnmapFields
unmap_of s a n = record { space = s; address = a; length = n }

abbrev pub unmap_number_checks_at : List Object → ℕ → ℕ → ℕ → List (Check ℕ)
unmap_number_checks_at os s a n = unmap_number_checks os (unmap_of s a n)

abbrev pub unmap_checks_at : List Object → List Mapping → ℕ → ℕ → ℕ → List (Check ℕ)
unmap_checks_at os ms s a n = unmap_checks os ms (unmap_of s a n)

abbrev pub unmap_edit_at : List Object → List Mapping → ℕ → ℕ → ℕ → Edit
unmap_edit_at os ms s a n = unmap_edit os ms (unmap_of s a n)

-- the range that UNMAP asks for has an address
pub asked-some : (a n : ℕ) → a ≤ U64MAX → (range_asked a n).start ≤ (range_asked a n).last
unfolding range_asked span
asked-some a n h = by-test (asks_all a n) (λ e. rw e (omega arith)) (λ e. rw e (span-some a n h))

abbrev allow_of : ℕ → ℕ → ℕ → AllowFields
allow_of s count z = record { space = s; count = count; must_be_zero = z }

abbrev pub allow_number_checks_at : List Object → ℕ → ℕ → ℕ → ℕ → List (Check ℕ)
allow_number_checks_at os s count z room = allow_number_checks os (allow_of s count z) room

abbrev pub allow_checks_at : List Object → ℕ → ℕ → ℕ → List ℕ → List (Check ℕ)
allow_checks_at os s count z area = allow_checks os (allow_of s count z) area

abbrev pub allow_edit_at : List Object → ℕ → ℕ → ℕ → List ℕ → Edit
allow_edit_at os s count z area = allow_edit os (allow_of s count z) area

abbrev ranges_of : ℕ → ℕ → ℕ → RangesFields
ranges_of s count z = record { space = s; count = count; must_be_zero = z }

abbrev pub ranges_checks_at : List Object → ℕ → ℕ → ℕ → ℕ → List (Check ℕ)
ranges_checks_at os s count z room = ranges_checks os (ranges_of s count z) room

abbrev pub ranges_errno_at : List Object → ℕ → ℕ → ℕ → List ℕ → ℕ
ranges_errno_at os s count z area = ranges_errno os (ranges_of s count z) area
