-- COPY: unknown flags 95; no right 22; length as in MAP 22; source address + length - 1 past U64MAX 75; fixed target likewise 75; no target space 2; no source space 2;
-- no source mapping with exactly this address and length 2; writeable asked where the founding MAP was not 1. Then as MAP from its alignment check on, without the
-- charge check. Both spaces may be the same.
use Rattle.std.specs.Prelude.{ℕ, ◌+◌, ◌^◌, Bool, not, ◌&&◌, List, [], ◌∷◌, ◌++◌, map, eqb, ◌≡◌, refl, Option, None, Some}
use Rattle.lists.specs.Checks.{Check, when, first}
use Rattle.ranges.specs.Ranges.{passes, U64MAX}
use Rattle.rules_table.specs.Flags.{bit, unknown, fixed, writeable}
use Rattle.rules_table.specs.declared.Object.{Object}
use Rattle.rules_table.specs.declared.Mapping.{Mapping}
use Rattle.rules_table.specs.Records.{zero_mapping, space_at, of_space, free_object, new_space, used}
use Rattle.rules_table.specs.Charge.{free_mapping}
use Rattle.rules_calls.specs.declared.Edit.{Edit}
use Rattle.rules_calls.specs.Edits.{settle, accept, is_none, no_record}
use Rattle.rules_calls.specs.Landing.{place_checks, place_at, lands}
use Rattle.rules_calls.specs.Map.{rights_of, mapped, no_right, wrong_length, fixed_passes}
use Rattle.lists.specs.Search.{find, seek}
use Rattle.wire.specs.Fields.{field}
use Rattle.rules_calls.specs.declared.Change.TheVariants.{Map}

-- ---- the fields; `address` is the target's and `origin` the source's
pub record CopyFields : Type 0 where
  pub flags : ℕ
  pub target : ℕ
  pub source : ℕ
  pub length : ℕ
  pub address : ℕ
  pub origin : ℕ

-- size, flags, target, source, length, target address, source address
abbrev pub copy_fields : List ℕ → CopyFields
copy_fields bytes =
    record { flags = field 4 bytes 4; target = field 4 bytes 8; source = field 4 bytes 12; length = field 8 bytes 16; address = field 8 bytes 24; origin = field 8 bytes 32 }

-- ---- the source: the mapping that a space, an address and a length name. At most one mapping of a good table has them, for no two of a space share an address

-- it is the mapping of space s of the n bytes from address a on
unfoldable pub is_source : ℕ → ℕ → ℕ → Mapping → Bool
is_source s a n m = of_space s m && (eqb m.address a && eqb m.length n)

-- the mapping that is named, if there is one
unfoldable pub source_of : List Mapping → ℕ → ℕ → ℕ → Option Mapping
source_of ms s a n = find (is_source s a n) ms

-- ---- the rule

-- the checks on the numbers of the command and on the spaces
unfoldable pub copy_number_checks : List Object → CopyFields → List (Check ℕ)
copy_number_checks os c =
    when (unknown 3 c.flags) 95
    ∷ when (no_right c.flags) 22
    ∷ when (wrong_length c.length) 22
    ∷ when (passes c.origin c.length) 75
    ∷ when (fixed_passes c.flags c.address c.length) 75
    ∷ when (not (space_at os c.target)) 2
    ∷ when (not (space_at os c.source)) 2
    ∷ []

-- the source, and a released record where there is none
abbrev pub source_mapping : Option Mapping → Mapping
source_mapping None = zero_mapping
source_mapping (Some m) = m

-- no source: 2; writeable asked where the founding MAP was not: 1
unfoldable pub source_checks : ℕ → Option Mapping → List (Check ℕ)
source_checks flags o =
    when (is_none o) 2
    ∷ when (writeable flags && not (eqb (source_mapping o).founder 1)) 1
    ∷ []

unfoldable pub record_checks : Option ℕ → List (Check ℕ)
record_checks free = no_record free ∷ []

unfoldable pub copy_checks : List Object → List Mapping → CopyFields → List (Check ℕ)
copy_checks os ms c =
    copy_number_checks os c
    ++ (source_checks c.flags (source_of ms c.source c.origin c.length)
    ++ (place_checks os ms c.target (fixed c.flags) c.length c.address ++ record_checks (free_mapping ms)))

-- the mapping that COPY makes: the source's memory, backing and founding right
unfoldable pub copy_of : Mapping → ℕ → ℕ → ℕ → ℕ → Mapping
copy_of m flags target n x =
    record { space = target; rights = rights_of flags; founder = m.founder; backing = m.backing; address = x; length = n; memory = m.memory }

-- at its place
unfoldable pub copying : List Object → List Mapping → Mapping → ℕ → ℕ → ℕ → ℕ → Mapping
copying os ms m flags target n x = copy_of m flags target n (place_at os ms target (fixed flags) n x)

unfoldable pub copy_edit : List Object → List Mapping → CopyFields → Edit
copy_edit os ms c =
    settle (first (copy_checks os ms c) 0)
    (mapped (free_mapping ms) (copying os ms (source_mapping (source_of ms c.source c.origin c.length)) c.flags c.target c.length c.address))

-- ---- examples: to unfold `copies` is to unfold all that it lists

-- the edit by the numbers of the fields
abbrev edit_of : List Object → List Mapping → ℕ → ℕ → ℕ → ℕ → ℕ → ℕ → Edit
edit_of os ms flags target source n x y = copy_edit os ms (record { flags = flags; target = target; source = source; length = n; address = x; origin = y })

unfoldable pub copies : List Object → List Mapping → ℕ → ℕ → ℕ → ℕ → ℕ → ℕ → Edit
unfolding lands copy_edit copy_checks copy_number_checks unknown no_right wrong_length fixed_passes bit space_at source_checks source_of is_source find record_checks free_mapping used seek copying copy_of rights_of
copies os ms flags target source n x y = edit_of os ms flags target source n x y

-- n bytes of space 1 at address a, mapped readable, by a founding MAP that was writeable (1) or not (0)
abbrev from : ℕ → ℕ → ℕ → Mapping
from founder n a = record { space = 1; rights = 2; founder = founder; backing = 1; address = a; length = n; memory = 0x10000 }

-- the errno of a COPY, between spaces 1 and 2, by the mappings, flags, target, source, length, target address and source address
abbrev errno_of : List Mapping → ℕ → ℕ → ℕ → ℕ → ℕ → ℕ → ℕ
errno_of ms flags target source n x y = (edit_of (new_space ∷ new_space ∷ []) ms flags target source n x y).errno

-- a page of space 1 at 0, and a free record
abbrev page : List Mapping
page = from 0 0x1000 0 ∷ zero_mapping ∷ []

abbrev written : List Mapping
written = from 1 0x1000 0 ∷ zero_mapping ∷ []

-- K11: it is copied to space 2, with its memory and its backing
k11 : edit_of (new_space ∷ new_space ∷ []) page 4 2 1 0x1000 7 0 ≡ accept 0 (Map 1 (record { space = 2; rights = 2; founder = 0; backing = 1; address = 0; length = 0x1000; memory = 0x10000 })) free_object
unfolding copies
k11 = refl

-- to the same space: the lowest address is behind it
same-space : (edit_of (new_space ∷ new_space ∷ []) page 4 1 1 0x1000 7 0).value ≡ 0x1000
unfolding copies
same-space = refl

-- K12: writeable, of a readable MAP; readable; writeable, of a writeable MAP, though this mapping is readable alone
k12 : (errno_of page 2 2 1 0x1000 7 0 ∷ errno_of page 4 2 1 0x1000 7 0 ∷ errno_of written 2 2 1 0x1000 7 0 ∷ []) ≡ (1 ∷ 0 ∷ 0 ∷ [])
unfolding copies
k12 = refl

-- the copy has the rights asked and the founding right of its source
copied-right : edit_of (new_space ∷ new_space ∷ []) written 2 2 1 0x1000 7 0 ≡ accept 0 (Map 1 (record { space = 2; rights = 1; founder = 1; backing = 1; address = 0; length = 0x1000; memory = 0x10000 })) free_object
unfolding copies
copied-right = refl

-- unknown flags; no right
copy_flags : map (λ (flags : ℕ). errno_of written flags 2 1 0x1000 0 0) (7 ∷ 12 ∷ 1 ∷ []) ≡ (0 ∷ 95 ∷ 22 ∷ [])
unfolding copies
copy_flags = refl

-- lengths, each of a mapping that has it
copy_length : map (λ (n : ℕ). errno_of (from 0 n 0 ∷ zero_mapping ∷ []) 4 2 1 n 7 0) (0 ∷ 1 ∷ (2 ^ 40) ∷ (2 ^ 40 + 1) ∷ []) ≡ (22 ∷ 0 ∷ 0 ∷ 22 ∷ [])
unfolding copies
copy_length = refl

-- one byte and two from the last source address on; and from the last target address on, fixed and automatic
copy_source_past : map (λ (n : ℕ). errno_of (from 0 n U64MAX ∷ zero_mapping ∷ []) 4 2 1 n 7 U64MAX) (1 ∷ 2 ∷ []) ≡ (0 ∷ 75 ∷ [])
unfolding copies
copy_source_past = refl

copy_target_past : map (λ (n : ℕ). errno_of (from 0 n 0 ∷ zero_mapping ∷ []) 5 2 1 n U64MAX 0) (1 ∷ 2 ∷ []) ≡ (0 ∷ 75 ∷ [])
unfolding copies
copy_target_past = refl

copy_target_auto : errno_of (from 0 2 0 ∷ zero_mapping ∷ []) 4 2 1 2 U64MAX 0 ≡ 0
unfolding copies
copy_target_auto = refl

-- no target space; no source space; nothing in the source space; not this address; not this length
copy_missing : (errno_of page 4 3 1 0x1000 7 0 ∷ errno_of page 4 2 3 0x1000 7 0 ∷ errno_of page 4 1 2 0x1000 7 0 ∷ errno_of page 4 2 1 0x1000 7 1 ∷ errno_of page 4 2 1 0xFFF 7 0 ∷ []) ≡ (2 ∷ 2 ∷ 2 ∷ 2 ∷ 2 ∷ [])
unfolding copies
copy_missing = refl

-- no space 3, though a mapping names it as its own
copy_source_space : map (λ (s : ℕ). errno_of (record { space = s; rights = 2; founder = 0; backing = 1; address = 0; length = 1; memory = 0 } ∷ zero_mapping ∷ []) 4 1 s 1 7 0) (2 ∷ 3 ∷ []) ≡ (0 ∷ 2 ∷ [])
unfolding copies
copy_source_space = refl

-- two checks fire, and the first answers: flags and right; length and sum; sum of the source and space; sum of the target and space
copy_order : (errno_of page 8 2 1 0x1000 7 0 ∷ errno_of page 4 2 1 (2 ^ 40 + 1) 7 U64MAX ∷ errno_of page 4 3 1 2 7 U64MAX ∷ errno_of page 5 3 1 2 U64MAX 0 ∷ []) ≡ (95 ∷ 22 ∷ 75 ∷ 75 ∷ [])
unfolding copies
copy_order = refl

-- no source and the right to write; the right to write and the place
copy_right_order : (errno_of page 2 2 1 0x1000 7 1 ∷ errno_of page 3 1 1 0x1000 0 0 ∷ []) ≡ (2 ∷ 1 ∷ [])
unfolding copies
copy_right_order = refl

-- as MAP from its alignment check on: mapped; mapped, and no free record; no free record; a free one
copy_place : (errno_of page 5 1 1 0x1000 0 0 ∷ errno_of (from 0 0x1000 0 ∷ []) 5 1 1 0x1000 0 0 ∷ errno_of (from 0 0x1000 0 ∷ []) 5 2 1 0x1000 0 0 ∷ errno_of page 5 2 1 0x1000 0 0 ∷ []) ≡ (17 ∷ 17 ∷ 12 ∷ 0 ∷ [])
unfolding copies
copy_place = refl
