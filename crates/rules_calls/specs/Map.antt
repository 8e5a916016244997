-- MAP: flags above bit 2 or reserved field not 0: 95; neither writeable nor readable: 22; length 0 or over 2^40: 22; memory + length - 1 past U64MAX: 75; fixed and
-- address + length - 1 past U64MAX: 75; no such space: 2; then the place; no free mapping record: 12; charge would pass the limit: 12.
use Rattle.std.specs.Prelude.{ℕ, ◌+◌, ◌^◌, Bool, not, ◌&&◌, ◌||◌, List, [], ◌∷◌, ◌++◌, map, ltb, eqb, ◌≡◌, refl, Option, None, Some}
use Rattle.lists.specs.Tests.{only_if}
use Rattle.lists.specs.Checks.{Check, when, first}
use Rattle.ranges.specs.Ranges.{passes, U64MAX}
use Rattle.ranges.specs.Pages.{pages_touched}
use Rattle.rules_table.specs.Limits.{most_length}
use Rattle.rules_table.specs.Flags.{bit, unknown, fixed, writeable, readable}
use Rattle.rules_table.specs.declared.Object.{Object}
use Rattle.rules_table.specs.declared.Mapping.{Mapping}
use Rattle.rules_table.specs.Records.{space_at, free_object, zero_mapping, new_space, used}
use Rattle.rules_table.specs.Charge.{charge, free_mapping, free_backing, backs, mapping_pages, backing_pages, charge_in}
use Rattle.rules_calls.specs.declared.Edit.{Edit}
use Rattle.rules_calls.specs.Edits.{settle, refuse, accept, number_in, no_record}
use Rattle.rules_calls.specs.Landing.{place_checks, place_at, lands}
use Rattle.rules_calls.specs.declared.Change.TheVariants.{Map}
use Rattle.wire.specs.Fields.{field}
use Rattle.lists.specs.Search.{find, seek}
use Rattle.lists.specs.Below.{sum_below, lowest}

-- ---- the fields
pub record MapFields : Type 0 where
  pub flags : ℕ
  pub space : ℕ
  pub must_be_zero : ℕ
  pub memory : ℕ
  pub length : ℕ
  pub address : ℕ

-- size, flags, space, reserved, memory, length, address
abbrev pub map_fields : List ℕ → MapFields
map_fields bytes =
    record { flags = field 4 bytes 4; space = field 4 bytes 8; must_be_zero = field 4 bytes 12; memory = field 8 bytes 16; length = field 8 bytes 24; address = field 8 bytes 32 }

-- ---- what MAP and COPY share

-- the rights of a mapping, from the flags: bit 0 write, bit 1 read
unfoldable pub rights_of : ℕ → ℕ
rights_of flags = only_if (writeable flags) 1 + only_if (readable flags) 2

-- a new mapping takes the lowest free record; its address is the reply
abbrev pub mapped : Option ℕ → Mapping → Edit
mapped None m = refuse 12
mapped (Some i) m = accept m.address (Map i m) free_object

-- flags ask for no right
unfoldable pub no_right : ℕ → Bool
no_right flags = not (writeable flags || readable flags)

-- length 0 or over 2^40
unfoldable pub wrong_length : ℕ → Bool
wrong_length n = eqb n 0 || ltb most_length n

-- a fixed address whose last address is past U64MAX
unfoldable pub fixed_passes : ℕ → ℕ → ℕ → Bool
fixed_passes flags x n = fixed flags && passes x n

-- ---- the rule

-- the checks on the numbers of the command and on the space
unfoldable pub map_number_checks : List Object → MapFields → List (Check ℕ)
map_number_checks os c =
    when (unknown 3 c.flags || not (eqb c.must_be_zero 0)) 95
    ∷ when (no_right c.flags) 22
    ∷ when (wrong_length c.length) 22
    ∷ when (passes c.memory c.length) 75
    ∷ when (fixed_passes c.flags c.address c.length) 75
    ∷ when (not (space_at os c.space)) 2
    ∷ []

-- the charge would pass the limit: equal is allowed
unfoldable pub over_limit : ℕ → ℕ → ℕ → Bool
over_limit limit charged pages = ltb limit (charged + pages)

-- the checks on records and charge
unfoldable pub room_checks : Option ℕ → ℕ → ℕ → ℕ → List (Check ℕ)
room_checks free limit charged pages =
    no_record free
    ∷ when (over_limit limit charged pages) 12
    ∷ []

unfoldable pub map_checks : ℕ → List Object → List Mapping → MapFields → List (Check ℕ)
map_checks limit os ms c =
    map_number_checks os c
    ++ (place_checks os ms c.space (fixed c.flags) c.length c.address ++ room_checks (free_mapping ms) limit (charge ms) (pages_touched c.memory c.length))

-- the mapping that MAP founds: a backing of its own, and the founding right
unfoldable pub found_of : ℕ → ℕ → ℕ → ℕ → ℕ → ℕ → Mapping
found_of backing flags s memory n x =
    record { space = s; rights = rights_of flags; founder = only_if (writeable flags) 1; backing = backing; address = x; length = n; memory = memory }

-- with the lowest free backing number, at its place
unfoldable pub founding : List Object → List Mapping → ℕ → ℕ → ℕ → ℕ → ℕ → Mapping
founding os ms flags s memory n x = found_of (number_in (free_backing ms)) flags s memory n (place_at os ms s (fixed flags) n x)

unfoldable pub map_edit : ℕ → List Object → List Mapping → MapFields → Edit
map_edit limit os ms c =
    settle (first (map_checks limit os ms c) 0) (mapped (free_mapping ms) (founding os ms c.flags c.space c.memory c.length c.address))

-- ---- examples: to unfold `mapping` is to unfold all that it lists

-- the edit by the numbers of the fields
abbrev edit_of : ℕ → List Object → List Mapping → ℕ → ℕ → ℕ → ℕ → ℕ → ℕ → Edit
edit_of limit os ms flags s z memory n x = map_edit limit os ms (record { flags = flags; space = s; must_be_zero = z; memory = memory; length = n; address = x })

unfoldable pub mapping : ℕ → List Object → List Mapping → ℕ → ℕ → ℕ → ℕ → ℕ → ℕ → Edit
unfolding lands map_edit map_checks map_number_checks unknown no_right wrong_length fixed_passes bit space_at room_checks over_limit charge charge_in sum_below backing_pages find backs mapping_pages pages_touched free_mapping used seek free_backing lowest founding found_of rights_of
mapping limit os ms flags s must_be_zero memory n x = edit_of limit os ms flags s must_be_zero memory n x

-- the errno of a MAP in a table of the limit 2^36, with space 1 and one free mapping record, by flags, space, reserved field, memory, length and address
abbrev errno_of : ℕ → ℕ → ℕ → ℕ → ℕ → ℕ → ℕ
errno_of flags s must_be_zero memory n x = (edit_of (2 ^ 36) (new_space ∷ []) (zero_mapping ∷ []) flags s must_be_zero memory n x).errno

-- and of a readable MAP of one byte, by the limit and the mapping records: fixed at x, and automatic
abbrev fixed_in : ℕ → List Mapping → ℕ → ℕ
fixed_in limit ms x = (edit_of limit (new_space ∷ []) ms 5 1 0 0 1 x).errno

abbrev auto_in : ℕ → List Mapping → ℕ
auto_in limit ms = (edit_of limit (new_space ∷ []) ms 4 1 0 0 1 7).errno

-- a mapping of space s: n bytes at 0, of a backing
abbrev at : ℕ → ℕ → ℕ → Mapping
at s b n = record { space = s; rights = 2; founder = 0; backing = b; address = 0; length = n; memory = 0 }

-- K4: two bytes of memory from 4,095 on, at the lowest address and under the lowest backing number, in the lowest free record. They are charged 2 pages: a limit of 2
-- is met, one of 1 passed
k4 : edit_of 2 (new_space ∷ []) (zero_mapping ∷ zero_mapping ∷ []) 4 1 0 4095 2 7 ≡ accept 0 (Map 0 (record { space = 1; rights = 2; founder = 0; backing = 1; address = 0; length = 2; memory = 4095 })) free_object
unfolding mapping
k4 = refl

k4-limit : edit_of 1 (new_space ∷ []) (zero_mapping ∷ zero_mapping ∷ []) 4 1 0 4095 2 7 ≡ refuse 12
unfolding mapping
k4-limit = refl

-- beside one page of backing 1: behind it, in the next record, under the next number; and it counts
second : edit_of 2 (new_space ∷ []) (at 1 1 0x1000 ∷ zero_mapping ∷ []) 4 1 0 0 1 7 ≡ accept 0x1000 (Map 1 (record { space = 1; rights = 2; founder = 0; backing = 2; address = 0x1000; length = 1; memory = 0 })) free_object
unfolding mapping
second = refl

second-limit : edit_of 1 (new_space ∷ []) (at 1 1 0x1000 ∷ zero_mapping ∷ []) 4 1 0 0 1 7 ≡ refuse 12
unfolding mapping
second-limit = refl

-- the rights of flags 2, 4 and 6; the founding right is the writeable flag
rights : map rights_of (2 ∷ 4 ∷ 6 ∷ []) ≡ (1 ∷ 2 ∷ 3 ∷ [])
unfolding mapping
rights = refl

founders : map (λ (flags : ℕ). (found_of 1 flags 1 0 1 0).founder) (2 ∷ 4 ∷ 6 ∷ []) ≡ (1 ∷ 0 ∷ 1 ∷ [])
unfolding mapping
founders = refl

-- flags 7 are known, 8 are not; the reserved field
map_95 : (errno_of 7 1 0 0 1 0 ∷ errno_of 12 1 0 0 1 0 ∷ errno_of 7 1 1 0 1 0 ∷ []) ≡ (0 ∷ 95 ∷ 95 ∷ [])
unfolding mapping
map_95 = refl

-- fixed and no right; readable; writeable
map_right : (errno_of 1 1 0 0 1 0 ∷ errno_of 5 1 0 0 1 0 ∷ errno_of 3 1 0 0 1 0 ∷ []) ≡ (22 ∷ 0 ∷ 0 ∷ [])
unfolding mapping
map_right = refl

-- K6: lengths
map_length : map (λ (n : ℕ). errno_of 4 1 0 0 n 7) (0 ∷ 1 ∷ (2 ^ 40) ∷ (2 ^ 40 + 1) ∷ []) ≡ (22 ∷ 0 ∷ 0 ∷ 22 ∷ [])
unfolding mapping
map_length = refl

-- one byte and two from the last of memory on
map_memory : map (λ (n : ℕ). errno_of 4 1 0 U64MAX n 7) (1 ∷ 2 ∷ []) ≡ (0 ∷ 75 ∷ [])
unfolding mapping
map_memory = refl

-- K5: one byte and two from the last address on, fixed; automatic, the address field is not asked
map_address : (errno_of 5 1 0 0 1 U64MAX ∷ errno_of 5 1 0 0 2 U64MAX ∷ errno_of 4 1 0 0 2 U64MAX ∷ []) ≡ (0 ∷ 75 ∷ 0 ∷ [])
unfolding mapping
map_address = refl

-- there is no space 0 or 2
map_space : map (λ (s : ℕ). errno_of 4 s 0 0 1 7) (0 ∷ 1 ∷ 2 ∷ []) ≡ (2 ∷ 0 ∷ 2 ∷ [])
unfolding mapping
map_space = refl

-- two checks fire, and the first answers: 95 and no right; length and memory; memory and space; address and space
map_order : (errno_of 8 1 0 0 1 0 ∷ errno_of 4 1 0 U64MAX (2 ^ 40 + 1) 7 ∷ errno_of 4 2 0 U64MAX 2 7 ∷ errno_of 5 2 0 0 2 U64MAX ∷ []) ≡ (95 ∷ 22 ∷ 75 ∷ 75 ∷ [])
unfolding mapping
map_order = refl

-- no space 2, and a mapping of it at the address
map_nowhere : (edit_of 4 (new_space ∷ []) (at 2 1 1 ∷ zero_mapping ∷ []) 5 2 0 0 1 0).errno ≡ 2
unfolding mapping
map_nowhere = refl

-- no free record: 12, but 17 where the address is mapped, and 28 where there is no candidate
map_full : (fixed_in 4 (at 1 1 1 ∷ []) 0 ∷ fixed_in 4 (at 1 1 1 ∷ []) 1 ∷ fixed_in 4 (at 1 1 1 ∷ zero_mapping ∷ []) 1 ∷ []) ≡ (17 ∷ 12 ∷ 0 ∷ [])
unfolding mapping
map_full = refl

auto-full : (auto_in 4 (at 1 1 (2 ^ 64) ∷ []) ∷ auto_in 4 (at 1 1 1 ∷ []) ∷ auto_in 4 (at 1 1 1 ∷ zero_mapping ∷ []) ∷ []) ≡ (28 ∷ 12 ∷ 0 ∷ [])
unfolding mapping
auto-full = refl
