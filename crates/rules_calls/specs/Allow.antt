-- ALLOW_IOVAS: reserved field 95; no space 2; count over 8: 12; range area short 14; a start above its last, or two ranges that overlap: 22;
-- a range that touches reserved: 98. The list is replaced, in the order given; count 0 empties it.
use Rattle.std.specs.Prelude.{ℕ, zero, suc, ◌+◌, ◌-◌, ◌*◌, not, cond, List, [], ◌∷◌, ◌++◌, map, ltb, eqb, length, replicate, ◌≡◌, refl}
use Rattle.lists.specs.Checks.{Check, when, first}
use Rattle.rangelists.specs.Listed.{Allowed, allowed, places, listed, ordered, valid, overlap, ranges_in}
use Rattle.wire.specs.Fields.{field, put}
use Rattle.rules_table.specs.declared.Attachment.TheVariants.{Loose, Attached}
use Rattle.rules_table.specs.declared.Attachment.{Attachment}
use Rattle.rules_table.specs.Limits.{most_allowed, range_bytes}
use Rattle.rules_table.specs.declared.Object.{Object}
use Rattle.rules_table.specs.Records.{object_at, space_at, no_reserved, no_allowed, new_space}
use Rattle.rules_table.specs.Spaces.{reserved_of, reserved_for}
use Rattle.rules_table.specs.Fits.{too_many, bad_list}
use Rattle.rules_table.specs.Good.{lists_touch}
use Rattle.rules_calls.specs.declared.Change.TheVariants.{Put}
use Rattle.rules_calls.specs.declared.Edit.{Edit}
use Rattle.rules_calls.specs.Edits.{settle, accept}
use Rattle.lists.specs.Search.{any, all}
use Rattle.lists.specs.Pairs.{clashes}
use Rattle.ranges.specs.Ranges.{U64MAX, share, shared_start, shared_last}
use Rattle.rules_table.specs.declared.Kind.TheVariants.{Space, Device}

-- ---- the fields
pub record AllowFields : Type 0 where
  pub space : ℕ
  pub count : ℕ
  pub must_be_zero : ℕ

-- size, space, count, reserved, pointer
abbrev pub allow_fields : List ℕ → AllowFields
allow_fields bytes = record { space = field 4 bytes 4; count = field 4 bytes 8; must_be_zero = field 4 bytes 12 }

-- ---- the range area

-- the area has no room for so many ranges: 14
abbrev pub no_room : ℕ → ℕ → Check ℕ
no_room room count = when (ltb room (range_bytes * count)) 14

-- a number of range k of the area, and 0 from range n on: its start at offset 0, its last at offset 8
unfoldable pub number_at : ℕ → ℕ → ℕ → List ℕ → ℕ
number_at off n k area = cond (ltb k n) (field 8 area (range_bytes * k + off)) 0

-- such a number of each range from k on, for so many places
unfoldable pub column : ℕ → ℕ → ℕ → ℕ → List ℕ → List ℕ
column off n k zero area = []
column off n k (suc room) area = number_at off n k area ∷ column off n (k + 1) room area

-- the list of the first count ranges of the area
unfoldable pub area_list : ℕ → List ℕ → Allowed
area_list count area = record { count = count; starts = column 0 count 0 most_allowed area; lasts = column 8 count 0 most_allowed area }

unfoldable pub with_allow : Object → Allowed → Object
with_allow o l = record { kind = o.kind; bitmap = o.bitmap; reserved = o.reserved; allow = l }

-- ---- the rule: the checks on the numbers alone, then those on the list

unfoldable pub allow_number_checks : List Object → AllowFields → ℕ → List (Check ℕ)
allow_number_checks os c room =
    when (not (eqb c.must_be_zero 0)) 95
    ∷ when (not (space_at os c.space)) 2
    ∷ too_many c.count
    ∷ no_room room c.count
    ∷ []

unfoldable pub list_checks : List Object → ℕ → Allowed → List (Check ℕ)
list_checks os space l =
    bad_list l
    ∷ when (lists_touch (reserved_of os space) (allowed l)) 98
    ∷ []

unfoldable pub allow_checks : List Object → AllowFields → List ℕ → List (Check ℕ)
allow_checks os c area = allow_number_checks os c (length area) ++ list_checks os c.space (area_list c.count area)

unfoldable pub allow_edit : List Object → AllowFields → List ℕ → Edit
allow_edit os c area =
    settle (first (allow_checks os c area) 0) (accept 0 (Put (c.space - 1)) (with_allow (object_at os c.space) (area_list c.count area)))

-- ---- examples: to unfold `allows` is to unfold all that it lists

-- the edit by the numbers of the fields
abbrev edit_of : List Object → ℕ → ℕ → ℕ → List ℕ → Edit
edit_of os s count z area = allow_edit os (record { space = s; count = count; must_be_zero = z }) area

unfoldable pub allows : List Object → ℕ → ℕ → ℕ → List ℕ → Edit
unfolding allow_edit allow_checks allow_number_checks list_checks area_list column number_at with_allow first field put valid all ordered overlap clashes any lists_touch reserved_of reserved_for ranges_in listed places object_at space_at share shared_start shared_last
allows os space count must_be_zero area = edit_of os space count must_be_zero area

-- a range of the range area
abbrev entry : ℕ → ℕ → List ℕ
entry start last = put 8 (put 8 (replicate 16 0) 0 start) 8 last

-- space 1, with a list, and the plan's device, which reserves 0xFEE00000 to 0xFEEFFFFF
abbrev space : Allowed → Object
space l = record { kind = Space; bitmap = 0; reserved = no_reserved; allow = l }

abbrev plan : Attachment → List Object
plan a =
    space (record { count = 1; starts = 0x1000 ∷ replicate 7 0; lasts = 0x1FFF ∷ replicate 7 0 })
    ∷ record { kind = Device a; bitmap = 0x1000; reserved = record { count = 1; starts = 0xFEE00000 ∷ replicate 3 0; lasts = 0xFEEFFFFF ∷ replicate 3 0 }; allow = no_allowed }
    ∷ []

-- the errno, by space, count, reserved field and area
abbrev errno_of : ℕ → ℕ → ℕ → List ℕ → ℕ
errno_of s count must_be_zero area = (edit_of (plan (Attached 1)) s count must_be_zero area).errno

-- eight ranges, and a ninth
abbrev eight : List ℕ
eight = entry 0 1 ++ (entry 2 3 ++ (entry 4 5 ++ (entry 6 7 ++ (entry 8 9 ++ (entry 10 11 ++ (entry 12 13 ++ entry 14 15))))))

abbrev nine : List ℕ
nine = eight ++ entry 16 17

-- K10's list takes the place of the old one; two ranges stay in the order given; count 0 empties the list
k10 : edit_of (plan (Attached 1)) 1 1 0 (entry 0x100000 0x1FFFFF) ≡ accept 0 (Put 0) (space (record { count = 1; starts = 0x100000 ∷ replicate 7 0; lasts = 0x1FFFFF ∷ replicate 7 0 }))
unfolding allows
k10 = refl

in_order : edit_of (plan (Attached 1)) 1 2 0 (entry 0x3000 0x3FFF ++ entry 0x1000 0x1FFF) ≡ accept 0 (Put 0) (space (record { count = 2; starts = 0x3000 ∷ 0x1000 ∷ replicate 6 0; lasts = 0x3FFF ∷ 0x1FFF ∷ replicate 6 0 }))
unfolding allows
in_order = refl

emptied : edit_of (plan (Attached 1)) 1 0 0 (entry 0x3000 0x3FFF) ≡ accept 0 (Put 0) new_space
unfolding allows
emptied = refl

-- the reserved field; no space, for 2 is a device
allow-numbers : (errno_of 1 1 0 (entry 0 1) ∷ errno_of 1 1 1 (entry 0 1) ∷ errno_of 2 1 0 (entry 0 1) ∷ errno_of 0 1 0 (entry 0 1) ∷ []) ≡ (0 ∷ 95 ∷ 2 ∷ 2 ∷ [])
unfolding allows
allow-numbers = refl

-- eight ranges and nine
allow-count : (errno_of 1 8 0 nine ∷ errno_of 1 9 0 nine ∷ []) ≡ (0 ∷ 12 ∷ [])
unfolding allows
allow-count = refl

-- an area of two ranges, for two and for three
allow-area : map (λ (count : ℕ). errno_of 1 count 0 (entry 0 1 ++ entry 2 3)) (2 ∷ 3 ∷ []) ≡ (0 ∷ 14 ∷ [])
unfolding allows
allow-area = refl

-- a start above its last; at its last
allow-ordered : map (λ (last : ℕ). errno_of 1 1 0 (entry 0x1000 last)) (0xFFF ∷ 0x1000 ∷ []) ≡ (22 ∷ 0 ∷ [])
unfolding allows
allow-ordered = refl

-- two ranges with one address in common; side by side
allow-overlap : map (λ (last : ℕ). errno_of 1 2 0 (entry 0x1000 0x1FFF ++ entry 0 last)) (0x1000 ∷ 0xFFF ∷ []) ≡ (22 ∷ 0 ∷ [])
unfolding allows
allow-overlap = refl

-- up to the first reserved address; up to the one before it; from the last on; from the one after it on
allow-reserved : (errno_of 1 1 0 (entry 0 0xFEE00000) ∷ errno_of 1 1 0 (entry 0 0xFEDFFFFF) ∷ errno_of 1 1 0 (entry 0xFEEFFFFF U64MAX) ∷ errno_of 1 1 0 (entry 0xFEF00000 U64MAX) ∷ []) ≡ (98 ∷ 0 ∷ 98 ∷ 0 ∷ [])
unfolding allows
allow-reserved = refl

-- a device that is loose, or attached to another space, reserves nothing here
allow-elsewhere : map (λ (a : Attachment). (edit_of (plan a) 1 1 0 (entry 0 0xFEE00000)).errno) (Loose ∷ Attached 3 ∷ []) ≡ (0 ∷ 0 ∷ [])
unfolding allows
allow-elsewhere = refl

-- two checks fire, and the first answers: reserved field and space; space and count; count and area; area and list; list and reserved range
allow-order : (errno_of 2 1 1 (entry 0 1) ∷ errno_of 2 9 0 nine ∷ errno_of 1 9 0 [] ∷ errno_of 1 2 0 (entry 1 0) ∷ errno_of 1 2 0 (entry 0 0xFEE00000 ++ entry 0 1) ∷ []) ≡ (95 ∷ 2 ∷ 12 ∷ 14 ∷ 22 ∷ [])
unfolding allows
allow-order = refl
