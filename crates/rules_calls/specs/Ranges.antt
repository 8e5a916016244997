-- IOVA_RANGES: reserved field 95; no space 2; range area shorter than 16 times count 14. The list is what is not reserved, as the fewest ranges,
-- ascending. Count becomes the full number and alignment is written; as many ranges as count allowed are written; 90 if some had no room.
use Rattle.std.specs.Prelude.{ℕ, ◌≡◌, refl, Bool, true, not, cond, List, [], ◌∷◌, ltb, eqb, length, take, replicate}
use Rattle.lists.specs.Checks.{Check, when, first}
use Rattle.ranges.specs.declared.Range.{Range}
use Rattle.ranges.specs.Ranges.{U64MAX, range}
use Rattle.wire.specs.Fields.{put, field}
use Rattle.freeranges.specs.Free.{between, end_below, start_above, around, without, free_from, free_ranges}
use Rattle.freeranges.specs.Written.{put_ranges}
use Rattle.rules_table.specs.declared.Attachment.TheVariants.{Attached}
use Rattle.rules_table.specs.declared.Kind.TheVariants.{Space, Device}
use Rattle.rules_table.specs.declared.Object.{Object}
use Rattle.rangelists.specs.Listed.{places, listed, ranges_in}
use Rattle.rules_table.specs.Records.{no_reserved, no_allowed, space_at}
use Rattle.rules_table.specs.Spaces.{alignment, reserved_for, reserved_of}
use Rattle.rules_calls.specs.Allow.{no_room}

-- ---- the fields
pub record RangesFields : Type 0 where
  pub space : ℕ
  pub count : ℕ
  pub must_be_zero : ℕ

-- size, space, count, reserved, pointer, alignment
abbrev pub ranges_fields : List ℕ → RangesFields
ranges_fields bytes = record { space = field 4 bytes 4; count = field 4 bytes 8; must_be_zero = field 4 bytes 12 }

-- ---- the rule

-- what a space may use: all that no attached device reserves
unfoldable pub free_of : List Object → ℕ → List Range
free_of os s = free_ranges (reserved_of os s)

unfoldable pub ranges_checks : List Object → RangesFields → ℕ → List (Check ℕ)
ranges_checks os c room =
    when (not (eqb c.must_be_zero 0)) 95
    ∷ when (not (space_at os c.space)) 2
    ∷ no_room room c.count
    ∷ []

-- 0 and 90 write the reply, the others write nothing
unfoldable pub ranges_errno : List Object → RangesFields → List ℕ → ℕ
ranges_errno os c area = first (ranges_checks os c (length area)) (cond (ltb c.count (length (free_of os c.space))) 90 0)

abbrev pub replies_to : ℕ → Bool
replies_to n = cond (eqb n 0) true (eqb n 90)

-- the command's count and alignment fields, and the ranges that had room
unfoldable pub ranges_bytes : List Object → ℕ → List ℕ → List ℕ
ranges_bytes os space bytes = put 8 (put 4 bytes 8 (length (free_of os space))) 24 (alignment os space)

unfoldable pub ranges_area : List Object → ℕ → ℕ → List ℕ → List ℕ
ranges_area os space count area = put_ranges 0 (take count (free_of os space)) area

-- where there is a reply
unfoldable pub ranges_replied : List Object → ℕ → List ℕ → List ℕ
ranges_replied os errno bytes = cond (replies_to errno) (ranges_bytes os (ranges_fields bytes).space bytes) bytes

unfoldable pub ranges_filled : List Object → ℕ → List ℕ → List ℕ → List ℕ
ranges_filled os errno bytes area = cond (replies_to errno) (ranges_area os (ranges_fields bytes).space (ranges_fields bytes).count area) area

-- ---- examples

-- space 1, with an allow list of one page, and device 2, attached to it, that reserves 0xFEE00000 to 0xFEEFFFFF
abbrev listed-space : Object
listed-space = record { kind = Space; bitmap = 0; reserved = no_reserved; allow = record { count = 1; starts = 0x1000 ∷ replicate 7 0; lasts = 0x1FFF ∷ replicate 7 0 } }

abbrev device : Object
device = record { kind = Device (Attached 1); bitmap = 0x1000; reserved = record { count = 1; starts = 0xFEE00000 ∷ replicate 3 0; lasts = 0xFEEFFFFF ∷ replicate 3 0 }; allow = no_allowed }

-- an allow list hides nothing
free-listed : free_of (listed-space ∷ []) 1 ≡ range 0 U64MAX ∷ []
unfolding free_of free_ranges free_from without around end_below start_above between reserved_of reserved_for
free-listed = refl

-- K8: what lies below the reserved range and above it
free-around : free_of (listed-space ∷ device ∷ []) 1 ≡ range 0 0xFEDFFFFF ∷ range 0xFEF00000 U64MAX ∷ []
unfolding free_of free_ranges free_from without around end_below start_above between reserved_of reserved_for ranges_in listed places
free-around = refl
