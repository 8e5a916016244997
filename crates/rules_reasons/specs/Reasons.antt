-- Say what stood in the way (L1): the first failing check of a MAP or a COPY by its name. For a touched range it is named with the object or the mapping record that has
-- the lowest number; for 28 with the longest free run. The names stand beside the checks of the commands, in their order.
use Rattle.std.specs.Prelude.{ℕ, ◌+◌, ◌^◌, ◌≡◌, refl, Bool, true, false, cond, List, [], ◌∷◌, ◌++◌, map, replicate, Some, Option, None}
use Rattle.lists.specs.Search.{any, seek}
use Rattle.lists.specs.Checks.{Check, when, first}
use Rattle.ranges.specs.declared.Range.{Range}
use Rattle.ranges.specs.Ranges.{U64MAX, share, span}
use Rattle.alignment.specs.Multiples.{lowest_multiple}
use Rattle.rangelists.specs.Listed.{allowed}
use Rattle.runs.specs.declared.Run.{Run}
use Rattle.runs.specs.Runs.{run, ahead, cut_at, free_to, run_from, over, past_range, in_window, windows, longest_of}
use Rattle.rules_table.specs.declared.Attachment.TheVariants.{Attached}
use Rattle.rules_table.specs.Flags.{fixed}
use Rattle.rules_table.specs.declared.Object.{Object}
use Rattle.rules_table.specs.declared.Mapping.{Mapping}
use Rattle.rules_table.specs.Records.{object_at, touches, no_reserved, no_allowed, new_space, zero_mapping}
use Rattle.rules_table.specs.Spaces.{alignment, reserved_for}
use Rattle.rules_table.specs.declared.Kind.TheVariants.{Space, Device}
use Rattle.rules_calls.specs.Edits.{number_in}
use Rattle.rules_calls.specs.Landing.{blocked_in, lowest_tried}
use Rattle.rules_calls.specs.Map.{MapFields, map_checks, mapping}
use Rattle.rules_calls.specs.Copy.{CopyFields, copy_checks, copies}
use Rattle.rules_reasons.specs.declared.Reason.{Reason}
use Rattle.rules_reasons.specs.declared.Reason.TheVariants.{Accepted, NoSizeField, SizeTooSmall, SizePastBytes, TailNotZero, Flags, NoRight, WrongLength, MemoryPasses, SourcePasses, AddressPasses, NoSpace, NoSourceSpace, NoSource, NotWriteable, Misaligned, TouchesReserved, TouchesMapping, LengthMisaligned, NoPlace, NoRecord, OverLimit}

-- the errno of each
abbrev pub reason_errno : Reason → ℕ
reason_errno Accepted = 0
reason_errno NoSizeField = 14
reason_errno SizeTooSmall = 22
reason_errno SizePastBytes = 14
reason_errno TailNotZero = 7
reason_errno Flags = 95
reason_errno NoRight = 22
reason_errno WrongLength = 22
reason_errno MemoryPasses = 75
reason_errno SourcePasses = 75
reason_errno AddressPasses = 75
reason_errno NoSpace = 2
reason_errno NoSourceSpace = 2
reason_errno NoSource = 2
reason_errno NotWriteable = 1
reason_errno Misaligned = 22
reason_errno (TouchesReserved id) = 22
reason_errno (TouchesMapping r) = 17
reason_errno LengthMisaligned = 22
reason_errno (NoPlace run) = 28
reason_errno NoRecord = 12
reason_errno OverLimit = 12

-- checks that answer by name: each with the name that stands at its place
unfoldable pub named : {A R : Type 0} → List (Check A) → List R → List (Check R)
named [] rs = []
named (c ∷ cs) [] = []
named (c ∷ cs) (r ∷ rs) = when c.fires r ∷ named cs rs

-- ---- what is named with a place

-- the lowest number, from 1 on, of what passes a test; 0 where nothing does
unfoldable pub lowest_number : {A : Type 0} → (A → Bool) → List A → ℕ
lowest_number p xs = number_in (seek p 1 xs)

-- the object that reserves an address of the range in space s
unfoldable pub object_touched : List Object → ℕ → Range → ℕ
object_touched os s r = lowest_number (λ (o : Object). any (share r) (reserved_for s o)) os

-- the record of the mapping of space s that has an address of the range
unfoldable pub record_touched : List Mapping → ℕ → Range → ℕ
record_touched ms s r = lowest_number (touches s r) ms

-- the longest free run of space s
unfoldable pub longest_in : List Object → List Mapping → ℕ → Option Run
longest_in os ms s = longest_of (alignment os s) lowest_tried (blocked_in os ms s) (allowed (object_at os s).allow)

-- ---- the names, list by list as the checks

abbrev pub open_names : List Reason
open_names = NoSizeField ∷ SizeTooSmall ∷ SizePastBytes ∷ TailNotZero ∷ []

abbrev pub map_number_names : List Reason
map_number_names = Flags ∷ NoRight ∷ WrongLength ∷ MemoryPasses ∷ AddressPasses ∷ NoSpace ∷ []

abbrev pub copy_number_names : List Reason
copy_number_names = Flags ∷ NoRight ∷ WrongLength ∷ SourcePasses ∷ AddressPasses ∷ NoSpace ∷ NoSourceSpace ∷ []

abbrev pub source_names : List Reason
source_names = NoSource ∷ NotWriteable ∷ []

unfoldable pub place_names : List Object → List Mapping → ℕ → Bool → ℕ → ℕ → List Reason
place_names os ms s fixed n x =
    cond fixed
    (Misaligned ∷ TouchesReserved (object_touched os s (span x n)) ∷ TouchesMapping (record_touched ms s (span x n)) ∷ [])
    (LengthMisaligned ∷ NoPlace (longest_in os ms s) ∷ [])

abbrev pub room_names : List Reason
room_names = NoRecord ∷ OverLimit ∷ []

abbrev pub record_names : List Reason
record_names = NoRecord ∷ []

unfoldable pub map_names : List Object → List Mapping → MapFields → List Reason
map_names os ms c = map_number_names ++ (place_names os ms c.space (fixed c.flags) c.length c.address ++ room_names)

unfoldable pub copy_names : List Object → List Mapping → CopyFields → List Reason
copy_names os ms c = copy_number_names ++ (source_names ++ (place_names os ms c.target (fixed c.flags) c.length c.address ++ record_names))

-- ---- the reason

unfoldable pub map_reason : ℕ → List Object → List Mapping → MapFields → Reason
map_reason limit os ms c = first (named (map_checks limit os ms c) (map_names os ms c)) Accepted

unfoldable pub copy_reason : List Object → List Mapping → CopyFields → Reason
copy_reason os ms c = first (named (copy_checks os ms c) (copy_names os ms c)) Accepted

-- ---- examples: to unfold `reasons` is to unfold all that it lists

unfoldable pub reasons : ℕ → List Object → List Mapping → MapFields → Reason
unfolding map_reason copy_reason map_names copy_names place_names named lowest_number object_touched record_touched longest_in longest_of windows in_window past_range over run_from free_to cut_at ahead lowest_multiple mapping copies
reasons limit os ms c = map_reason limit os ms c

-- a space with an allow list of one range, or without one; a device of 4 KiB pages that is attached to space 1 and reserves a range
abbrev space : ℕ → ℕ → ℕ → Object
space count start last = record { kind = Space; bitmap = 0; reserved = no_reserved; allow = record { count = count; starts = start ∷ replicate 7 0; lasts = last ∷ replicate 7 0 } }

abbrev device : ℕ → ℕ → Object
device start last = record { kind = Device (Attached 1); bitmap = 0x1000; reserved = record { count = 1; starts = start ∷ replicate 3 0; lasts = last ∷ replicate 3 0 }; allow = no_allowed }

-- a mapping of space 1: n bytes at address a
abbrev at : ℕ → ℕ → Mapping
at n a = record { space = 1; rights = 2; founder = 0; backing = 1; address = a; length = n; memory = 0 }

-- why a MAP in space 1 is refused in a table of the limit 4: by flags, memory, length and address
abbrev why : List Object → List Mapping → ℕ → ℕ → ℕ → ℕ → Reason
why os ms flags memory n x = map_reason 4 os ms (record { flags = flags; space = 1; must_be_zero = 0; memory = memory; length = n; address = x })

-- in an empty space: unknown flags, no right, length 0, memory and address past the last; no such space; and what is accepted
why-number : (why (new_space ∷ []) (zero_mapping ∷ []) 8 0 1 0 ∷ why (new_space ∷ []) (zero_mapping ∷ []) 1 0 1 0 ∷ why (new_space ∷ []) (zero_mapping ∷ []) 4 0 0 0 ∷ why (new_space ∷ []) (zero_mapping ∷ []) 4 U64MAX 2 0 ∷ why (new_space ∷ []) (zero_mapping ∷ []) 5 0 2 U64MAX ∷ why [] (zero_mapping ∷ []) 4 0 1 0 ∷ why (new_space ∷ []) (zero_mapping ∷ []) 4 0 1 0 ∷ [])
    ≡ (Flags ∷ NoRight ∷ WrongLength ∷ MemoryPasses ∷ AddressPasses ∷ NoSpace ∷ Accepted ∷ [])
unfolding reasons
why-number = refl

-- fixed, over two devices' ranges: that of the lower id, though its range lies higher; over one mapping; over two: the lower record, though its address is higher
why-fixed : (why (new_space ∷ device 0x3000 0x3FFF ∷ device 0x2000 0x2FFF ∷ []) [] 5 0 0x1001 0 ∷ why (new_space ∷ device 0x3000 0x3FFF ∷ device 0x2000 0x2FFF ∷ []) [] 5 0 0x4000 0 ∷ why (new_space ∷ device 0x3000 0x3FFF ∷ device 0x2000 0x2FFF ∷ []) [] 5 0 0x1000 0x2000 ∷ why (new_space ∷ []) (zero_mapping ∷ at 16 32 ∷ at 16 0 ∷ []) 5 0 1 15 ∷ why (new_space ∷ []) (zero_mapping ∷ at 16 32 ∷ at 16 0 ∷ []) 5 0 64 0 ∷ [])
    ≡ (Misaligned ∷ TouchesReserved 2 ∷ TouchesReserved 3 ∷ TouchesMapping 3 ∷ TouchesMapping 2 ∷ [])
unfolding reasons
why-fixed = refl

-- automatic: a length that is no multiple; no place. The longest run lies in the list and past the mapping; with the list mapped whole there is none
why-place : (why (new_space ∷ device 0x3000 0x3FFF ∷ []) [] 4 0 1 7 ∷ why (space 1 0x100000 0x1FFFFF ∷ []) (at 0x1000 0x100000 ∷ []) 4 0 0x100000 7 ∷ why (space 1 0x100000 0x1FFFFF ∷ []) (at 0x100000 0x100000 ∷ []) 4 0 1 7 ∷ [])
    ≡ (LengthMisaligned ∷ NoPlace (Some (run 0x101000 0xFEFFF)) ∷ NoPlace None ∷ [])
unfolding reasons
why-place = refl

-- no free record; a charge of 5 pages where the limit is 4
why-room : (why (new_space ∷ []) (at 1 0 ∷ []) 4 0 1 7 ∷ why (new_space ∷ []) (zero_mapping ∷ []) 4 0 0x4001 7 ∷ []) ≡ (NoRecord ∷ OverLimit ∷ [])
unfolding reasons
why-room = refl

-- why a COPY in space 1 of its two bytes at 16, which were mapped readable, is refused: by flags, target, source, length, target address and source address
abbrev why_copy : ℕ → ℕ → ℕ → ℕ → ℕ → ℕ → Reason
why_copy flags target source n x y = copy_reason (new_space ∷ []) (at 2 16 ∷ zero_mapping ∷ []) (record { flags = flags; target = target; source = source; length = n; address = x; origin = y })

why-copy : (why_copy 4 1 1 2 0 U64MAX ∷ why_copy 4 2 2 2 0 16 ∷ why_copy 4 1 2 2 0 16 ∷ why_copy 4 1 1 1 0 16 ∷ why_copy 6 1 1 2 0 16 ∷ why_copy 5 1 1 2 17 16 ∷ why_copy 4 1 1 2 0 16 ∷ [])
    ≡ (SourcePasses ∷ NoSpace ∷ NoSourceSpace ∷ NoSource ∷ NotWriteable ∷ TouchesMapping 1 ∷ Accepted ∷ [])
unfolding reasons
why-copy = refl
