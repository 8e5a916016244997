-- Reach, read or write: no device 2; not attached 22; length 0: 22; past U64MAX 75; not wholly inside one mapping 14; right missing 1; else memory start +
-- (address - mapping address).
use Rattle.std.specs.Prelude.{ℕ, ◌+◌, ◌-◌, Bool, true, false, not, ◌&&◌, List, [], ◌∷◌, ◌++◌, map, eqb, ◌≡◌, refl, Option, None, Some}
use Rattle.lists.specs.Search.{find}
use Rattle.lists.specs.Checks.{Check, when, first}
use Rattle.ranges.specs.declared.Range.{Range}
use Rattle.ranges.specs.Ranges.{inside, passes, span, U64MAX, last_of}
use Rattle.rules_table.specs.declared.Attachment.TheVariants.{Loose, Attached}
use Rattle.rules_table.specs.declared.Attachment.{Attachment}
use Rattle.rules_table.specs.declared.Kind.{Kind}
use Rattle.rules_table.specs.declared.Object.{Object}
use Rattle.rules_table.specs.declared.Mapping.{Mapping}
use Rattle.rules_table.specs.Records.{object_at, is_device, is_attached, home_of, of_space, extent, can_write, can_read, no_reserved, no_allowed, new_space}
use Rattle.rules_calls.specs.declared.Edit.{Edit}
use Rattle.rules_calls.specs.Edits.{refuse, tells, settle, is_none}
use Rattle.rules_table.specs.Flags.{bit}
use Rattle.rules_table.specs.declared.Kind.TheVariants.{Device}

-- the mapping of the space that holds the whole interval
unfoldable pub around : List Mapping → ℕ → Range → Option Mapping
around ms s r = find (λ m. of_space s m && inside r (extent m)) ms

abbrev pub may_do : Bool → Mapping → Bool
may_do true m = can_write m
may_do false m = can_read m

-- what is asked: no device 2; not attached 22; length 0: 22; past U64MAX 75
unfoldable pub reach_checks : Kind → ℕ → ℕ → List (Check ℕ)
reach_checks k a n =
    when (not (is_device k)) 2
    ∷ when (not (is_attached k)) 22
    ∷ when (eqb n 0) 22
    ∷ when (passes a n) 75
    ∷ []

-- what is there: not wholly inside one mapping 14; right missing 1
abbrev pub lacks_right : Bool → Option Mapping → Bool
lacks_right write None = false
lacks_right write (Some m) = not (may_do write m)

unfoldable pub held_checks : Bool → Option Mapping → List (Check ℕ)
held_checks write o =
    when (is_none o) 14
    ∷ when (lacks_right write o) 1
    ∷ []

-- else memory start + (address - mapping address)
abbrev pub memory_at : ℕ → Option Mapping → ℕ
memory_at a None = 0
memory_at a (Some m) = m.memory + (a - m.address)

unfoldable pub reach_by : Kind → ℕ → ℕ → Bool → Option Mapping → Edit
reach_by k a n write o = settle (first (reach_checks k a n ++ held_checks write o) 0) (tells (memory_at a o))

-- reach changes nothing: its edit carries the address, and 0 beside a refusal
unfoldable pub reach_of : List Object → List Mapping → ℕ → ℕ → ℕ → Bool → Edit
reach_of os ms d a n write = reach_by (object_at os d).kind a n write (around ms (home_of (object_at os d).kind) (span a n))

-- ---- examples: to unfold `reaches` is to unfold all that it lists

unfoldable pub reaches : List Object → List Mapping → ℕ → ℕ → ℕ → Bool → Edit
unfolding reach_of reach_by reach_checks held_checks first object_at around find of_space extent inside span last_of passes can_write can_read bit
reaches os ms d a n write = reach_of os ms d a n write

-- spaces 1 and 2, device 3 that is attached to space 2, and the loose device 4
abbrev device : Attachment → Object
device a = record { kind = Device a; bitmap = 0x1000; reserved = no_reserved; allow = no_allowed }

abbrev objects : List Object
objects = new_space ∷ new_space ∷ device (Attached 2) ∷ device Loose ∷ []

-- n bytes of space s at address a, of memory from 0x10000 on; rights 1 are to write, 2 to read
abbrev at : ℕ → ℕ → ℕ → ℕ → Mapping
at s rights n a = record { space = s; rights = rights; founder = 1; backing = 1; address = a; length = n; memory = 0x10000 }

-- the errno of a device's reach for reading, by the mappings, device, address and length
abbrev errno_of : List Mapping → ℕ → ℕ → ℕ → ℕ
errno_of ms d a n = (reach_of objects ms d a n false).errno

-- 100 bytes, 16 bytes into the page at 0x2000, for reading: at the same place of the memory; for writing: the page is readable alone
reach-read : reach_of objects (at 2 2 0x1000 0x2000 ∷ []) 3 0x2010 100 false ≡ tells 0x10010
unfolding reaches
reach-read = refl

reach-write : reach_of objects (at 2 2 0x1000 0x2000 ∷ []) 3 0x2010 100 true ≡ refuse 1
unfolding reaches
reach-write = refl

-- of a page that is writeable alone
reach-writeable : ((reach_of objects (at 2 1 0x1000 0x2000 ∷ []) 3 0x2010 100 false).errno ∷ (reach_of objects (at 2 1 0x1000 0x2000 ∷ []) 3 0x2010 100 true).errno ∷ []) ≡ (1 ∷ 0 ∷ [])
unfolding reaches
reach-writeable = refl

-- up to the last byte of the page, and one further; from its first byte on, and one before
reach-ends : map (λ (a : ℕ). errno_of (at 2 2 0x1000 0x2000 ∷ []) 3 a 100) (0x2F9C ∷ 0x2F9D ∷ 0x2000 ∷ 0x1FFF ∷ []) ≡ (0 ∷ 14 ∷ 0 ∷ 14 ∷ [])
unfolding reaches
reach-ends = refl

-- two mappings side by side are not one; a mapping of another space is not reached
reach-one : (errno_of (at 2 2 50 0 ∷ at 2 2 50 50 ∷ []) 3 0 100 ∷ errno_of (at 2 2 100 0 ∷ []) 3 0 100 ∷ errno_of (at 1 2 100 0 ∷ []) 3 0 100 ∷ []) ≡ (14 ∷ 0 ∷ 14 ∷ [])
unfolding reaches
reach-one = refl

-- no device: a space, an id that no record has; not attached
reach-devices : map (λ (d : ℕ). errno_of (at 2 2 100 0 ∷ []) d 0 100) (1 ∷ 5 ∷ 4 ∷ 3 ∷ []) ≡ (2 ∷ 2 ∷ 22 ∷ 0 ∷ [])
unfolding reaches
reach-devices = refl

-- length 0; one byte and two from the last address on
reach-numbers : map (errno_of (at 2 2 1 U64MAX ∷ []) 3 U64MAX) (0 ∷ 1 ∷ 2 ∷ []) ≡ (22 ∷ 0 ∷ 75 ∷ [])
unfolding reaches
reach-numbers = refl

-- two checks fire, and the first answers: device and length; attachment and sum; sum and mapping; mapping and right
reach-order : (errno_of [] 1 0 0 ∷ errno_of [] 4 U64MAX 2 ∷ errno_of [] 3 U64MAX 2 ∷ errno_of (at 2 1 100 0 ∷ []) 3 0 101 ∷ []) ≡ (2 ∷ 22 ∷ 75 ∷ 14 ∷ [])
unfolding reaches
reach-order = refl
