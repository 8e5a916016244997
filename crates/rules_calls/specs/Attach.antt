-- Attach: no device 2; no space 2; already attached 16; a reserved range touches a mapping or the allow list 98; a mapping misfits the new alignment 98.
-- Detach: no device 2; not attached 22.
use Rattle.std.specs.Prelude.{ℕ, ◌-◌, max, Bool, not, ◌&&◌, ◌||◌, List, [], ◌∷◌, map, ◌≡◌, refl, replicate}
use Rattle.lists.specs.Search.{any}
use Rattle.lists.specs.Checks.{Check, when, first}
use Rattle.ranges.specs.declared.Range.{Range}
use Rattle.ranges.specs.Ranges.{share, shared_start, shared_last, last_of, span}
use Rattle.alignment.specs.Multiples.{fits, multiple}
use Rattle.alignment.specs.Pages.{smallest_page}
use Rattle.rangelists.specs.Listed.{reserved, allowed, places, listed, ranges_in}
use Rattle.rules_table.specs.declared.Attachment.{Attachment}
use Rattle.rules_table.specs.declared.Attachment.TheVariants.{Loose, Attached}
use Rattle.rules_table.specs.declared.Kind.TheVariants.{Device, Space}
use Rattle.rules_table.specs.declared.Object.{Object}
use Rattle.rules_table.specs.declared.Mapping.{Mapping}
use Rattle.rules_table.specs.Records.{object_at, space_at, is_device, is_attached, of_space, extent, no_reserved, no_allowed, new_space}
use Rattle.rules_table.specs.Spaces.{alignment, page_for}
use Rattle.rules_table.specs.Good.{lists_touch}
use Rattle.rules_calls.specs.declared.Change.TheVariants.{Put}
use Rattle.rules_calls.specs.declared.Edit.{Edit}
use Rattle.rules_calls.specs.Edits.{settle, accept}
use Rattle.std.specs.Int.Count.{count_trailing_zeros}
use Rattle.alignment.specs.Highest.{highest}

-- a mapping of the space that shares an address with one of the ranges
unfoldable pub blocked_by : ℕ → List Range → Mapping → Bool
blocked_by s rs m = of_space s m && any (share (extent m)) rs

-- a mapping of the space that does not fit the alignment
unfoldable pub misfits : ℕ → ℕ → Mapping → Bool
misfits s a m = of_space s m && not (fits a m.address m.length)

-- the alignment of the space with the device: the higher of the old and the device's smallest page
unfoldable pub alignment_with : List Object → ℕ → Object → ℕ
alignment_with os s o = max (smallest_page o.bitmap) (alignment os s)

unfoldable pub attached_object : Object → ℕ → Object
attached_object o s = record { kind = Device (Attached s); bitmap = o.bitmap; reserved = o.reserved; allow = o.allow }

unfoldable pub loose_object : Object → Object
loose_object o = record { kind = Device Loose; bitmap = o.bitmap; reserved = o.reserved; allow = o.allow }

unfoldable pub attach_checks : List Object → List Mapping → Object → ℕ → List (Check ℕ)
attach_checks os ms o s =
    when (not (is_device o.kind)) 2
    ∷ when (not (space_at os s)) 2
    ∷ when (is_attached o.kind) 16
    ∷ when (any (blocked_by s (reserved o.reserved)) ms || lists_touch (reserved o.reserved) (allowed (object_at os s).allow)) 98
    ∷ when (any (misfits s (alignment_with os s o)) ms) 98
    ∷ []

unfoldable pub attach_edit : List Object → List Mapping → ℕ → ℕ → Edit
attach_edit os ms d s = settle (first (attach_checks os ms (object_at os d) s) 0) (accept 0 (Put (d - 1)) (attached_object (object_at os d) s))

unfoldable pub detach_checks : Object → List (Check ℕ)
detach_checks o = when (not (is_device o.kind)) 2 ∷ when (not (is_attached o.kind)) 22 ∷ []

unfoldable pub detach_edit : List Object → ℕ → Edit
detach_edit os d = settle (first (detach_checks (object_at os d)) 0) (accept 0 (Put (d - 1)) (loose_object (object_at os d)))

-- ---- examples: to unfold `attaches` is to unfold all that it lists

unfoldable pub attaches : List Object → List Mapping → ℕ → ℕ → Edit
unfolding attach_edit attach_checks first object_at space_at any blocked_by misfits alignment_with alignment highest page_for smallest_page count_trailing_zeros multiple fits of_space extent span last_of share shared_start shared_last lists_touch ranges_in listed places attached_object detach_edit detach_checks loose_object
attaches os ms d s = attach_edit os ms d s

-- the plan's device, which reserves 0xFEE00000 to 0xFEEFFFFF, with pages from a size on
abbrev device : Attachment → ℕ → Object
device a page = record { kind = Device a; bitmap = page; reserved = record { count = 1; starts = 0xFEE00000 ∷ replicate 3 0; lasts = 0xFEEFFFFF ∷ replicate 3 0 }; allow = no_allowed }

-- space 1, the loose device 2 with pages of 4,096, device 3 that is attached to space 4, and space 4 with an allow list that ends at an address
abbrev objects : ℕ → List Object
objects last =
    new_space ∷ device Loose 0x1000 ∷ device (Attached 4) 1
    ∷ record { kind = Space; bitmap = 0; reserved = no_reserved; allow = record { count = 1; starts = 0 ∷ replicate 7 0; lasts = last ∷ replicate 7 0 } }
    ∷ []

-- a mapping of space s: n bytes at address a
abbrev at : ℕ → ℕ → ℕ → Mapping
at s n a = record { space = s; rights = 2; founder = 0; backing = 1; address = a; length = n; memory = 0 }

-- the errno, by the mappings, the device and the space
abbrev errno_of : List Mapping → ℕ → ℕ → ℕ
errno_of ms d s = (attach_edit (objects 0xFFF) ms d s).errno

-- the device becomes one that is attached
attach_plan : attach_edit (objects 0xFFF) (at 1 0x1000 0 ∷ []) 2 1 ≡ accept 0 (Put 1) (device (Attached 1) 0x1000)
unfolding attaches
attach_plan = refl

-- no device: a space, ids that no record has; no space: a device, an id that no record has
attach_devices : map (λ (d : ℕ). errno_of [] d 1) (0 ∷ 1 ∷ 2 ∷ 5 ∷ []) ≡ (2 ∷ 2 ∷ 0 ∷ 2 ∷ [])
unfolding attaches
attach_devices = refl

attach_spaces : map (errno_of [] 2) (0 ∷ 1 ∷ 2 ∷ 5 ∷ []) ≡ (2 ∷ 0 ∷ 2 ∷ 2 ∷ [])
unfolding attaches
attach_spaces = refl

-- already attached: to this space, to another; but no space comes first, and a mapping in a reserved range after it
attach_twice : (errno_of [] 3 4 ∷ errno_of [] 3 1 ∷ errno_of [] 3 2 ∷ errno_of (at 1 1 0xFEE00000 ∷ []) 3 1 ∷ []) ≡ (16 ∷ 16 ∷ 2 ∷ 16 ∷ [])
unfolding attaches
attach_twice = refl

-- a page before the reserved range, its first and last page, the page after it; a page of another space
attach_mapped : map (λ (a : ℕ). errno_of (at 1 0x1000 a ∷ []) 2 1) (0xFEDFF000 ∷ 0xFEE00000 ∷ 0xFEEFF000 ∷ 0xFEF00000 ∷ []) ≡ (0 ∷ 98 ∷ 98 ∷ 0 ∷ [])
unfolding attaches
attach_mapped = refl

attach_elsewhere : errno_of (at 4 0x1000 0xFEE00000 ∷ []) 2 1 ≡ 0
unfolding attaches
attach_elsewhere = refl

-- the allow list ends before the reserved range, and at its first address; the list of another space is not asked
attach_allowed : map (λ (last : ℕ). (attach_edit (objects last) [] 2 4).errno) (0xFEDFFFFF ∷ 0xFEE00000 ∷ []) ≡ (0 ∷ 98 ∷ [])
unfolding attaches
attach_allowed = refl

attach_list_elsewhere : (attach_edit (objects 0xFEE00000) [] 2 1).errno ≡ 0
unfolding attaches
attach_list_elsewhere = refl

-- a mapping that ends, or starts, at no multiple of the device's page; one of another space
attach_misfits : (errno_of (at 1 0x1001 0x1000 ∷ []) 2 1 ∷ errno_of (at 1 0xFFF 0x1001 ∷ []) 2 1 ∷ errno_of (at 1 0x1000 0x1000 ∷ []) 2 1 ∷ errno_of (at 4 0x1001 0x1000 ∷ []) 2 1 ∷ []) ≡ (98 ∷ 98 ∷ 0 ∷ 0 ∷ [])
unfolding attaches
attach_misfits = refl

-- the higher of the old alignment and the device's page
with_device-alignment : (alignment_with (objects 0xFFF) 1 (device Loose 0x1000) ∷ alignment_with (device (Attached 1) 0x1000 ∷ []) 1 (device Loose 0x10) ∷ []) ≡ (0x1000 ∷ 0x1000 ∷ [])
unfolding attaches
with_device-alignment = refl

-- detach: a space and an id that no record has are no device; device 2 is loose; device 3 is attached
detach_errnos : map (λ (d : ℕ). (detach_edit (objects 0xFFF) d).errno) (1 ∷ 5 ∷ 2 ∷ 3 ∷ []) ≡ (2 ∷ 2 ∷ 22 ∷ 0 ∷ [])
unfolding attaches
detach_errnos = refl

detach_loose : detach_edit (objects 0xFFF) 3 ≡ accept 0 (Put 2) (device Loose 1)
unfolding attaches
detach_loose = refl
