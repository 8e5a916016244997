-- Bind: bitmap 0, or its lowest bit above 4,096: 22; over 4 ranges 22; a start above its last 22; no record 12.
use Rattle.std.specs.Prelude.{ℕ, zero, suc, List, [], ◌∷◌, ◌++◌, map, ◌≡◌, refl}
use Rattle.lists.specs.Checks.{Check, first}
use Rattle.rules_table.specs.declared.Attachment.TheVariants.{Loose}
use Rattle.rules_table.specs.declared.Kind.TheVariants.{Device}
use Rattle.rules_table.specs.declared.Object.{Object}
use Rattle.rules_table.specs.Records.{no_allowed, no_reserved, new_space, free_object}
use Rattle.rules_table.specs.Charge.{free_record}
use Rattle.rules_table.specs.Fits.{bind_checks}
use Rattle.rules_calls.specs.declared.Edit.{Edit}
use Rattle.rules_calls.specs.Edits.{settle, no_record, added, accept}
use Rattle.std.specs.Int.Count.{count_trailing_zeros}
use Rattle.lists.specs.Search.{all, seek}
use Rattle.alignment.specs.Pages.{smallest_page}
use Rattle.rangelists.specs.Listed.{Reserved, places, listed, ordered, valid, ranges_in}
use Rattle.rules_calls.specs.declared.Change.TheVariants.{Put}

-- the first n numbers, with zero in every place after them
unfoldable pub only_first : ℕ → List ℕ → List ℕ
only_first n [] = []
only_first zero (x ∷ xs) = 0 ∷ only_first zero xs
only_first (suc n) (x ∷ xs) = x ∷ only_first n xs

-- the ranges in use, with zero in the places beyond the count, whatever was passed there
unfoldable pub trimmed : Reserved → Reserved
trimmed l = record { count = l.count; starts = only_first l.count l.starts; lasts = only_first l.count l.lasts }

unfoldable pub new_device : ℕ → Reserved → Object
new_device bitmap l = record { kind = Device Loose; bitmap = bitmap; reserved = trimmed l; allow = no_allowed }

-- what bind refuses of a device's fields, which 117 asks too, then: no record 12
unfoldable pub bind_rule : List Object → ℕ → Reserved → List (Check ℕ)
bind_rule os bitmap l = bind_checks bitmap l ++ no_record (free_record os) ∷ []

unfoldable pub bind_edit : List Object → ℕ → Reserved → Edit
bind_edit os bitmap l = settle (first (bind_rule os bitmap l) 0) (added (free_record os) (new_device bitmap l))

-- ---- examples: to unfold `binds` is to unfold all that it lists

unfoldable pub binds : List Object → ℕ → Reserved → Edit
unfolding bind_edit bind_rule bind_checks first smallest_page count_trailing_zeros ranges_in listed places ordered valid all new_device trimmed only_first free_record seek
binds os bitmap l = bind_edit os bitmap l

-- so many ranges, of which the first is given; 7 is in every other place
abbrev ranges : ℕ → ℕ → ℕ → Reserved
ranges count start last = record { count = count; starts = start ∷ 7 ∷ 7 ∷ 7 ∷ []; lasts = last ∷ 7 ∷ 7 ∷ 7 ∷ [] }

-- space 1 and a free record
abbrev errno_of : ℕ → Reserved → ℕ
errno_of bitmap l = (bind_edit (new_space ∷ free_object ∷ []) bitmap l).errno

abbrev plan_device : Object
plan_device = record {
  kind = Device Loose;
  bitmap = 0x1000;
  reserved = record { count = 1; starts = 0xFEE00000 ∷ 0 ∷ 0 ∷ 0 ∷ []; lasts = 0xFEEFFFFF ∷ 0 ∷ 0 ∷ 0 ∷ [] };
  allow = no_allowed;
}

-- the plan's device takes the lowest free record and its id, loose; the places that it does not use are zero
bind_plan : bind_edit (new_space ∷ free_object ∷ free_object ∷ []) 0x1000 (ranges 1 0xFEE00000 0xFEEFFFFF) ≡ accept 2 (Put 1) plan_device
unfolding binds
bind_plan = refl

-- no page; pages of 1, of 4,096, of 8,192; of 4,096 and 8,192
bind_pages : map (λ (bitmap : ℕ). errno_of bitmap no_reserved) (0 ∷ 1 ∷ 0x1000 ∷ 0x2000 ∷ 0x3000 ∷ []) ≡ (22 ∷ 0 ∷ 0 ∷ 22 ∷ 0 ∷ [])
unfolding binds
bind_pages = refl

-- four ranges, and five
bind_count : map (λ (count : ℕ). errno_of 0x1000 (ranges count 0 1)) (4 ∷ 5 ∷ []) ≡ (0 ∷ 22 ∷ [])
unfolding binds
bind_count = refl

-- a start at its last, above its last, and above its last in a place that is not used
bind_ordered : (errno_of 0x1000 (ranges 1 1 1) ∷ errno_of 0x1000 (ranges 1 2 1) ∷ errno_of 0x1000 (ranges 0 2 1) ∷ []) ≡ (0 ∷ 22 ∷ 0 ∷ [])
unfolding binds
bind_ordered = refl

-- no record; and no page
bind_full : map (λ (bitmap : ℕ). (bind_edit (new_space ∷ []) bitmap no_reserved).errno) (0x1000 ∷ 0 ∷ []) ≡ (12 ∷ 22 ∷ [])
unfolding binds
bind_full = refl
