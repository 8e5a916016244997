-- IOAS_ALLOC: flags 95; no record 12. DESTROY: no object 2; an attached device, or a space with one, 16; a space's mappings go with it.
use Rattle.std.specs.Prelude.{ℕ, ◌-◌, Bool, not, ◌||◌, List, [], ◌∷◌, map, eqb, ◌≡◌, refl}
use Rattle.lists.specs.Search.{any, seek}
use Rattle.lists.specs.Checks.{Check, when, first}
use Rattle.rules_table.specs.declared.Attachment.TheVariants.{Loose, Attached}
use Rattle.rules_table.specs.declared.Attachment.{Attachment}
use Rattle.rules_table.specs.declared.Kind.{Kind}
use Rattle.rules_table.specs.declared.Kind.TheVariants.{Free, Space, Device}
use Rattle.rules_table.specs.declared.Object.{Object}
use Rattle.rules_table.specs.Records.{free_object, new_space, object_at, is_free, is_attached, attached_to, no_reserved, no_allowed}
use Rattle.rules_table.specs.Charge.{free_record}
use Rattle.rules_calls.specs.declared.Change.{Change}
use Rattle.rules_calls.specs.declared.Change.TheVariants.{Put, Drop}
use Rattle.rules_calls.specs.declared.Edit.{Edit}
use Rattle.rules_calls.specs.Edits.{settle, accept, added, no_record}
use Rattle.wire.specs.Fields.{field}

-- ---- the fields. IOAS_ALLOC: size, flags, out id; DESTROY: size, id
abbrev pub alloc_flags : List ℕ → ℕ
alloc_flags bytes = field 4 bytes 4

abbrev pub made_id : List ℕ → ℕ
made_id bytes = field 4 bytes 8

abbrev pub destroy_id : List ℕ → ℕ
destroy_id bytes = field 4 bytes 4

-- ---- the rules

unfoldable pub alloc_checks : List Object → ℕ → List (Check ℕ)
alloc_checks os flags = when (not (eqb flags 0)) 95 ∷ no_record (free_record os) ∷ []

unfoldable pub alloc_edit : List Object → ℕ → Edit
alloc_edit os flags = settle (first (alloc_checks os flags) 0) (added (free_record os) new_space)

-- an attached device, or a space that a device is attached to
unfoldable pub in_use : List Object → ℕ → Bool
in_use os id = is_attached (object_at os id).kind || any (λ o. attached_to id o.kind) os

unfoldable pub destroy_checks : List Object → ℕ → List (Check ℕ)
destroy_checks os id = when (is_free (object_at os id).kind) 2 ∷ when (in_use os id) 16 ∷ []

-- a space goes with its mappings
abbrev pub removal : Kind → ℕ → Change
removal Free i = Put i
removal Space i = Drop i
removal (Device a) i = Put i

unfoldable pub destroy_edit : List Object → ℕ → Edit
destroy_edit os id = settle (first (destroy_checks os id) 0) (accept 0 (removal (object_at os id).kind (id - 1)) free_object)

-- ---- examples: to unfold `makes` is to unfold all that it lists

unfoldable pub makes : List Object → ℕ → Edit
unfolding alloc_edit alloc_checks free_record seek first
makes os flags = alloc_edit os flags

unfoldable pub destroys : List Object → ℕ → Edit
unfolding destroy_edit destroy_checks in_use object_at any first
destroys os id = destroy_edit os id

-- the second record is the lowest free one, its id 2
alloc-lowest : alloc_edit (new_space ∷ free_object ∷ free_object ∷ []) 0 ≡ accept 2 (Put 1) new_space
unfolding makes
alloc-lowest = refl

-- no record; flags; both
alloc-refused : ((alloc_edit (new_space ∷ []) 0).errno ∷ (alloc_edit (free_object ∷ []) 1).errno ∷ (alloc_edit (new_space ∷ []) 1).errno ∷ []) ≡ (12 ∷ 95 ∷ 95 ∷ [])
unfolding makes
alloc-refused = refl

-- spaces 1 and 2 and device 3
abbrev device : Attachment → Object
device a = record { kind = Device a; bitmap = 0x1000; reserved = no_reserved; allow = no_allowed }

abbrev objects_with : Attachment → List Object
objects_with a = new_space ∷ new_space ∷ device a ∷ free_object ∷ []

-- the device is attached to space 2: these two are in use, a released record and ids that no record has are no object
destroy_attached : map (λ (id : ℕ). (destroy_edit (objects_with (Attached 2)) id).errno) (0 ∷ 1 ∷ 2 ∷ 3 ∷ 4 ∷ 5 ∷ []) ≡ (2 ∷ 0 ∷ 16 ∷ 16 ∷ 2 ∷ 2 ∷ [])
unfolding destroys
destroy_attached = refl

-- it is loose
destroy_loose : map (λ (id : ℕ). (destroy_edit (objects_with Loose) id).errno) (1 ∷ 2 ∷ 3 ∷ []) ≡ (0 ∷ 0 ∷ 0 ∷ [])
unfolding destroys
destroy_loose = refl

-- an id that is no object, which a device names as its space: no object comes first
destroy_order : (destroy_edit (objects_with (Attached 4)) 4).errno ≡ 2
unfolding destroys
destroy_order = refl

-- a space goes with its mappings, a device alone
destroy_space : destroy_edit (objects_with (Attached 2)) 1 ≡ accept 0 (Drop 0) free_object
unfolding destroys
destroy_space = refl

destroy_device : destroy_edit (objects_with Loose) 3 ≡ accept 0 (Put 2) free_object
unfolding destroys
destroy_device = refl
