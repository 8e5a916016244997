-- UNMAP: length 0: 22; address + length - 1 past U64MAX: 75; no such space: 2. Address 0 with length U64MAX removes all mappings of the space, also one at the last
-- address, and succeeds on none. Otherwise a mapping that shares an address with the range and is not wholly inside it: 2; none inside: 2; else all inside go.
use Rattle.std.specs.Prelude.{ℕ, List, [], ◌∷◌, ◌++◌, Bool, not, ◌&&◌, cond, eqb, ◌≡◌, refl}
use Rattle.lists.specs.Sums.{sum_of, keep}
use Rattle.ranges.specs.declared.Range.{Range}
use Rattle.rules_table.specs.declared.Mapping.{Mapping}
use Rattle.rules_table.specs.Records.{within, free_object, space_at, cut_by, object_at, new_space, of_space, extent, touches}
use Rattle.lists.specs.Search.{any}
use Rattle.lists.specs.Checks.{Check, when, first}
use Rattle.ranges.specs.Ranges.{U64MAX, range, passes, span, shared_start, shared_last, share, inside, last_of}
use Rattle.rules_table.specs.declared.Object.{Object}
use Rattle.rules_calls.specs.declared.Change.TheVariants.{Clear}
use Rattle.rules_calls.specs.declared.Edit.{Edit}
use Rattle.rules_calls.specs.Edits.{accept, settle, refuse}
use Rattle.wire.specs.Fields.{field}

-- ---- the fields
pub record UnmapFields : Type 0 where
  pub space : ℕ
  pub address : ℕ
  pub length : ℕ

-- size, space, address, length
abbrev pub unmap_fields : List ℕ → UnmapFields
unmap_fields bytes = record { space = field 4 bytes 4; address = field 8 bytes 8; length = field 8 bytes 16 }

-- ---- the rule

-- the lengths of the mappings of space s that lie wholly inside r
unfoldable pub removed_bytes : ℕ → Range → List Mapping → ℕ
removed_bytes s r ms = sum_of (λ (m : Mapping). m.length) (keep (within s r) ms)

-- the remove-all form
unfoldable pub asks_all : ℕ → ℕ → Bool
asks_all a n = eqb a 0 && eqb n U64MAX

-- the range asked: every address in the remove-all form
unfoldable pub range_asked : ℕ → ℕ → Range
range_asked a n = cond (asks_all a n) (range 0 U64MAX) (span a n)

unfoldable pub unmap_number_checks : List Object → UnmapFields → List (Check ℕ)
unmap_number_checks os c =
    when (eqb c.length 0) 22
    ∷ when (passes c.address c.length) 75
    ∷ when (not (space_at os c.space)) 2
    ∷ []

-- a mapping is cut: 2; none inside: 2, but for the remove-all form. Nothing is removed before it is known that none is cut
unfoldable pub removal_by : Bool → Bool → Bool → List (Check ℕ)
removal_by all cut some =
    when cut 2
    ∷ when (not all && not some) 2
    ∷ []

unfoldable pub removal_checks : List Mapping → ℕ → ℕ → ℕ → List (Check ℕ)
removal_checks ms s a n = removal_by (asks_all a n) (any (cut_by s (range_asked a n)) ms) (any (within s (range_asked a n)) ms)

unfoldable pub unmap_checks : List Object → List Mapping → UnmapFields → List (Check ℕ)
unmap_checks os ms c = unmap_number_checks os c ++ removal_checks ms c.space c.address c.length

-- the reply is the bytes removed
unfoldable pub unmap_edit : List Object → List Mapping → UnmapFields → Edit
unmap_edit os ms c =
    settle (first (unmap_checks os ms c) 0)
    (accept (removed_bytes c.space (range_asked c.address c.length) ms) (Clear c.space (range_asked c.address c.length)) free_object)

-- ---- examples: to unfold `removes` is to unfold all that it lists

-- the edit by the numbers of the fields
abbrev edit_of : List Object → List Mapping → ℕ → ℕ → ℕ → Edit
edit_of os ms s a n = unmap_edit os ms (record { space = s; address = a; length = n })

unfoldable pub removes : List Object → List Mapping → ℕ → ℕ → ℕ → Edit
unfolding unmap_edit unmap_checks unmap_number_checks first passes space_at object_at removal_checks removal_by asks_all range_asked cut_by touches within of_space extent any share shared_start shared_last inside span last_of removed_bytes sum_of keep
removes os ms s a n = edit_of os ms s a n

-- a mapping of space s: n bytes at address a
abbrev at : ℕ → ℕ → ℕ → Mapping
at s n a = record { space = s; rights = 2; founder = 0; backing = 1; address = a; length = n; memory = 0 }

-- UNMAP in space 1, the one space
abbrev unmap_of : List Mapping → ℕ → ℕ → Edit
unmap_of ms a n = edit_of (new_space ∷ []) ms 1 a n

-- K7's mappings: 0 to 4,095 and 4,096 to 8,191
abbrev pages : List Mapping
pages = at 1 4096 0 ∷ at 1 4096 4096 ∷ []

-- K7: 6,000 bytes cut the second; 8,192 take both
k7-cut : unmap_of pages 0 6000 ≡ refuse 2
unfolding removes
k7-cut = refl

k7-both : unmap_of pages 0 8192 ≡ accept 8192 (Clear 1 (range 0 8191)) free_object
unfolding removes
k7-both = refl

-- K7: none inside; remove-all succeeds on none
k7-again : unmap_of [] 0 8192 ≡ refuse 2
unfolding removes
k7-again = refl

k7-all : unmap_of [] 0 U64MAX ≡ accept 0 (Clear 1 (range 0 U64MAX)) free_object
unfolding removes
k7-all = refl

-- remove-all takes a mapping at the last address, which the range 0 to U64MAX - 1 would not; the same length from 1 on is an ordinary range, up to the last address
all-last : unmap_of (at 1 1 U64MAX ∷ at 1 4096 0 ∷ []) 0 U64MAX ≡ accept 4097 (Clear 1 (range 0 U64MAX)) free_object
unfolding removes
all-last = refl

ordinary_last : ((unmap_of (at 1 1 U64MAX ∷ []) 1 U64MAX).value ∷ (unmap_of [] 1 U64MAX).errno ∷ []) ≡ (1 ∷ 2 ∷ [])
unfolding removes
ordinary_last = refl

-- cut at its start, cut at its end, both cut by a hole in the middle: 2; not cut: one page goes
cut-ends : ((unmap_of pages 1 8191).errno ∷ (unmap_of pages 0 8191).errno ∷ (unmap_of pages 1 1).errno ∷ (unmap_of pages 4096 4096).errno ∷ []) ≡ (2 ∷ 2 ∷ 2 ∷ 0 ∷ [])
unfolding removes
cut-ends = refl

one-page : (unmap_of pages 4096 4096).value ≡ 4096
unfolding removes
one-page = refl

-- a mapping of another space is not cut, not inside and not counted
elsewhere : unmap_of (at 2 4096 0 ∷ at 1 100 0 ∷ []) 0 100 ≡ accept 100 (Clear 1 (range 0 99)) free_object
unfolding removes
elsewhere = refl

elsewhere-none : unmap_of (at 2 100 0 ∷ []) 0 100 ≡ refuse 2
unfolding removes
elsewhere-none = refl

-- length 0; one byte and two from the last address on
unmap_numbers : ((unmap_of (at 1 1 U64MAX ∷ []) U64MAX 0).errno ∷ (unmap_of (at 1 1 U64MAX ∷ []) U64MAX 1).errno ∷ (unmap_of (at 1 1 U64MAX ∷ []) U64MAX 2).errno ∷ []) ≡ (22 ∷ 0 ∷ 75 ∷ [])
unfolding removes
unmap_numbers = refl

-- in space 2, with a mapping of one byte at 0, by the objects
abbrev in_second : List Object → ℕ → ℕ → ℕ
in_second os a n = (edit_of os (at 2 1 0 ∷ []) 2 a n).errno

-- it is a space; it is none; none, and remove-all
unmap_space : (in_second (new_space ∷ new_space ∷ []) 0 1 ∷ in_second (new_space ∷ []) 0 1 ∷ in_second (new_space ∷ []) 0 U64MAX ∷ []) ≡ (0 ∷ 2 ∷ 2 ∷ [])
unfolding removes
unmap_space = refl

-- none, and length 0; none, and a sum past U64MAX: the first check answers
unmap_order : (in_second (new_space ∷ []) 0 0 ∷ in_second (new_space ∷ []) 2 U64MAX ∷ []) ≡ (22 ∷ 75 ∷ [])
unfolding removes
unmap_order = refl
