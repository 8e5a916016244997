-- Next: no space 2. Of the mappings of the space that end at or after the address it tells the one with the lowest address, by the number of its record, from 1 to 128, and 0
-- where there is none. So a caller that has to unpin what an UNMAP or a DESTROY takes away goes through the mappings of a space in ascending address: it asks from 0 on, then
-- from the address behind the mapping that it was told.
use Rattle.std.specs.Prelude.{ℕ, ◌≡◌, refl, Bool, not, ◌&&◌, ◌||◌, List, [], ◌∷◌, map, leb}
use Rattle.lists.specs.Search.{all, seek}
use Rattle.lists.specs.Checks.{Check, when, first}
use Rattle.ranges.specs.Ranges.{U64MAX, last_of}
use Rattle.rules_table.specs.declared.Object.{Object}
use Rattle.rules_table.specs.declared.Mapping.{Mapping}
use Rattle.rules_table.specs.Records.{zero_mapping, of_space, space_at, object_at, new_space}
use Rattle.rules_calls.specs.declared.Edit.{Edit}
use Rattle.rules_calls.specs.Edits.{refuse, tells, settle, number_in}

-- a mapping of space s that ends at or after address a
unfoldable pub ends_from : ℕ → ℕ → Mapping → Bool
ends_from s a m = of_space s m && leb a (last_of m.address m.length)

-- m is one, and none of them has a lower address
unfoldable pub is_next : ℕ → ℕ → List Mapping → Mapping → Bool
is_next s a ms m = ends_from s a m && all (λ n. not (ends_from s a n) || leb m.address n.address) ms

-- the number of its record, and 0 where there is none
unfoldable pub next_number : List Mapping → ℕ → ℕ → ℕ
next_number ms s a = number_in (seek (is_next s a ms) 1 ms)

unfoldable pub next_checks : List Object → ℕ → List (Check ℕ)
next_checks os s = when (not (space_at os s)) 2 ∷ []

-- next changes nothing: its edit carries the number, and 0 beside a refusal
unfoldable pub next_edit : List Object → List Mapping → ℕ → ℕ → Edit
next_edit os ms s a = settle (first (next_checks os s) 0) (tells (next_number ms s a))

-- ---- examples: to unfold `nexts` is to unfold all that it lists

unfoldable pub nexts : List Object → List Mapping → ℕ → ℕ → Edit
unfolding next_edit next_checks next_number is_next ends_from first object_at space_at of_space last_of all seek
nexts os ms s a = next_edit os ms s a

-- a mapping of space s: n bytes at address a
abbrev at : ℕ → ℕ → ℕ → Mapping
at s n a = record { space = s; rights = 2; founder = 0; backing = 1; address = a; length = n; memory = 0 }

-- of spaces 1 and 2
abbrev next_of : List Mapping → ℕ → ℕ → Edit
next_of ms s a = next_edit (new_space ∷ new_space ∷ []) ms s a

-- a space with no mapping; with one of the bytes 16 to 31: asked from before it, from its first byte, from its last, from behind it
next-none : next_of (zero_mapping ∷ []) 1 0 ≡ tells 0
unfolding nexts
next-none = refl

next_one : map (next_of (zero_mapping ∷ at 1 16 16 ∷ []) 1) (0 ∷ 16 ∷ 31 ∷ 32 ∷ []) ≡ (tells 2 ∷ tells 2 ∷ tells 2 ∷ tells 0 ∷ [])
unfolding nexts
next_one = refl

-- the higher record has the lower address: it is told first, and from behind it the other
next-two : map (next_of (at 1 16 32 ∷ zero_mapping ∷ at 1 16 0 ∷ []) 1) (0 ∷ 15 ∷ 16 ∷ 47 ∷ 48 ∷ []) ≡ (tells 3 ∷ tells 3 ∷ tells 1 ∷ tells 1 ∷ tells 0 ∷ [])
unfolding nexts
next-two = refl

-- a mapping of another space is not told, and one of this space with a higher address is
next-elsewhere : map (λ (s : ℕ). next_of (at 1 16 0 ∷ at 2 16 16 ∷ []) s 0) (1 ∷ 2 ∷ []) ≡ (tells 1 ∷ tells 2 ∷ [])
unfolding nexts
next-elsewhere = refl

-- a mapping that ends at the last address, and one that ends before it
next_last : map (λ (a : ℕ). next_of (at 1 1 0 ∷ at 1 16 a ∷ []) 1 U64MAX) (0xFFFFFFFFFFFFFFF0 ∷ 0xFFFFFFFFFFFFFFEF ∷ []) ≡ (tells 2 ∷ tells 0 ∷ [])
unfolding nexts
next_last = refl

-- no space: id 0, which a released record has, and an id that no object has
next-spaces : map (λ (s : ℕ). next_of (zero_mapping ∷ at 1 16 0 ∷ []) s 0) (0 ∷ 3 ∷ 1 ∷ []) ≡ (refuse 2 ∷ refuse 2 ∷ tells 2 ∷ [])
unfolding nexts
next-spaces = refl
