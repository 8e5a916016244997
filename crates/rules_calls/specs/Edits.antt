-- An edit: what a call decides over a good table. Deciding changes nothing; `applied` is the table after it.
pub use Rattle.std.specs.Prelude.{is_none}
use Rattle.std.specs.Prelude.{ℕ, zero, suc, ◌+◌, Bool, true, false, cond, List, map, [], ◌∷◌, leb, set, ◌≡◌, refl, Option, None, Some}
use Rattle.lists.specs.Checks.{Check, when}
use Rattle.rules_table.specs.Limits.{object_count}
use Rattle.rules_table.specs.declared.Object.{Object}
use Rattle.rules_table.specs.declared.Mapping.{Mapping}
use Rattle.rules_table.specs.declared.Table.{Table}
use Rattle.rules_table.specs.Records.{free_object, of_space, within, release, zero_mapping, new_space, extent}
use Rattle.rules_calls.specs.declared.Change.{Change}
use Rattle.rules_calls.specs.declared.Change.TheVariants.{Nothing, Put, Drop, Map, Clear}
use Rattle.rules_calls.specs.declared.Edit.{Edit}
use Rattle.ranges.specs.Ranges.{range, inside, last_of, span}

abbrev pub refuse : ℕ → Edit
refuse n = record { errno = n; value = 0; change = Nothing; object = free_object }

abbrev pub accept : ℕ → Change → Object → Edit
accept v c o = record { errno = 0; value = v; change = c; object = o }

-- an answer that changes nothing
abbrev pub tells : ℕ → Edit
tells v = accept v Nothing free_object

-- a refusal where a check fired, else the edit
abbrev pub settle : ℕ → Edit → Edit
settle zero e = e
settle (suc n) e = refuse (suc n)

-- the number that was found, 0 where none was
abbrev pub number_in : Option ℕ → ℕ
number_in None = 0
number_in (Some n) = n

-- no record: 12
abbrev pub no_record : Option ℕ → Check ℕ
no_record free = when (is_none free) 12

-- a new object takes the lowest free record and gets its id; where none is left, `noRecord` has said so
abbrev pub added : Option ℕ → Object → Edit
added None n = refuse 12
added (Some i) n = accept (i + 1) (Put i) n

-- the object records after a change, in whatever form they are kept: the new one in its slot, a released one where a space was
abbrev pub objects_after : {A : Type 0} → A → A → Change → List A → List A
objects_after free new Nothing os = os
objects_after free new (Put i) os = set os i new
objects_after free new (Drop i) os = set os i free
objects_after free new (Map i m) os = os
objects_after free new (Clear s r) os = os

-- the mapping records after a change: a space that goes takes its mappings with it; from slot 32 on there is none
abbrev pub mappings_after : Change → List Mapping → List Mapping
mappings_after Nothing ms = ms
mappings_after (Put i) ms = ms
mappings_after (Drop i) ms = cond (leb object_count i) ms (map (release (of_space (i + 1))) ms)
mappings_after (Map i m) ms = set ms i m
mappings_after (Clear s r) ms = map (release (within s r)) ms

unfoldable pub applied : Table → Edit → Table
applied t e = record { limit = t.limit; objects = objects_after free_object e.object e.change t.objects; mappings = mappings_after e.change t.mappings }

-- ---- examples: to unfold `applies` is to unfold all that it lists

unfoldable pub applies : Table → Edit → Table
unfolding applied release within of_space extent inside span last_of
applies t e = applied t e

-- a mapping of space s: n bytes at address a
abbrev at : ℕ → ℕ → ℕ → Mapping
at s n a = record { space = s; rights = 2; founder = 0; backing = 1; address = a; length = n; memory = 0 }

-- spaces 1 and 2, with mappings
abbrev table_of : Object → Object → Mapping → Mapping → Mapping → Table
table_of o p m n k = record { limit = 4; objects = o ∷ p ∷ []; mappings = m ∷ n ∷ k ∷ [] }

abbrev before : Table
before = table_of new_space new_space (at 1 16 0) (at 1 16 16) (at 2 16 0)

-- the first check that fires refuses, and a refusal changes nothing
settled : settle 22 (accept 7 (Put 0) new_space) ≡ refuse 22
settled = refl

refused : applied before (refuse 22) ≡ before
unfolding applies
refused = refl

-- a new object in slot 1 has the id 2
added-second : added (Some 1) new_space ≡ accept 2 (Put 1) new_space
added-second = refl

-- one object record is written
put_second : applied before (accept 0 (Put 1) free_object) ≡ table_of new_space free_object (at 1 16 0) (at 1 16 16) (at 2 16 0)
unfolding applies
put_second = refl

-- the space in slot 0, which has the id 1, goes with its mappings; that of space 2 stays
drop_first : applied before (accept 0 (Drop 0) free_object) ≡ table_of free_object new_space zero_mapping zero_mapping (at 2 16 0)
unfolding applies
drop_first = refl

-- the last slot, and the one after it, which is none
drop_last : applied (table_of new_space new_space (at 32 1 0) (at 33 1 0) zero_mapping) (accept 0 (Drop 31) free_object) ≡ table_of new_space new_space zero_mapping (at 33 1 0) zero_mapping
unfolding applies
drop_last = refl

drop_past : applied (table_of new_space new_space (at 32 1 0) (at 33 1 0) zero_mapping) (accept 0 (Drop 32) free_object) ≡ table_of new_space new_space (at 32 1 0) (at 33 1 0) zero_mapping
unfolding applies
drop_past = refl

-- one mapping record is written
map_second : applied before (accept 0 (Map 1 (at 2 1 40)) free_object) ≡ table_of new_space new_space (at 1 16 0) (at 2 1 40) (at 2 16 0)
unfolding applies
map_second = refl

-- what is wholly inside goes: the mapping 0 to 15, not 16 to 31 and not that of space 2; and, with one address more, both
clear_first : applied before (accept 16 (Clear 1 (range 0 30)) free_object) ≡ table_of new_space new_space zero_mapping (at 1 16 16) (at 2 16 0)
unfolding applies
clear_first = refl

clear_both : applied before (accept 32 (Clear 1 (range 0 31)) free_object) ≡ table_of new_space new_space zero_mapping zero_mapping (at 2 16 0)
unfolding applies
clear_both = refl
