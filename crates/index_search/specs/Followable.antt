-- What a change asks of the index, so that the index can follow it.
use Rattle.std.specs.Prelude.{ℕ, ◌-◌, ◌<◌, List, ◌++◌, length, take, drop, replicate}
use Rattle.rules_table.specs.declared.Mapping.{Mapping}
use Rattle.rules_calls.specs.declared.Change.{Change}
use Rattle.rules_calls.specs.declared.Change.TheVariants.{Nothing, Put, Drop, Map, Clear}
use Rattle.rules_index.specs.Index.{numbers_in}
use Rattle.index_search.specs.Indexed.{Indexed}

-- the places from p on and before q are left out
unfoldable pub without_run : ℕ → ℕ → List ℕ → List ℕ
without_run p q xs = take p xs ++ drop q xs

-- the places from p on and before q are 0
unfoldable pub zeroed : ℕ → ℕ → List ℕ → List ℕ
zeroed p q xs = take p xs ++ (replicate (q - p) 0 ++ drop q xs)

-- where mappings come or go it is the index of the records; a mapping that comes finds room, and its slot is one of the 128; mappings go from a space
abbrev pub Followable : Change → List ℕ → List Mapping → Type 0
Followable Nothing ix ms = Unit {0}
Followable (Put i) ix ms = Unit {0}
Followable (Drop i) ix ms = Indexed (length (numbers_in ix)) ix ms
Followable (Map i m) ix ms = Indexed (length (numbers_in ix)) ix ms × (length (numbers_in ix) < 128) × (i < 128)
Followable (Clear s r) ix ms = Indexed (length (numbers_in ix)) ix ms × (0 < s)
