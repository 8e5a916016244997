-- The slots between which the records lie that a change releases.
use Rattle.std.specs.Prelude.{ℕ, ◌+◌, ◌≤◌, ◌<◌, ◌≡◌, true, List, get_or}
use Rattle.ranges.specs.declared.Range.{Range}
use Rattle.ranges.specs.Ranges.{U64MAX, range}
use Rattle.rules_table.specs.declared.Mapping.{Mapping}
use Rattle.rules_table.specs.Records.{zero_mapping, within}
use Rattle.rules_calls.specs.declared.Change.{Change}
use Rattle.rules_calls.specs.declared.Change.TheVariants.{Nothing, Put, Drop, Map, Clear}
use Rattle.index_search.specs.declared.Slots.{Slots}

-- at the places from p on and before q stand numbers of records
pub record Numbered (ix : List ℕ) (p q : ℕ) : Type 0 where
  pub some : (j : ℕ) → p ≤ j → j < q → 1 ≤ get_or ix j 0
  pub most : (j : ℕ) → p ≤ j → j < q → get_or ix j 0 ≤ 128

-- these have the slots from v.first on and before v.end
pub record Between (ix : List ℕ) (p q : ℕ) (v : Slots) : Type 0 where
  pub low : (j : ℕ) → p ≤ j → j < q → v.first < get_or ix j 0
  pub high : (j : ℕ) → p ≤ j → j < q → get_or ix j 0 ≤ v.end
  pub most : v.end ≤ 128

-- every record of space s that lies wholly inside r is in one of these slots
pub record Spans (s : ℕ) (r : Range) (ms : List Mapping) (v : Slots) : Type 0 where
  pub low : (k : ℕ) → within s r (get_or ms k zero_mapping) ≡ true → v.first ≤ k
  pub high : (k : ℕ) → within s r (get_or ms k zero_mapping) ≡ true → k < v.end
  pub most : v.end ≤ 128

-- every record that the change releases
abbrev pub Spanning : Change → List Mapping → Slots → Type 0
Spanning Nothing ms v = Unit {0}
Spanning (Put i) ms v = Unit {0}
Spanning (Drop i) ms v = i < 32 → Spans (i + 1) (range 0 U64MAX) ms v
Spanning (Map i m) ms v = Unit {0}
Spanning (Clear s r) ms v = Spans s r ms v
