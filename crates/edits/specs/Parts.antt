-- The table after each kind of change, by its own name: what the code has a function for, and what the laws speak of.
use Rattle.std.specs.Prelude.{ℕ}
use Rattle.ranges.specs.declared.Range.{Range}
use Rattle.rules_table.specs.declared.Object.{Object}
use Rattle.rules_table.specs.declared.Mapping.{Mapping}
use Rattle.rules_table.specs.declared.Table.{Table}
use Rattle.rules_table.specs.Records.{free_object}
use Rattle.rules_calls.specs.declared.Change.TheVariants.{Put, Drop, Map, Clear}
use Rattle.rules_calls.specs.Edits.{accept, applied}

-- the object record in slot i becomes n
abbrev pub put_object : Table → ℕ → Object → Table
put_object t i n = applied t (accept 0 (Put i) n)

-- the space in slot i is released, and its mappings with it
abbrev pub drop_space : Table → ℕ → Table
drop_space t i = applied t (accept 0 (Drop i) free_object)

-- the mapping record in slot i becomes m
abbrev pub put_mapping : Table → ℕ → Mapping → Table
put_mapping t i m = applied t (accept 0 (Map i m) free_object)

-- the mappings of space s that lie wholly inside r are released
abbrev pub clear_inside : Table → ℕ → Range → Table
clear_inside t s r = applied t (accept 0 (Clear s r) free_object)
