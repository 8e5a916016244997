-- No mapping shares an address with a reserved range of its space: one range of it against one record, and some of them against all records.
use Rattle.std.specs.Prelude.{ℕ, Bool, ◌&&◌, List}
use Rattle.lists.specs.Search.{all}
use Rattle.ranges.specs.declared.Range.{Range}
use Rattle.rules_table.specs.declared.Mapping.{Mapping}
use Rattle.rules_table.specs.Records.{used, touches}
use Rattle.rules_table.specs.Good.{when_used, clear_of}

-- a record in use that is of space s and shares an address with r
unfoldable pub strikes : ℕ → Range → Mapping → Bool
strikes s r m = used m && touches s r m

-- every record is clear of the ranges that f gives for its space
unfoldable pub clear_by : (ℕ → List Range) → List Mapping → Bool
clear_by f ms = all (λ m. when_used (clear_of (f m.space)) m) ms
