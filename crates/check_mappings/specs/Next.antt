-- The next record that holds something.
use Rattle.std.specs.Prelude.{◌≡◌, ℕ, ◌<◌, ◌≤◌, true, false, List, length, slice_index_or}
use Rattle.rules_table.specs.declared.Mapping.{Mapping}
use Rattle.rules_table.specs.Records.{zero_mapping}
use Rattle.layout_mappings.specs.Words.{is_empty}

-- from place i on the records before j are empty, and that at j is not
pub record Next (ms : List Mapping) (i j : ℕ) : Type 0 where
  pub from : i ≤ j
  pub upto : j ≤ length ms
  pub empty : (k : ℕ) → i ≤ k → k < j → is_empty (slice_index_or ms k zero_mapping) ≡ true
  pub full : j < length ms → is_empty (slice_index_or ms j zero_mapping) ≡ false
