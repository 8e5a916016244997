-- The steps of the walk. It stands at an address x and at a place k of the list of mappings: those of the space before k end below x. While the mapping at k begins by the end of
-- the bytes from x on, x goes past it and k on; else x goes past the reserved ranges that these bytes touch.
use Rattle.std.specs.Prelude.{ℕ, ◌+◌, ◌≤◌, ◌<◌, ◌≡◌, Bool, true, false, ◌&&◌, List, leb, ltb, length, get_or, Option}
use Rattle.ranges.specs.declared.Range.{Range}
use Rattle.ranges.specs.Ranges.{last_of}
use Rattle.placement.specs.Jumps.{past_of, Swept}
use Rattle.rules_table.specs.declared.Mapping.{Mapping}
use Rattle.rules_table.specs.Records.{zero_mapping, of_space, extent}
use Rattle.index.specs.Touched.{end_of}

-- m is a mapping of space s and begins at or before address x
unfoldable pub begins_by : ℕ → ℕ → Mapping → Bool
begins_by s x m = of_space s m && leb m.address x

-- there is such a mapping at place k
unfoldable pub meets : List Mapping → ℕ → ℕ → ℕ → Bool
meets ls k s x = ltb k (length ls) && begins_by s x (get_or ls k zero_mapping)

-- the mappings of space s before place k end below x, and from k on none is of a lower space
pub record Stands (ls : List Mapping) (s x k : ℕ) : Type 0 where
  pub behind : (j : ℕ) → j < k → j < length ls → (get_or ls j zero_mapping).space ≡ s → end_of (get_or ls j zero_mapping) < x
  pub onwards : (j : ℕ) → k ≤ j → j < length ls → s ≤ (get_or ls j zero_mapping).space

-- one step for n bytes, by whether the mapping at k is met
abbrev pub StepBy : Bool → ℕ → ℕ → List Mapping → List Range → ℕ → ℕ → Option ℕ → ℕ → ℕ → Type 0
StepBy true a n ls rs x k spot place jumps = (spot ≡ past_of a n x (extent (get_or ls k zero_mapping))) × (place ≡ k + 1) × (jumps ≡ 1)
StepBy false a n ls rs x k spot place jumps = Swept a n rs x spot jumps × (place ≡ k)

abbrev pub Stepped : ℕ → ℕ → ℕ → List Mapping → List Range → ℕ → ℕ → Option ℕ → ℕ → ℕ → Type 0
Stepped a n s ls rs x k = StepBy (meets ls k s (last_of x n)) a n ls rs x k
