-- What the check of an index tells of a good one: all that a search asks.
use Rattle.std.specs.Prelude.{ℕ, ◌≡◌, Bool, true, List, drop}
use Rattle.wire.specs.Fields.{zeros}
use Rattle.rules_table.specs.declared.Mapping.{Mapping}
use Rattle.index.specs.Verdict.{index_ok}
use Rattle.index_search.specs.Indexed.{Indexed}

-- the words from a place on are zero
unfoldable pub zeros_from : ℕ → List ℕ → Bool
zeros_from k ix = zeros (drop k ix)

pub record Listed (ix : List ℕ) (ms : List Mapping) (n : ℕ) : Type 0 where
  pub verdict : index_ok ix ms ≡ true
  pub indexed : Indexed n ix ms
