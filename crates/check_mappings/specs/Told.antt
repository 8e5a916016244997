-- What the pass tells, given the alignment of each space by its id. Of good records: how many are in use, the charge, and the first record of each backing.
use Rattle.std.specs.Prelude.{◌≡◌, ℕ, ◌+◌, ◌≤◌, Bool, true, cond, ◌&&◌, List, ◌==◌, slice_index, Option, None, Some}
use Rattle.lists.specs.Search.{all, seek}
use Rattle.lists.specs.Sums.{count_of}
use Rattle.rules_table.specs.declared.Mapping.{Mapping}
use Rattle.rules_table.specs.Records.{used}
use Rattle.rules_table.specs.Charge.{backs, charge}
use Rattle.rules_table.specs.Good.{backings_agree}
use Rattle.table.specs.Checked.{record_alone}
use Rattle.check_mappings.specs.declared.Pass.{Pass}

-- the mark of a backing: one more than the place of its first record
abbrev pub mark_of : Option ℕ → ℕ
mark_of None = 0
mark_of (Some k) = k + 1

-- the alignment of the space that a record names, 0 where it names none
unfoldable pub page_of : List ℕ → ℕ → ℕ
page_of pages s = cond (s == 0) 0 (slice_index pages s)

-- a record keeps its rules, by the alignment of its space
abbrev pub alone_by : List ℕ → Mapping → Bool
alone_by pages m = record_alone (slice_index pages m.space) m

-- and the records of each backing agree
abbrev pub agreed : List ℕ → List Mapping → Bool
agreed pages ms = all (alone_by pages) ms && backings_agree ms

pub record Told (pages : List ℕ) (ms : List Mapping) (p : Pass) (marks : List ℕ) : Type 0 where
  pub good : agreed pages ms ≡ true
  pub used : p.used ≡ count_of used ms
  pub charge : p.charge ≡ charge ms
  pub firsts : (b : ℕ) → 1 ≤ b → b ≤ 128 → slice_index marks b ≡ mark_of (seek (backs b) 0 ms)
