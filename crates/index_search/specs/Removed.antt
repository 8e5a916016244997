-- What UNMAP asks of the mapping records, as one value: whether the range cuts a mapping, whether some mapping goes, and the bytes that go. By the index it is told from one run of places.
-- With it, that the records of a good table are short, so that their lengths can be added.
use Rattle.std.specs.Prelude.{ℕ, ◌^◌, ◌≡◌, Bool, true, false, List, leb, ltb, take}
use Rattle.std.proofs.Common.{ap, arith, le-leb}
use Rattle.lists.specs.Tests.{by-test}
use Rattle.lists.specs.Sums.{sum_of}
use Rattle.lists.specs.Search.{any, all}
use Rattle.lists.specs.Each.{Each, Each-imp, all-Each}
use Rattle.ranges.specs.declared.Range.{Range}
use Rattle.rules_table.specs.declared.Object.{Object}
use Rattle.rules_table.specs.declared.Mapping.{Mapping}
use Rattle.rules_table.specs.Records.{used, within, cut_by}
use Rattle.table.specs.Checked.{record_ok}
use Rattle.table.specs.Facts.{record_used, record_free}
use Rattle.rules_calls.specs.Unmap.{removed_bytes}
use Rattle.index.specs.Runs.{run_end}
use Rattle.index_search.specs.declared.Removal.{Removal}
use Rattle.index_search.specs.declared.Run.{Run}
use Rattle.index_search.specs.Indexed.{entered}

-- the records, before the mappings of space s inside r go
unfoldable pub removal_of : ℕ → Range → List Mapping → Removal
removal_of s r ms = record { cut = any (cut_by s r) ms; some = any (within s r) ms; bytes = removed_bytes s r ms }

-- at most 2^40 bytes
unfoldable pub short : Mapping → Bool
short m = leb m.length (2 ^ 40)

record_short : (os : List Object) (m : Mapping) → record_ok os m ≡ true → short m ≡ true
unfolding short
record_short os m e =
    le-leb m.length (2 ^ 40)
    (by-test (used m)
    (λ u. (record_used os m u e).short)
    (λ u. omega (arith, ap (λ (x : Mapping). x.length) (record_free os m u e))))

-- the records of a good table are short
pub records-short : (os : List Object) (ms : List Mapping) → Each (λ m. record_ok os m ≡ true) ms → all short ms ≡ true
records-short os ms h = all-Each short ms (Each-imp (λ m. record_ok os m ≡ true) (λ m. short m ≡ true) ms (record_short os) h)

-- ---- by the index

-- the run of the mappings of space s that lie wholly inside r
unfoldable pub run_of : ℕ → Range → List Mapping → Run
run_of s r ls = record { first = entered false ls s r.start; end = run_end ls s r; cut = ltb (run_end ls s r) (entered true ls s r.last) }

-- the lengths of the first k
unfoldable pub bytes_to : List Mapping → ℕ → ℕ
bytes_to ls k = sum_of (λ (m : Mapping). m.length) (take k ls)
