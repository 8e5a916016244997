-- What UNMAP removes: the bytes that it writes back are those that the records lose, and no mapping that is left shares an address with the range asked.
use Rattle.std.specs.Prelude.{ℕ, ◌+◌, ◌*◌, ◌≤◌, ◌<◌, ◌^◌, ◌≡◌, true, false, List, pos}
use Rattle.std.proofs.Math.Path.{ap}
use Rattle.std.proofs.Common.{arith}
use Rattle.std.proofs.Math.ListN as ListN
use Rattle.lists.specs.Tests.{by-test}
use Rattle.lists.specs.Search.{any}
use Rattle.lists.specs.Each.{Each-imp}
use Rattle.lists.specs.Sums.{sum_of-most}
use Rattle.wire.specs.Fields.{field}
use Rattle.rules_calls.specs.declared.Command.TheVariants.{Unmap}
use Rattle.rules_table.specs.declared.Object.{Object}
use Rattle.rules_table.specs.declared.Mapping.{Mapping}
use Rattle.rules_table.specs.declared.Table.{Table}
use Rattle.rules_table.specs.Records.{used, touches}
use Rattle.table.specs.Checked.{record_ok}
use Rattle.table.specs.Sound.{Sound, good-sound}
use Rattle.table.specs.Facts.{record_used, record_free}
use Rattle.rules_calls.specs.Edits.{applied}
use Rattle.rules_calls.specs.Answers.{outcome}
use Rattle.rules_calls.specs.Unmap.{range_asked}
use Rattle.rules_calls.specs.Named.{unmap_decided, unmap_call, unmap_answer, unmap_bytes}
use Rattle.laws_mapping.specs.Removed.{mapped_bytes, unmap_told, unmap_left}
use Rattle.laws_mapping.specs.Accepted.{gate-table, Accepted, accepted, reply-read}

-- the bytes of a good table's mappings fit a number of 8 bytes
short : (os : List Object) (m : Mapping) → record_ok os m ≡ true → m.length ≤ 2 ^ 40
short os m e = by-test (used m) (λ u. (record_used os m u e).short) (λ u. omega (arith, ap (λ (x : Mapping). x.length) (record_free os m u e)))

bytes_fit : (t : Table) → Sound t → mapped_bytes t.mappings < 2 ^ 64
unfolding mapped_bytes
bytes_fit t g =
    let most = sum_of-most (λ (m : Mapping). m.length) (2 ^ 40) t.mappings (Each-imp (λ m. record_ok t.objects m ≡ true) (λ m. m.length ≤ 2 ^ 40) t.mappings (short t.objects) g.records) in
    let all : ListN.length t.mappings * 2 ^ 40 ≡ 128 * 2 ^ 40 = ap (λ (k : ℕ). k * 2 ^ 40) g.counted in
    omega (arith, most, all)

-- ---- UNMAP: space at 4, address at 8, length at 16

module _ (t : Table) (bytes : List ℕ) (ok : (unmap_answer t bytes).result ≡ pos 0) where
  pub unmap_accepted : Accepted t 0x3B86 bytes (unmap_decided t bytes)
  unfolding unmap_answer unmap_call
  unmap_accepted = accepted t 0x3B86 bytes (unmap_decided t bytes) ok

  after : (unmap_answer t bytes).table ≡ applied t (unmap_decided t bytes)
  unfolding unmap_answer unmap_call outcome
  after = ap (applied t) unmap_accepted.same

  lost : mapped_bytes t.mappings ≡ mapped_bytes (applied t (unmap_decided t bytes)).mappings + (unmap_decided t bytes).value
  lost = unmap_told t (field 4 bytes 4) (field 8 bytes 8) (field 8 bytes 16) unmap_accepted.errno

  pub unmap_written : field 8 (unmap_bytes t bytes) 16 ≡ (unmap_decided t bytes).value
  unfolding unmap_bytes unmap_call
  unmap_written = reply-read t Unmap bytes (unmap_decided t bytes) 16 unmap_accepted (omega arith) (omega (arith, lost, bytes_fit t (good-sound t (gate-table t 0x3B86 bytes unmap_accepted.gate))))

  -- the bytes written back are the sum of the lengths removed: what was mapped is what is left and they
  pub unmap_bytes-mapped : mapped_bytes t.mappings ≡ mapped_bytes (unmap_answer t bytes).table.mappings + field 8 (unmap_bytes t bytes) 16
  unmap_bytes-mapped = rw (after, unmap_written) lost

  -- no mapping of the space that is left shares an address with the range asked
  pub unmap_clear : any (touches (field 4 bytes 4) (range_asked (field 8 bytes 8) (field 8 bytes 16))) (unmap_answer t bytes).table.mappings ≡ false
  unmap_clear = rw after (unmap_left t (field 4 bytes 4) (field 8 bytes 8) (field 8 bytes 16) unmap_accepted.errno)
