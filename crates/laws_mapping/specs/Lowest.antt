-- Where MAP and COPY put a mapping (document 01: "The lowest candidate is taken", "no candidate: 28"; no new mapping lands on an old one of its space).
use Rattle.std.specs.Prelude.{ℕ, ◌+◌, ◌-◌, ◌≤◌, ◌<◌, ◌^◌, ◌≡◌, true, false, List, pos, negsuc, length, get_or}
use Rattle.std.proofs.Common.{sym, ◌∙◌, arith}
use Rattle.std.proofs.Math.Path.{ap}
use Rattle.lists.specs.Checks.{first}
use Rattle.ranges.specs.Ranges.{U64MAX, holds, span, passes-false}
use Rattle.alignment.specs.Multiples.{multiple}
use Rattle.wire.specs.Fields.{field}
use Rattle.rules_calls.specs.declared.Command.TheVariants.{Map, Copy}
use Rattle.rules_table.specs.Flags.{bit}
use Rattle.rules_calls.specs.Results.{signed_result}
use Rattle.opening.specs.Signed.{result-suc, result-errno}
use Rattle.rules_table.specs.declared.Table.{Table}
use Rattle.rules_table.specs.Records.{zero_mapping, covers}
use Rattle.rules_table.specs.Spaces.{alignment}
use Rattle.rules_calls.specs.declared.Edit.{Edit}
use Rattle.rules_calls.specs.Edits.{settle}
use Rattle.rules_calls.specs.Answers.{outcome}
use Rattle.rules_calls.specs.Copy.{source_of, source_checks}
use Rattle.rules_calls.specs.Landing.{CandidateIn}
use Rattle.rules_calls.specs.Named.{copy_decided, copy_call, copy_answer, copy_bytes, map_decided, map_call, map_answer, map_bytes}
use Rattle.laws_mapping.specs.Landing.{LandedAt, landed-uncovered, map_landed, copy_landed}
use Rattle.laws_mapping.specs.Nowhere.{map_28, map_28_only, copy_28, copy_28_only}
use Rattle.rules_calls.specs.Gate.{gate_errno}
use Rattle.laws_mapping.specs.Accepted.{Accepted, accepted, reply-read}
use Rattle.edits.specs.Numbers.{map_number_checks_at, copy_number_checks_at}

-- an address that ends by U64MAX fits the field
fits-field : (x n : ℕ) → x + (n - 1) ≤ U64MAX → x < 2 ^ 64
fits-field x n h = omega arith

-- ---- MAP: flags at 4, space at 8, length at 24, address at 32

module _ (t : Table) (bytes : List ℕ) (ok : (map_answer t bytes).result ≡ pos 0) where
  pub map_accepted : Accepted t 0x3B85 bytes (map_decided t bytes)
  unfolding map_answer map_call
  map_accepted = accepted t 0x3B85 bytes (map_decided t bytes) ok

  decided : LandedAt t.objects t.mappings (field 4 bytes 8) (bit 0 (field 4 bytes 4)) (field 8 bytes 24) (field 8 bytes 32) (map_decided t bytes).value
  decided = map_landed t.limit t.objects t.mappings (field 4 bytes 4) (field 4 bytes 8) (field 4 bytes 12) (field 8 bytes 16) (field 8 bytes 24) (field 8 bytes 32) map_accepted.errno

  pub map_written : field 8 (map_bytes t bytes) 32 ≡ (map_decided t bytes).value
  unfolding map_bytes map_call
  map_written = reply-read t Map bytes (map_decided t bytes) 32 map_accepted (omega arith) (fits-field (map_decided t bytes).value (field 8 bytes 24) (passes-false (map_decided t bytes).value (field 8 bytes 24) decided.landed.ends))

  -- the address that is written is a place that keeps the rules: the one asked where it is fixed, else the lowest candidate
  pub map_lands : LandedAt t.objects t.mappings (field 4 bytes 8) (bit 0 (field 4 bytes 4)) (field 8 bytes 24) (field 8 bytes 32) (field 8 (map_bytes t bytes) 32)
  map_lands = rw map_written decided

  pub map_lowest : bit 0 (field 4 bytes 4) ≡ false → CandidateIn t.objects t.mappings (field 4 bytes 8) (field 8 bytes 24) (field 8 (map_bytes t bytes) 32)
      × ((y : ℕ) → CandidateIn t.objects t.mappings (field 4 bytes 8) (field 8 bytes 24) y → field 8 (map_bytes t bytes) 32 ≤ y)
  map_lowest = map_lands.lowest

  -- no address of the new mapping was covered by a mapping of its space
  pub map_new : (a i : ℕ) → holds (span (field 8 (map_bytes t bytes) 32) (field 8 bytes 24)) a ≡ true → i < length t.mappings → covers (field 4 bytes 8) a (get_or t.mappings i zero_mapping) ≡ false
  map_new a i = landed-uncovered t.objects t.mappings (field 4 bytes 8) (field 8 bytes 24) (field 8 (map_bytes t bytes) 32) a i map_lands.landed

-- once the table, the opening and the checks on the numbers have passed, and the length is a multiple of the alignment: 28 exactly if there is no candidate
module _ (t : Table) (bytes : List ℕ) (gate : gate_errno t 0x3B85 bytes ≡ 0)
    (numbers : first (map_number_checks_at t.objects (field 4 bytes 4) (field 4 bytes 8) (field 4 bytes 12) (field 8 bytes 16) (field 8 bytes 24) (field 8 bytes 32)) 0 ≡ 0)
    (free : bit 0 (field 4 bytes 4) ≡ false) (m : multiple (alignment t.objects (field 4 bytes 8)) (field 8 bytes 24) ≡ true) where
  map_open : map_call t bytes ≡ map_decided t bytes
  unfolding map_call
  map_open = ap (λ (x : ℕ). settle x (map_decided t bytes)) gate

  pub map_nowhere : ((y : ℕ) → CandidateIn t.objects t.mappings (field 4 bytes 8) (field 8 bytes 24) y → ⊥) → (map_answer t bytes).result ≡ negsuc 27
  unfolding map_answer outcome
  map_nowhere none =
      ap (λ (e : Edit). signed_result e.errno) map_open
      ∙ ap signed_result (map_28 t.limit t.objects t.mappings (field 4 bytes 4) (field 4 bytes 8) (field 4 bytes 12) (field 8 bytes 16) (field 8 bytes 24) (field 8 bytes 32) numbers free m none)
      ∙ result-suc 27

  pub map_nowhere_only : (map_answer t bytes).result ≡ negsuc 27 → (y : ℕ) → CandidateIn t.objects t.mappings (field 4 bytes 8) (field 8 bytes 24) y → ⊥
  unfolding map_answer outcome
  map_nowhere_only r =
      map_28_only t.limit t.objects t.mappings (field 4 bytes 4) (field 4 bytes 8) (field 4 bytes 12) (field 8 bytes 16) (field 8 bytes 24) (field 8 bytes 32) numbers free m
      (result-errno (map_decided t bytes).errno 27 (sym (ap (λ (e : Edit). signed_result e.errno) map_open) ∙ r))

-- ---- COPY: flags at 4, target at 8, source at 12, length at 16, target address at 24, source address at 32

module _ (t : Table) (bytes : List ℕ) (ok : (copy_answer t bytes).result ≡ pos 0) where
  pub copy_accepted : Accepted t 0x3B83 bytes (copy_decided t bytes)
  unfolding copy_answer copy_call
  copy_accepted = accepted t 0x3B83 bytes (copy_decided t bytes) ok

  copy_decided-gives : LandedAt t.objects t.mappings (field 4 bytes 8) (bit 0 (field 4 bytes 4)) (field 8 bytes 16) (field 8 bytes 24) (copy_decided t bytes).value
  copy_decided-gives = copy_landed t.objects t.mappings (field 4 bytes 4) (field 4 bytes 8) (field 4 bytes 12) (field 8 bytes 16) (field 8 bytes 24) (field 8 bytes 32) copy_accepted.errno

  pub copy_written : field 8 (copy_bytes t bytes) 24 ≡ (copy_decided t bytes).value
  unfolding copy_bytes copy_call
  copy_written = reply-read t Copy bytes (copy_decided t bytes) 24 copy_accepted (omega arith) (fits-field (copy_decided t bytes).value (field 8 bytes 16) (passes-false (copy_decided t bytes).value (field 8 bytes 16) copy_decided-gives.landed.ends))

  pub copy_lands : LandedAt t.objects t.mappings (field 4 bytes 8) (bit 0 (field 4 bytes 4)) (field 8 bytes 16) (field 8 bytes 24) (field 8 (copy_bytes t bytes) 24)
  copy_lands = rw copy_written copy_decided-gives

  pub copy_lowest : bit 0 (field 4 bytes 4) ≡ false → CandidateIn t.objects t.mappings (field 4 bytes 8) (field 8 bytes 16) (field 8 (copy_bytes t bytes) 24)
      × ((y : ℕ) → CandidateIn t.objects t.mappings (field 4 bytes 8) (field 8 bytes 16) y → field 8 (copy_bytes t bytes) 24 ≤ y)
  copy_lowest = copy_lands.lowest

  pub copy_new : (a i : ℕ) → holds (span (field 8 (copy_bytes t bytes) 24) (field 8 bytes 16)) a ≡ true → i < length t.mappings → covers (field 4 bytes 8) a (get_or t.mappings i zero_mapping) ≡ false
  copy_new a i = landed-uncovered t.objects t.mappings (field 4 bytes 8) (field 8 bytes 16) (field 8 (copy_bytes t bytes) 24) a i copy_lands.landed

module _ (t : Table) (bytes : List ℕ) (gate : gate_errno t 0x3B83 bytes ≡ 0)
    (numbers : first (copy_number_checks_at t.objects (field 4 bytes 4) (field 4 bytes 8) (field 4 bytes 12) (field 8 bytes 16) (field 8 bytes 24) (field 8 bytes 32)) 0 ≡ 0)
    (sources : first (source_checks (field 4 bytes 4) (source_of t.mappings (field 4 bytes 12) (field 8 bytes 32) (field 8 bytes 16))) 0 ≡ 0)
    (free : bit 0 (field 4 bytes 4) ≡ false) (m : multiple (alignment t.objects (field 4 bytes 8)) (field 8 bytes 16) ≡ true) where
  copy_open : copy_call t bytes ≡ copy_decided t bytes
  unfolding copy_call
  copy_open = ap (λ (x : ℕ). settle x (copy_decided t bytes)) gate

  pub copy_nowhere : ((y : ℕ) → CandidateIn t.objects t.mappings (field 4 bytes 8) (field 8 bytes 16) y → ⊥) → (copy_answer t bytes).result ≡ negsuc 27
  unfolding copy_answer outcome
  copy_nowhere none =
      ap (λ (e : Edit). signed_result e.errno) copy_open
      ∙ ap signed_result (copy_28 t.objects t.mappings (field 4 bytes 4) (field 4 bytes 8) (field 4 bytes 12) (field 8 bytes 16) (field 8 bytes 24) (field 8 bytes 32) numbers sources free m none)
      ∙ result-suc 27

  pub copy_nowhere_only : (copy_answer t bytes).result ≡ negsuc 27 → (y : ℕ) → CandidateIn t.objects t.mappings (field 4 bytes 8) (field 8 bytes 16) y → ⊥
  unfolding copy_answer outcome
  copy_nowhere_only r =
      copy_28_only t.objects t.mappings (field 4 bytes 4) (field 4 bytes 8) (field 4 bytes 12) (field 8 bytes 16) (field 8 bytes 24) (field 8 bytes 32) numbers sources free m
      (result-errno (copy_decided t bytes).errno 27 (sym (ap (λ (e : Edit). signed_result e.errno) copy_open) ∙ r))
