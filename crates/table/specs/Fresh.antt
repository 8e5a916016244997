-- A fresh table is good, for every limit from 0 to 2^36.
use Rattle.std.specs.Prelude.{ℕ, ◌≤◌, ◌<◌, ◌^◌, ◌≡◌, refl, true, false, replicate}
use Rattle.std.proofs.Common.{arith}
use Rattle.std.proofs.lemmas.List.{length-replicate}
use Rattle.lists.specs.Tests.{by-test, contrary, only_if}
use Rattle.lists.specs.Search.{all, find}
use Rattle.lists.specs.Each.{Each-replicate}
use Rattle.lists.specs.Sums.{count_of, sum_of-replicate}
use Rattle.lists.specs.Below.{sum_below}
use Rattle.wire.specs.Fields.{zeros}
use Rattle.rules_table.specs.Records.{free_object, zero_mapping, used, fresh_table, covers}
use Rattle.rules_table.specs.Charge.{backs, backing_pages, charge_in, charge}
use Rattle.rules_table.specs.Good.{device_names, device_valid, list_valid, list_clear, object_zero, no_device, no_list, reserved_rest, allow_rest, good}
use Rattle.table.specs.Checked.{object_ok, objects_ok, record_ok}
use Rattle.table.specs.Sound.{Shares, good-sound, sound-good}
use Rattle.table.specs.Facts.{zero_record}

fresh-objects : objects_ok (replicate 32 free_object) ≡ true
unfolding objects_ok object_ok device_names device_valid list_valid list_clear object_zero no_device no_list reserved_rest allow_rest zeros all
fresh-objects = refl

fresh-charge : charge (replicate 128 zero_mapping) ≡ 0
unfolding charge charge_in sum_below backing_pages find backs
fresh-charge = refl

fresh-once : (s a : ℕ) → count_of (covers s a) (replicate 128 zero_mapping) ≤ 1
unfolding count_of covers used
fresh-once s a = omega (arith, sum_of-replicate (λ m. only_if (covers s a m) 1) 128 zero_mapping refl)

pub fresh-good : (limit : ℕ) → limit ≤ 2 ^ 36 → good (fresh_table limit) ≡ true
unfolding fresh_table used
fresh-good limit h = sound-good (fresh_table limit) (record {
  objects = fresh-objects;
  records = Each-replicate (λ m. record_ok (replicate 32 free_object) m ≡ true) 128 zero_mapping (zero_record (replicate 32 free_object));
  once = fresh-once;
  info = λ b. record { memory = 0; length = 0; founder = 0 };
  agree = Each-replicate (λ m. used m ≡ true → Shares (record { memory = 0; length = 0; founder = 0 }) m) 128 zero_mapping (λ u. contrary false u refl);
  counted = length-replicate 128 zero_mapping;
  places = length-replicate 32 free_object;
  most = h;
  charged = omega (arith, fresh-charge);
})

-- so the table beside fresh's refusal is of no use: every call on it answers 117
pub fresh-bad : (limit : ℕ) → 2 ^ 36 < limit → good (fresh_table limit) ≡ false
unfolding fresh_table
fresh-bad limit h = by-test (good (fresh_table limit)) (λ g. absurd (omega (arith, (good-sound (fresh_table limit) g).most))) (λ e. e)
