-- One turn of the pass over the objects.
use Prim.Native.Nat.{ℕ, ◌+◌, ◌≤◌, ◌<◌}
use mathlib.Core.Path.{◌≡◌, refl}
use mathlib.Core.Bool.{Bool, true, false}
use mathlib.Core.List.{List}
use native.Mathlib.Omega.{arith}
use lib.ListN.{length, get_or, drop}
use Rattle.lists.specs.Search.{all, all-failed, all-on, all_end}
use Rattle.rules_table.specs.declared.Object.{Object}
use Rattle.rules_table.specs.Records.{zero_object}
use Rattle.table.specs.Checked.{object_ok, objects_ok}

-- the objects from place i on are good
unfoldable pub ok_left : ℕ → List Object → Bool
ok_left i os = all (object_ok os) (drop i os)

pub ok-start : (os : List Object) → ok_left 0 os ≡ objects_ok os
unfolding ok_left objects_ok
ok-start os = refl

module _ (os : List Object) (i : ℕ) (many : length os ≡ 32) {k : Bool} (v : ok_left i os ≡ k) where
  pub ok-failed : i < 32 → object_ok os (get_or os i zero_object) ≡ false → false ≡ k
  unfolding ok_left
  ok-failed h e = all-failed (object_ok os) os i v zero_object (omega arith) e

  pub ok-on : i < 32 → object_ok os (get_or os i zero_object) ≡ true → ok_left (i + 1) os ≡ k
  unfolding ok_left
  ok-on h e = all-on (object_ok os) os i v zero_object (omega arith) e

pub ok_end : (os : List Object) (i : ℕ) {k : Bool} → ok_left i os ≡ k → length os ≤ i → true ≡ k
unfolding ok_left
ok_end os i v h = all_end (object_ok os) os i v h
