-- A free record that was found, and the edit that puts an object there.
use Rattle.std.specs.Prelude.{None, Some, Option}
use Prim.Native.Nat.{ℕ, ◌+◌, ◌<◌}
use mathlib.Core.Path.{◌≡◌, sym, ap, ◌∙◌}
use mathlib.Core.List.{List}
use native.Mathlib.Omega.{arith}
use lib.ListN.{length}
use Rattle.lists.specs.Search.{seek-some_lt}
use Rattle.rules_table.specs.declared.Object.{Object}
use Rattle.rules_table.specs.Records.{is_free}
use Rattle.rules_table.specs.Charge.{free_record}
use Rattle.rules_calls.specs.declared.Edit.{Edit}
use Rattle.rules_calls.specs.declared.Change.TheVariants.{Put}
use Rattle.rules_calls.specs.Edits.{refuse, accept, added}

-- the place found is one of the records
module _ (os : List Object) (f : Option ℕ) (e : f ≡ free_record os) where
  pub free-below : (i : ℕ) → f ≡ Some i → length os ≡ 32 → i < 32
  unfolding free_record
  free-below i a l = omega (arith, seek-some_lt (λ (o : Object). is_free o.kind) 0 os i (sym e ∙ a))

  pub placed_at : (i : ℕ) (n : Object) (r : Edit) → f ≡ Some i → r ≡ accept (i + 1) (Put i) n → r ≡ added (free_record os) n
  placed_at i n r a k = k ∙ sym (ap (λ (o : Option ℕ). added o n) (sym e ∙ a))

  pub placed-nowhere : (n : Object) (r : Edit) → f ≡ None → r ≡ refuse 12 → r ≡ added (free_record os) n
  placed-nowhere n r a k = k ∙ sym (ap (λ (o : Option ℕ). added o n) (sym e ∙ a))
