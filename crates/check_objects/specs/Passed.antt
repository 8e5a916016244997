-- What one slot tells, and what one pass over the object records tells.
use Rattle.std.specs.Prelude.{ℕ, ◌+◌, ◌≤◌, ◌<◌, ◌≡◌, Bool, true, cond, List, ltb, get_or, Option, None, Some}
use Rattle.rules_table.specs.declared.Object.{Object}
use Rattle.rules_table.specs.Records.{zero_object, free_object, is_free}
use Rattle.rules_table.specs.Charge.{free_record}
use Rattle.table.specs.Checked.{object_ok, objects_ok}
use Rattle.check_objects.specs.declared.Pass.{Pass}
use Rattle.check_objects.specs.declared.Turn.{Turn}
use Rattle.check_objects.specs.Pages.{Pages, slot_of, ask_of}

-- of the good object in slot i
pub record Turned (os : List Object) (i : ℕ) (t : Turn) : Type 0 where
  pub good : object_ok os (get_or os i zero_object) ≡ true
  pub free : t.free ≡ is_free (get_or os i zero_object).kind
  pub slot : t.slot ≡ slot_of (i + 1) (get_or os i zero_object).kind
  pub below : t.slot < 33
  pub page : t.page ≡ ask_of (get_or os i zero_object).bitmap (get_or os i zero_object).kind

-- from slot i on the objects before j are released
pub record Next (os : List Object) (i j : ℕ) : Type 0 where
  pub from : i ≤ j
  pub upto : j ≤ 32
  pub released : (k : ℕ) → i ≤ k → k < j → get_or os k zero_object ≡ free_object

-- of good objects: the lowest free slot, and the pages of the spaces
pub record Passed (os : List Object) (p : Pass) (pages : List ℕ) : Type 0 where
  pub good : objects_ok os ≡ true
  pub free : p.free ≡ free_record os
  pub aligned : Pages os pages

-- the lowest free slot, with slot i seen
abbrev pub free_after : Option ℕ → ℕ → Bool → Option ℕ
free_after (Some j) i b = Some j
free_after None i b = cond b (Some i) None

-- with the released slots from i on before j seen
unfoldable pub free_to : Option ℕ → ℕ → ℕ → Option ℕ
free_to free i j = free_after free i (ltb i j)
