-- The numbers that the code read are the fields of the command.
use Prim.Native.Nat.{ℕ}
use mathlib.Core.Path.{◌≡◌, ◌∙◌}
use mathlib.Core.List.{List}
use Rattle.wire.specs.Fields.{field}
use Rattle.rules_table.specs.declared.Object.{Object}
use Rattle.rules_table.specs.declared.Mapping.{Mapping}
use Rattle.rules_calls.specs.declared.Edit.{Edit}
use Rattle.rules_calls.specs.Map.{map_fields, map_edit}
use Rattle.rules_calls.specs.Copy.{copy_fields, copy_edit}
use Rattle.rules_calls.specs.Unmap.{unmap_fields, unmap_edit}
use Rattle.edits.specs.Numbers.{map_edit_at, copy_edit_at, unmap_edit_at}

module _ (os : List Object) (ms : List Mapping) (bytes : List ℕ) (e : Edit) where
  pub map_fields-are : (limit flags s z memory n x : ℕ) → s ≡ field 4 bytes 8 → flags ≡ field 4 bytes 4 → n ≡ field 8 bytes 24 → x ≡ field 8 bytes 32 → z ≡ field 4 bytes 12 → memory ≡ field 8 bytes 16
      → e ≡ map_edit_at limit os ms flags s z memory n x → e ≡ map_edit limit os ms (map_fields bytes)
  map_fields-are limit flags s z memory n x es ef en ex ez em k = k ∙ rw (es, ef, en, ex, ez, em)

  pub copy_fields-are : (flags target source n x y : ℕ) → target ≡ field 4 bytes 8 → flags ≡ field 4 bytes 4 → n ≡ field 8 bytes 16 → x ≡ field 8 bytes 24 → source ≡ field 4 bytes 12 → y ≡ field 8 bytes 32
      → e ≡ copy_edit_at os ms flags target source n x y → e ≡ copy_edit os ms (copy_fields bytes)
  copy_fields-are flags target source n x y et ef en ex es ey k = k ∙ rw (et, ef, en, ex, es, ey)

  pub unmap_fields-are : (s a n : ℕ) → s ≡ field 4 bytes 4 → a ≡ field 8 bytes 8 → n ≡ field 8 bytes 16 → e ≡ unmap_edit_at os ms s a n → e ≡ unmap_edit os ms (unmap_fields bytes)
  unmap_fields-are s a n es ea en k = k ∙ rw (es, ea, en)
