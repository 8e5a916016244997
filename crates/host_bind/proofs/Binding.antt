-- "No record: 12" at the end of bind's list is what a new object refuses by itself.
use Prim.Native.Nat.{ℕ}
use mathlib.Core.Path.{◌≡◌, sym}
use mathlib.Core.List.{List}
use Rattle.lists.specs.Checks.{first}
use Rattle.rangelists.specs.Listed.{Reserved}
use Rattle.rules_table.specs.declared.Object.{Object}
use Rattle.rules_table.specs.Charge.{free_record}
use Rattle.rules_table.specs.Fits.{bind_checks}
use Rattle.rules_calls.specs.Edits.{settle, added}
use Rattle.edits.specs.Settled.{settle-record}
use Rattle.rules_calls.specs.Bind.{new_device, bind_rule, bind_edit}

pub bind_record : (os : List Object) (bitmap : ℕ) (l : Reserved) → bind_edit os bitmap l ≡ settle (first (bind_checks bitmap l) 0) (added (free_record os) (new_device bitmap l))
unfolding bind_edit bind_rule
bind_record os bitmap l = sym (settle-record (bind_checks bitmap l) (free_record os) (new_device bitmap l))
