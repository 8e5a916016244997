-- What an edit writes into a lent table is what it makes of the table that is lent, and so with its index.
use Rattle.std.specs.Prelude.{ℕ, ◌≡◌, refl, List, map}
use Rattle.std.proofs.Common.{ap}
use Rattle.rules_table.specs.declared.Object.{Object}
use Rattle.rules_table.specs.declared.Mapping.{Mapping}
use Rattle.rules_table.specs.declared.Table.{Table}
use Rattle.rules_table.specs.Records.{free_object}
use Rattle.rules_calls.specs.declared.Change.{Change}
use Rattle.rules_calls.specs.declared.Change.TheVariants.{Nothing, Put, Drop, Map, Clear}
use Rattle.rules_calls.specs.declared.Edit.{Edit}
use Rattle.rules_calls.specs.Edits.{objects_after, applied}
use Rattle.rules_table.specs.declared.RawObject.{RawObject}
use Rattle.rules_table.specs.declared.Head.{Head}
use Rattle.rules_table.specs.Layout.{encoded, decoded, table_of}
use Rattle.layout.specs.Laws.{decoded-set}
use Rattle.rules_index.specs.Board.{index_after, board_after}
use Rattle.rules_lent.specs.Lent.{head_after, records_after, board_of}

objects-decoded : (rs : List RawObject) (o : Object) (c : Change) → map decoded (objects_after (encoded free_object) (encoded o) c rs) ≡ objects_after free_object o c (map decoded rs)
objects-decoded rs o Nothing = refl
objects-decoded rs o (Put i) = decoded-set rs i o
objects-decoded rs o (Drop i) = decoded-set rs i free_object
objects-decoded rs o (Map i m) = refl
objects-decoded rs o (Clear s r) = refl

-- THE LAW: the table that is lent afterwards is the edit, applied
pub after-edit : (h : Head) (ms : List Mapping) (e : Edit) → table_of (head_after e h) (records_after e ms) ≡ applied (table_of h ms) e
unfolding table_of head_after records_after applied
after-edit h ms e = rw (objects-decoded h.objects e.object e.change)

pub after-board : (h : Head) (ms : List Mapping) (ix : List ℕ) (e : Edit) → board_of (head_after e h) (records_after e ms) (index_after e.change ms ix) ≡ board_after (board_of h ms ix) e
unfolding board_after table_of
after-board h ms ix e = ap (λ (t : Table). record { table = t; index = index_after e.change ms ix }) (after-edit h ms e)
