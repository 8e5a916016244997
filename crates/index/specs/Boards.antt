-- A table with an index: with the index of its mappings every call is that on the table, with any other it is 117.
use Rattle.std.specs.Prelude.{ℕ, ◌≡◌, true, false, List}
use Rattle.std.proofs.Math.Path.{refl, ap}
use Rattle.std.proofs.Common.{sym, ◌∙◌}
use Rattle.lists.specs.Tests.{by-test, contrary}
use Rattle.rules_table.specs.declared.Table.{Table}
use Rattle.rules_table.specs.Good.{good}
use Rattle.rules_calls.specs.declared.Edit.{Edit}
use Rattle.rules_calls.specs.declared.Order.{Order}
use Rattle.rules_calls.specs.Requests.{lookup}
use Rattle.rules_calls.specs.Edits.{refuse}
use Rattle.rules_calls.specs.Gate.{gate_errno, table_errno}
use Rattle.rules_calls.specs.Orders.{host_edit}
use Rattle.rules_calls.specs.Call.{call_edit, row_done, call_done}
use Rattle.rules_index.specs.Index.{agrees}
use Rattle.rules_index.specs.Board.{Board, guarded, board_edit, board_done, board_host}

module _ (b : Board) where
  pub guarded-same : (e : Edit) → agrees b.index b.table.mappings ≡ true → guarded b e ≡ e
  unfolding guarded
  guarded-same e a = rw a refl

  pub guarded-other : (e : Edit) → agrees b.index b.table.mappings ≡ false → guarded b e ≡ refuse 117
  unfolding guarded
  guarded-other e a = rw a refl

-- a bad table
pub bad-call : (t : Table) (request : ℕ) (bytes area : List ℕ) → good t ≡ false → call_edit t request bytes area ≡ refuse 117
unfolding call_edit gate_errno
bad-call t request bytes area g = rw g refl

pub bad-host : (t : Table) (o : Order) → good t ≡ false → host_edit t o ≡ refuse 117
unfolding host_edit table_errno
bad-host t o g = rw g refl

-- an index that agrees where the table is good, as one that is worked out from its records
module _ (b : Board) (made : good b.table ≡ true → agrees b.index b.table.mappings ≡ true) where
  guarded-made : (e : Edit) → (good b.table ≡ false → e ≡ refuse 117) → guarded b e ≡ e
  guarded-made e bad =
      by-test (agrees b.index b.table.mappings)
      (λ a. guarded-same b e a)
      (λ a. guarded-other b e a ∙ sym (bad (by-test (good b.table) (λ g. contrary (agrees b.index b.table.mappings) (made g) a) (λ g. g))))

  pub made-edit : (request : ℕ) (bytes area : List ℕ) → board_edit b request bytes area ≡ call_edit b.table request bytes area
  unfolding board_edit
  made-edit request bytes area = guarded-made (call_edit b.table request bytes area) (bad-call b.table request bytes area)

  pub made-done : (request : ℕ) (bytes area : List ℕ) → board_done b request bytes area ≡ call_done b.table request bytes area
  unfolding board_done call_done
  made-done request bytes area = ap (λ (e : Edit). row_done (lookup request) b.table e bytes area) (made-edit request bytes area)

  pub made-host : (o : Order) → board_host b o ≡ host_edit b.table o
  unfolding board_host
  made-host o = guarded-made (host_edit b.table o) (bad-host b.table o)
