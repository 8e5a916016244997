-- With the index of its mappings beside a table no answer changes.
use Rattle.std.specs.Prelude.{ℕ, ◌≡◌, true, List}
use Rattle.std.proofs.Math.Path.{ap}
use Rattle.lists.specs.Tests.{and_left, and_right}
use Rattle.rules_table.specs.Good.{good}
use Rattle.rules_table.specs.declared.Mapping.{Mapping}
use Rattle.rules_calls.specs.declared.Edit.{Edit}
use Rattle.rules_calls.specs.declared.Order.{Order}
use Rattle.rules_calls.specs.Requests.{lookup}
use Rattle.rules_calls.specs.Orders.{host_edit}
use Rattle.rules_calls.specs.Call.{call_done, call_edit, row_done}
use Rattle.rules_index.specs.Index.{agrees}
use Rattle.rules_index.specs.Board.{Board, good_board, board_edit, board_done, board_host}
use Rattle.index.specs.Agreeing.{agrees-one}
use Rattle.index.specs.Boards.{guarded-same}

-- a board that is not bad
pub good-table : (b : Board) → good_board b ≡ true → good b.table ≡ true
unfolding good_board
good-table b g = and_left (good b.table) (agrees b.index b.table.mappings) g

pub good-index : (b : Board) → good_board b ≡ true → agrees b.index b.table.mappings ≡ true
unfolding good_board
good-index b g = and_right (good b.table) (agrees b.index b.table.mappings) g

-- THE LAWS: with an agreeing index no answer changes
module _ (b : Board) (a : agrees b.index b.table.mappings ≡ true) where
  pub board_same : (request : ℕ) (bytes area : List ℕ) → board_edit b request bytes area ≡ call_edit b.table request bytes area
  unfolding board_edit
  board_same request bytes area = guarded-same b (call_edit b.table request bytes area) a

  pub done-same : (request : ℕ) (bytes area : List ℕ) → board_done b request bytes area ≡ call_done b.table request bytes area
  unfolding board_done call_done
  done-same request bytes area = ap (λ (e : Edit). row_done (lookup request) b.table e bytes area) (board_same request bytes area)

  pub host_same : (o : Order) → board_host b o ≡ host_edit b.table o
  unfolding board_host
  host_same o = guarded-same b (host_edit b.table o) a

-- and there is one such index
pub index-one : (ix jx : List ℕ) (ms : List Mapping) → agrees ix ms ≡ true → agrees jx ms ≡ true → ix ≡ jx
index-one ix jx ms e f = agrees-one ix jx ms e f
