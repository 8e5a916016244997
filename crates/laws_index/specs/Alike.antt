-- Isolation for tables with their indexes: MAP, UNMAP, ALLOW_IOVAS and IOVA_RANGES give the same answer on two good boards whose tables agree on the space, whatever records and indexes hold of other spaces.
use Rattle.std.specs.Prelude.{ℕ, ◌≡◌, true, List}
use Rattle.wire.specs.Fields.{field}
use Rattle.rules_calls.specs.Call.{call_done}
use Rattle.rules_history.specs.Alike.{Alike}
use Rattle.rules_index.specs.Board.{Board, good_board, board_done}
use Rattle.laws_isolation.specs.AtDoor.{SameAnswer, door-map, door-unmap, door-allow, door-ranges}
use Rattle.laws_board.specs.Answers.{good-table, good-index, done-same}

module _ (b c : Board) (gb : good_board b ≡ true) (gc : good_board c ≡ true) (bytes area : List ℕ) where
  same : (request : ℕ) → SameAnswer (call_done b.table request bytes area) (call_done c.table request bytes area) → SameAnswer (board_done b request bytes area) (board_done c request bytes area)
  same request q = rw (done-same b (good-index b gb) request bytes area, done-same c (good-index c gc) request bytes area) q

  -- THE LAWS
  pub board_map : Alike (field 4 bytes 8) b.table c.table → SameAnswer (board_done b 0x3B85 bytes area) (board_done c 0x3B85 bytes area)
  board_map a = same 0x3B85 (door-map b.table c.table (good-table b gb) (good-table c gc) bytes area a)

  module _ (a : Alike (field 4 bytes 4) b.table c.table) where
    pub board_unmap : SameAnswer (board_done b 0x3B86 bytes area) (board_done c 0x3B86 bytes area)
    board_unmap = same 0x3B86 (door-unmap b.table c.table (good-table b gb) (good-table c gc) bytes area a)

    pub board_allow : SameAnswer (board_done b 0x3B82 bytes area) (board_done c 0x3B82 bytes area)
    board_allow = same 0x3B82 (door-allow b.table c.table (good-table b gb) (good-table c gc) bytes area a)

    pub board_ranges : SameAnswer (board_done b 0x3B84 bytes area) (board_done c 0x3B84 bytes area)
    board_ranges = same 0x3B84 (door-ranges b.table c.table (good-table b gb) (good-table c gc) bytes area a)
