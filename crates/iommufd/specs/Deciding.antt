-- What a command decides on any table, as an edit: document 01's rules up to the point where the table changes.
use Rattle.std.specs.Prelude.{ℕ, ◌≡◌, List}
use Rattle.rules_calls.specs.declared.Command.{Command}
use Rattle.rules_table.specs.declared.Table.{Table}
use Rattle.rules_calls.specs.declared.Edit.{Edit}
use Rattle.rules_calls.specs.Call.{command_edit, command_done, call_done, call_edit}
use Rattle.rules_index.specs.Board.{Board, board_edit, board_done}

-- what a command leaves by its own rule, over a good table
abbrev pub Left : Command → Table → List ℕ → List ℕ → Edit → List ℕ → List ℕ → Type 0
Left c t cmd area e cmd' area' = (e ≡ command_edit c t cmd area) × (cmd' ≡ (command_done c t e cmd area).bytes) × (area' ≡ (command_done c t e cmd area).area)

-- what deciding leaves over a table: the edit, the command bytes, the range area
pub record Settled (t : Table) (request : ℕ) (bytes area : List ℕ) (e : Edit) (bytes' area' : List ℕ) : Type 0 where
  pub edit : e ≡ call_edit t request bytes area
  pub reply : bytes' ≡ (call_done t request bytes area).bytes
  pub ranges : area' ≡ (call_done t request bytes area).area

-- and over a table with its index
pub record Decided (b : Board) (request : ℕ) (bytes area : List ℕ) (e : Edit) (bytes' area' : List ℕ) : Type 0 where
  pub edit : e ≡ board_edit b request bytes area
  pub reply : bytes' ≡ (board_done b request bytes area).bytes
  pub ranges : area' ≡ (board_done b request bytes area).area
