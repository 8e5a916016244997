-- A sequence of calls on a table in the caller's memory: each gets head, records and index as the last one left them.
use Rattle.std.specs.Prelude.{ℕ, ◌≡◌, refl, List, [], ◌∷◌, replicate}
use Rattle.rules_table.specs.Limits.{mapping_count}
use Rattle.rules_table.specs.declared.Mapping.{Mapping}
use Rattle.rules_table.specs.declared.Table.{Table}
use Rattle.rules_table.specs.declared.Head.{Head}
use Rattle.rules_table.specs.Records.{zero_mapping, fresh_table}
use Rattle.rules_table.specs.Layout.{table_of, fresh_head, encoded, decoded}
use Rattle.rules_calls.specs.declared.Edit.{Edit}
use Rattle.rules_history.specs.Calls.{Call, Reply, Event}
use Rattle.rules_index.specs.Board.{Board, fresh_board, index_after}
use Rattle.rules_lent.specs.Lent.{head_after, records_after, board_of}
use Rattle.rules_lent.specs.Boards.{edit_of, board_reply}

-- a table with its index in the caller's memory, and what it stands for
pub record Lent : Type 0 where
  pub head : Head
  pub records : List Mapping
  pub index : List ℕ

abbrev pub lent_table : Lent → Table
lent_table l = table_of l.head l.records

abbrev pub lent_board : Lent → Board
lent_board l = board_of l.head l.records l.index

-- what an entry leaves, and what it answers
abbrev pub lent_edit : Call → Lent → Edit
lent_edit c l = edit_of c (lent_board l)

abbrev pub lent_after : Call → Lent → Lent
lent_after c l = record { head = head_after (lent_edit c l) l.head; records = records_after (lent_edit c l) l.records; index = index_after (lent_edit c l).change l.records l.index }

abbrev pub lent_reply : Call → Lent → Reply
lent_reply c l = board_reply c (lent_board l)

unfoldable pub lent_trace : List Call → Lent → List Event
lent_trace [] l = []
lent_trace (c ∷ cs) l = record { call = c; reply = lent_reply c l } ∷ lent_trace cs (lent_after c l)

unfoldable pub lent_run : List Call → Lent → Lent
lent_run [] l = l
lent_run (c ∷ cs) l = lent_run cs (lent_after c l)

abbrev pub lent_fresh : ℕ → Lent
lent_fresh limit = record { head = fresh_head limit; records = replicate mapping_count zero_mapping; index = replicate mapping_count 0 }

-- ---- examples: a fresh table in the caller's memory stands for a fresh table with its index

fresh-lent : lent_board (lent_fresh 4) ≡ fresh_board 4
unfolding table_of fresh_head fresh_table fresh_board encoded decoded
fresh-lent = refl
