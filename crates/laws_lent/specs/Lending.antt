-- A sequence of calls on a table with its index that lie in the caller's memory: each gets head, mapping records and index as the last one left them. The definitions are those that the
-- contracts of the archive's entries cite; what is lent goes the same way as a table with its index by value, so demand 3 holds of it.
use Rattle.std.specs.Prelude.{ℕ, zero, suc, ◌≤◌, ◌^◌, ◌≡◌, refl, true, List, [], ◌∷◌, map, replicate}
use Rattle.std.proofs.Math.Path.{ap}
use Rattle.std.proofs.Common.{◌∙◌}
use Rattle.rules_table.specs.declared.Object.{Object}
use Rattle.rules_table.specs.Records.{free_object, zero_mapping, fresh_table}
use Rattle.rules_table.specs.Layout.{encoded, decoded, table_of, fresh_head}
use Rattle.rules_history.specs.Calls.{Call, trace, after}
use Rattle.rules_history.specs.Ledger.{empty, ledger_of}
use Rattle.rules_history.specs.Told.{Demand3}
use Rattle.rules_index.specs.Index.{agrees}
use Rattle.rules_index.specs.Board.{Board, fresh_board, board_after}
use Rattle.rules_lent.specs.Boards.{board_trace, board_run}
use Rattle.rules_lent.specs.Sequence.{Lent, lent_table, lent_board, lent_edit, lent_after, lent_trace, lent_run, lent_fresh}
use Rattle.layout.specs.Laws.{decode_encode}
use Rattle.laws_index.specs.History.{board_run-after, board_trace-run, demand_3_board}
use Rattle.laws_lent.specs.Applied.{after-board}

-- ---- as by value, for any table and any index

step-board : (c : Call) (l : Lent) → lent_board (lent_after c l) ≡ board_after (lent_board l) (lent_edit c l)
step-board c l = after-board l.head l.records l.index (lent_edit c l)

pub lent-run : (cs : List Call) (l : Lent) → lent_board (lent_run cs l) ≡ board_run cs (lent_board l)
unfolding lent_run board_run
lent-run [] l = refl
lent-run (c ∷ cs) l = lent-run cs (lent_after c l) ∙ ap (board_run cs) (step-board c l)

pub lent-events : (cs : List Call) (l : Lent) → lent_trace cs l ≡ board_trace cs (lent_board l)
unfolding lent_trace board_trace
lent-events [] l = refl
lent-events (c ∷ cs) l = rw (lent-events cs (lent_after c l), step-board c l)

-- ---- THE LAWS: with the index of its mappings the table that is lent goes as the table by value, and the answers are the same

module _ (cs : List Call) (l : Lent) (a : agrees l.index l.records ≡ true) where
  pub lent-after : lent_table (lent_run cs l) ≡ after cs (lent_table l)
  unfolding table_of
  lent-after = ap (λ (b : Board). b.table) (lent-run cs l) ∙ board_run-after cs (lent_board l) a

  pub lent-trace : lent_trace cs l ≡ trace cs (lent_table l)
  unfolding table_of
  lent-trace = lent-events cs l ∙ board_trace-run cs (lent_board l) a

-- ---- a fresh table

free-decoded : (n : ℕ) → map decoded (replicate n (encoded free_object)) ≡ replicate n free_object
free-decoded zero = refl
free-decoded (suc n) = rw (decode_encode free_object, free-decoded n)

pub fresh-lent : (limit : ℕ) → lent_board (lent_fresh limit) ≡ fresh_board limit
unfolding table_of fresh_head fresh_table fresh_board
fresh-lent limit = ap (λ (os : List Object). record { table = record { limit = limit; objects = os; mappings = replicate 128 zero_mapping }; index = replicate 128 0 }) (free-decoded 32)

-- THE THEOREM: demand 3, whole, for a table in the caller's memory; and after every sequence the index is that of the mapping records
pub demand_3_lent : (limit : ℕ) → limit ≤ 2 ^ 36 → (cs : List Call) → Demand3 limit (ledger_of (lent_trace cs (lent_fresh limit)) empty) (lent_table (lent_run cs (lent_fresh limit)))
    × (agrees (lent_run cs (lent_fresh limit)).index (lent_run cs (lent_fresh limit)).records ≡ true)
unfolding table_of
demand_3_lent limit h cs =
    let e = lent-events cs (lent_fresh limit) ∙ ap (board_trace cs) (fresh-lent limit) in
    let b = lent-run cs (lent_fresh limit) ∙ ap (board_run cs) (fresh-lent limit) in
    let t : lent_table (lent_run cs (lent_fresh limit)) ≡ (board_run cs (fresh_board limit)).table = ap (λ (x : Board). x.table) b in
    let q = demand_3_board limit h cs in
    (rw (e, t) q.0, ap (λ (x : Board). agrees x.index x.table.mappings) b ∙ q.1)
