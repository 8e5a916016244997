-- Sequences of calls on a table with its index: the table goes as the table alone, the answers are the same, and the index stays that of the table's mappings. So demand 3 holds.
use Rattle.std.specs.Prelude.{ℕ, zero, suc, ◌≤◌, ◌-◌, ◌^◌, ◌≡◌, refl, true, List, [], ◌∷◌, ℤ}
use Rattle.std.proofs.Math.Path.{sym, ap}
use Rattle.std.proofs.Common.{◌∙◌}
use Rattle.lists.specs.Tests.{by-test}
use Rattle.lists.specs.Checks.{first}
use Rattle.rules_table.specs.declared.Object.{Object}
use Rattle.rules_table.specs.declared.Table.{Table}
use Rattle.rules_table.specs.Records.{object_at, fresh_table}
use Rattle.rules_calls.specs.declared.Answer.{Answer}
use Rattle.rules_calls.specs.declared.Change.{Change}
use Rattle.rules_calls.specs.declared.Change.TheVariants.{Put}
use Rattle.rules_calls.specs.declared.Edit.{Edit}
use Rattle.rules_calls.specs.Results.{signed_result}
use Rattle.rules_calls.specs.Edits.{accept, settle, applied}
use Rattle.rules_calls.specs.Answers.{outcome, outcome_id}
use Rattle.rules_calls.specs.Attach.{attach_checks, attached_object, attach_edit, detach_checks, loose_object, detach_edit}
use Rattle.rules_calls.specs.Gate.{table_errno}
use Rattle.rules_calls.specs.Named.{bind_call, attach_call, detach_call, reach_call}
use Rattle.rules_calls.specs.Orders.{bind_order, attach_order, detach_order, reach_order, host_edit}
use Rattle.rules_history.specs.Calls.{Call, Reply, Event, reply_of, table_after, trace, after}
use Rattle.rules_history.specs.Ledger.{empty, ledger_of}
use Rattle.rules_history.specs.Told.{Demand3}
use Rattle.rules_index.specs.Index.{agrees}
use Rattle.rules_index.specs.Board.{Board, fresh_board, good_board, board_after}
use Rattle.rules_lent.specs.Boards.{edit_of, host_answer, board_reply, board_trace, board_run}
use Rattle.edits.specs.Replies.{call-edit}
use Rattle.index.specs.Agreeing.{fresh-agrees}
use Rattle.laws_history.specs.History.{demand_3}
use Rattle.laws_board.specs.Answers.{good-index, board_same, done-same, host_same}
use Rattle.laws_board.specs.Refused.{board_117}
use Rattle.laws_index.specs.Kept.{reach-stays, board_kept}

-- ---- one call

-- attach and detach tell no number
no_number : (m k : ℕ) (c : Change) (o : Object) → host_answer (settle m (settle k (accept 0 c o))) ≡ signed_result (settle m (settle k (accept 0 c o))).errno
unfolding signed_result
no_number zero zero c o = refl
no_number zero (suc k) c o = refl
no_number (suc m) k c o = refl

attach_result : (t : Table) (d s : ℕ) → host_answer (host_edit t (attach_order d s)) ≡ signed_result (host_edit t (attach_order d s)).errno
unfolding host_edit attach_edit
attach_result t d s = no_number (table_errno t) (first (attach_checks t.objects t.mappings (object_at t.objects d) s) 0) (Put (d - 1)) (attached_object (object_at t.objects d) s)

detach_result : (t : Table) (d : ℕ) → host_answer (host_edit t (detach_order d)) ≡ signed_result (host_edit t (detach_order d)).errno
unfolding host_edit detach_edit
detach_result t d = no_number (table_errno t) (first (detach_checks (object_at t.objects d)) 0) (Put (d - 1)) (loose_object (object_at t.objects d))

abbrev told : ℤ → Reply
told z = record { result = z; bytes = [] }

module _ (b : Board) (a : agrees b.index b.table.mappings ≡ true) where
  pub step-table : (c : Call) → (board_after b (edit_of c b)).table ≡ table_after c b.table
  unfolding board_after outcome outcome_id bind_call attach_call detach_call host_edit
  step-table (Call.Command request bytes area) = ap (applied b.table) (board_same b a request bytes area) ∙ sym (ap (λ (x : Answer). x.table) (call-edit b.table request bytes area))
  step-table (Call.Bind bitmap r) = ap (applied b.table) (host_same b a (bind_order bitmap r))
  step-table (Call.Attach d s) = ap (applied b.table) (host_same b a (attach_order d s))
  step-table (Call.Detach d) = ap (applied b.table) (host_same b a (detach_order d))
  step-table (Call.Reach d x n write) = ap (applied b.table) (host_same b a (reach_order d x n write)) ∙ reach-stays b.table (reach_order d x n write) write

  pub step-reply : (c : Call) → board_reply c b ≡ reply_of c b.table
  unfolding outcome outcome_id bind_call attach_call detach_call reach_call
  step-reply (Call.Command request bytes area) =
      rw (board_same b a request bytes area, done-same b a request bytes area, call-edit b.table request bytes area)
  step-reply (Call.Bind bitmap r) = ap (λ (e : Edit). told (host_answer e)) (host_same b a (bind_order bitmap r))
  step-reply (Call.Attach d s) = ap (λ (e : Edit). told (host_answer e)) (host_same b a (attach_order d s)) ∙ ap told (attach_result b.table d s)
  step-reply (Call.Detach d) = ap (λ (e : Edit). told (host_answer e)) (host_same b a (detach_order d)) ∙ ap told (detach_result b.table d)
  step-reply (Call.Reach d x n write) = ap (λ (e : Edit). told (signed_result e.errno)) (host_same b a (reach_order d x n write))

  -- where the table is bad nothing changes
  pub step-agrees : (c : Call) → agrees (board_after b (edit_of c b)).index (board_after b (edit_of c b)).table.mappings ≡ true
  step-agrees c =
      by-test (good_board b)
      (λ g. good-index (board_after b (edit_of c b)) (board_kept b g c))
      (λ g. rw (board_117 b g c).1 a)

-- ---- the sequence

-- THE LAWS: with an agreeing index the table goes as the table alone, the answers are the same, and the index agrees after each call
pub board_run-after : (cs : List Call) (b : Board) → agrees b.index b.table.mappings ≡ true → (board_run cs b).table ≡ after cs b.table
unfolding board_run after
board_run-after [] b a = refl
board_run-after (c ∷ cs) b a = board_run-after cs (board_after b (edit_of c b)) (step-agrees b a c) ∙ ap (after cs) (step-table b a c)

pub board_trace-run : (cs : List Call) (b : Board) → agrees b.index b.table.mappings ≡ true → board_trace cs b ≡ trace cs b.table
unfolding board_trace trace
board_trace-run [] b a = refl
board_trace-run (c ∷ cs) b a =
    ap (λ (r : Reply). record { call = c; reply = r } ∷ board_trace cs (board_after b (edit_of c b))) (step-reply b a c)
    ∙ ap (λ (es : List Event). record { call = c; reply = reply_of c b.table } ∷ es) (board_trace-run cs (board_after b (edit_of c b)) (step-agrees b a c) ∙ ap (trace cs) (step-table b a c))

pub board_agrees : (cs : List Call) (b : Board) → agrees b.index b.table.mappings ≡ true → agrees (board_run cs b).index (board_run cs b).table.mappings ≡ true
unfolding board_run
board_agrees [] b a = a
board_agrees (c ∷ cs) b a = board_agrees cs (board_after b (edit_of c b)) (step-agrees b a c)

fresh-board : (limit : ℕ) → agrees (fresh_board limit).index (fresh_board limit).table.mappings ≡ true
unfolding fresh_board fresh_table
fresh-board limit = fresh-agrees

fresh-table : (limit : ℕ) → (fresh_board limit).table ≡ fresh_table limit
unfolding fresh_board
fresh-table limit = refl

-- THE THEOREM: demand 3 for a table with its index; and after every sequence the index is that of the table's mappings
pub demand_3_board : (limit : ℕ) → limit ≤ 2 ^ 36 → (cs : List Call) → Demand3 limit (ledger_of (board_trace cs (fresh_board limit)) empty) (board_run cs (fresh_board limit)).table
    × (agrees (board_run cs (fresh_board limit)).index (board_run cs (fresh_board limit)).table.mappings ≡ true)
demand_3_board limit h cs = (
  rw (board_trace-run cs (fresh_board limit) (fresh-board limit), board_run-after cs (fresh_board limit) (fresh-board limit), fresh-table limit) (demand_3 limit h cs),
  board_agrees cs (fresh_board limit) (fresh-board limit),
)
