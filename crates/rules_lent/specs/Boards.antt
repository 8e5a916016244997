-- A sequence of calls on a table with its index: each gets both as the last one left them.
use Rattle.std.specs.Prelude.{ℕ, ◌≡◌, refl, List, [], ◌∷◌, ◌++◌, map, ℤ, negsuc, replicate}
use Rattle.rules_table.specs.Records.{fresh_table}
use Rattle.rules_calls.specs.declared.Edit.{Edit}
use Rattle.rules_calls.specs.Results.{signed_result}
use Rattle.rules_calls.specs.Answers.{id_or}
use Rattle.rules_calls.specs.Orders.{bind_order, attach_order, detach_order, reach_order}
use Rattle.rules_calls.specs.Call.{calls}
use Rattle.rules_history.specs.Calls.{Call, Reply, Event}
use Rattle.rules_index.specs.Board.{Board, fresh_board, board_edit, board_done, board_host, board_after, guards, follows}

-- the edit that a call decides
abbrev pub edit_of : Call → Board → Edit
edit_of (Call.Command request bytes area) b = board_edit b request bytes area
edit_of (Call.Bind bitmap r) b = board_host b (bind_order bitmap r)
edit_of (Call.Attach d s) b = board_host b (attach_order d s)
edit_of (Call.Detach d) b = board_host b (detach_order d)
edit_of (Call.Reach d a n write) b = board_host b (reach_order d a n write)

-- what a host call answers: the result where it is negative, else what it tells (the inline functions of the C header)
abbrev pub host_answer : Edit → ℤ
host_answer e = id_or e.errno e.value

-- what a call answers
abbrev pub board_reply : Call → Board → Reply
board_reply (Call.Command request bytes area) b = record { result = signed_result (board_edit b request bytes area).errno; bytes = (board_done b request bytes area).bytes }
board_reply (Call.Bind bitmap r) b = record { result = host_answer (board_host b (bind_order bitmap r)); bytes = [] }
board_reply (Call.Attach d s) b = record { result = host_answer (board_host b (attach_order d s)); bytes = [] }
board_reply (Call.Detach d) b = record { result = host_answer (board_host b (detach_order d)); bytes = [] }
board_reply (Call.Reach d a n write) b = record { result = signed_result (board_host b (reach_order d a n write)).errno; bytes = [] }

unfoldable pub board_trace : List Call → Board → List Event
board_trace [] b = []
board_trace (c ∷ cs) b = record { call = c; reply = board_reply c b } ∷ board_trace cs (board_after b (edit_of c b))

unfoldable pub board_run : List Call → Board → Board
board_run [] b = b
board_run (c ∷ cs) b = board_run cs (board_after b (edit_of c b))

-- ---- examples: to unfold `runs` is to unfold all that it lists

unfoldable runs : List Call → Board → Board
unfolding board_run board_trace board_edit board_done board_host board_after calls guards follows fresh_board fresh_table
runs cs b = board_run cs b

abbrev u32 : ℕ → List ℕ
u32 n = n ∷ 0 ∷ 0 ∷ 0 ∷ []

abbrev u64 : ℕ → List ℕ
u64 n = u32 n ++ u32 0

-- a space, which gets the id 1; a byte of memory at address a of it; its removal
abbrev alloc : ℕ → List ℕ
alloc id = u32 12 ++ (u32 0 ++ u32 id)

abbrev map_at : ℕ → Call
map_at a = Call.Command 0x3B85 (u32 40 ++ (u32 5 ++ (u32 1 ++ (u32 0 ++ (u64 0 ++ (u64 1 ++ u64 a)))))) []

abbrev unmap_at : ℕ → Call
unmap_at a = Call.Command 0x3B86 (u32 24 ++ (u32 1 ++ (u64 a ++ u64 1))) []

-- record 2 is mapped below record 1 and stands before it; one that is refused changes nothing; then record 1 goes, and is taken again by a mapping below record 2
mapped : map (λ (cs : List Call). (board_run (Call.Command 0x3B81 (alloc 0) [] ∷ map_at 8 ∷ map_at 4 ∷ map_at 4 ∷ cs) (fresh_board 4)).index) ([] ∷ (unmap_at 8 ∷ []) ∷ (unmap_at 8 ∷ map_at 0 ∷ []) ∷ [])
    ≡ ((2 ∷ 1 ∷ replicate 126 0) ∷ (2 ∷ replicate 127 0) ∷ (1 ∷ 2 ∷ replicate 126 0) ∷ [])
unfolding runs
mapped = refl

-- with an index that lists a record too many every call is -117, and the board stays
abbrev other : Board
other = record { table = fresh_table 4; index = 1 ∷ replicate 127 0 }

other-stays : board_run (Call.Command 0x3B81 (alloc 7) [] ∷ Call.Detach 1 ∷ []) other ≡ other
unfolding runs
other-stays = refl

other-trace : map (λ (e : Event). e.reply) (board_trace (Call.Command 0x3B81 (alloc 7) [] ∷ Call.Detach 1 ∷ []) other)
    ≡ (record { result = negsuc 116; bytes = alloc 7 } ∷ record { result = negsuc 116; bytes = [] } ∷ [])
unfolding runs
other-trace = refl
