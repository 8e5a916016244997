-- A sequence of calls on one table: each gets the table as the last one left it. The definitions are those that the contracts of the public functions cite.
use Rattle.std.specs.Prelude.{ℕ, Bool, List, [], ◌∷◌, ◌++◌, ℤ, pos, negsuc, ◌≡◌, refl, replicate}
use Rattle.rangelists.specs.Listed.{Reserved}
use Rattle.rules_table.specs.declared.Table.{Table}
use Rattle.rules_calls.specs.Call.{call_done, calls}
use Rattle.rules_calls.specs.Named.{reach_call, attach_call, detach_call, bind_call}
use Rattle.rules_table.specs.Records.{fresh_table, new_space, free_object}

-- a call by its arguments: a command with any request number, bytes and range area, or one of the four host calls
pub data Call : Type 0 where
  Command : (request : ℕ) (bytes area : List ℕ) → Call
  Bind : (bitmap : ℕ) (reserved : Reserved) → Call
  Attach : (device space : ℕ) → Call
  Detach : (device : ℕ) → Call
  Reach : (device address length : ℕ) (write : Bool) → Call

-- what a call answers: its result, and the command bytes as it left them
pub record Reply : Type 0 where
  pub result : ℤ
  pub bytes : List ℕ

abbrev pub reply_of : Call → Table → Reply
reply_of (Command request bytes area) t = record { result = (call_done t request bytes area).answer.result; bytes = (call_done t request bytes area).bytes }
reply_of (Bind bitmap l) t = record { result = (bind_call t bitmap l).result; bytes = [] }
reply_of (Attach d s) t = record { result = (attach_call t d s).result; bytes = [] }
reply_of (Detach d) t = record { result = (detach_call t d).result; bytes = [] }
reply_of (Reach d a n write) t = record { result = (reach_call t d a n write).result; bytes = [] }

-- the table after it
abbrev pub table_after : Call → Table → Table
table_after (Command request bytes area) t = (call_done t request bytes area).answer.table
table_after (Bind bitmap l) t = (bind_call t bitmap l).table
table_after (Attach d s) t = (attach_call t d s).table
table_after (Detach d) t = (detach_call t d).table
table_after (Reach d a n write) t = t

-- a call with its answer: all that the ledger is fed
pub record Event : Type 0 where
  pub call : Call
  pub reply : Reply

unfoldable pub trace : List Call → Table → List Event
trace [] t = []
trace (c ∷ cs) t = record { call = c; reply = reply_of c t } ∷ trace cs (table_after c t)

unfoldable pub after : List Call → Table → Table
after [] t = t
after (c ∷ cs) t = after cs (table_after c t)

-- ---- examples: IOAS_ALLOC twice on a fresh table, and an unknown request between them

abbrev ask : ℕ → List ℕ
ask id = (12 ∷ 0 ∷ 0 ∷ 0 ∷ []) ++ ((0 ∷ 0 ∷ 0 ∷ 0 ∷ []) ++ (id ∷ 0 ∷ 0 ∷ 0 ∷ []))

abbrev asked : List Call
asked = Command 0x3B81 (ask 7) [] ∷ Command 0x3B7F (ask 7) [] ∷ Command 0x3B81 (ask 7) [] ∷ []

-- the space of each accepted one is there, and the refused one changed nothing
made : (after asked (fresh_table 4)).objects ≡ new_space ∷ new_space ∷ replicate 30 free_object
unfolding after calls fresh_table
made = refl

-- what is told of each: its result, and its bytes with the id written
traced : trace asked (fresh_table 4) ≡
    record { call = Command 0x3B81 (ask 7) []; reply = record { result = pos 0; bytes = ask 1 } }
    ∷ record { call = Command 0x3B7F (ask 7) []; reply = record { result = negsuc 24; bytes = ask 7 } }
    ∷ record { call = Command 0x3B81 (ask 7) []; reply = record { result = pos 0; bytes = ask 2 } }
    ∷ []
unfolding trace calls fresh_table
traced = refl
