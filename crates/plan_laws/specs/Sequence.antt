-- A plan as a sequence of calls on a fresh table, and its lines as these calls, their answers and the ledger tell them.
use Rattle.std.specs.Prelude.{ℕ, ◌+◌, ◌≡◌, List, [], ◌∷◌, ◌++◌, map, Result, is_ok, true, replicate}
use Rattle.rules_table.specs.declared.Table.{Table}
use Rattle.rules_history.specs.Calls.{Call, Event, after}
use Rattle.rules_history.specs.Ledger.{Ledger, feed, ledger_charge}
use Rattle.plan_shape.specs.Plan.{Device, Pair, Order, Plan}
use Rattle.plan_setup.specs.Setting.{left, alloc_bytes}
use Rattle.plan_commands.specs.Ran.{answer_to}
use Rattle.plan.specs.Running.{Line}

abbrev pub space_call : Call
space_call = Call.Command 0x3B81 alloc_bytes []

abbrev pub device_call : Device → Call
device_call d = Call.Bind d.bitmap d.reserved

abbrev pub pair_call : Pair → Call
pair_call p = Call.Attach p.device p.space

abbrev pub order_call : Order → Call
order_call o = Call.Command o.request o.bytes o.area

-- the setup, then the commands
unfoldable pub setup_calls : Plan → List Call
setup_calls p = replicate p.spaces space_call ++ (map device_call p.bound ++ map pair_call p.attached)

unfoldable pub plan_calls : Plan → List Call
plan_calls p = setup_calls p ++ map order_call p.commands

-- the table after the commands
unfoldable pub table_of : Table → List Order → Table
table_of t [] = t
table_of t (o ∷ os) = table_of (answer_to t o).table os

-- a setup that was not refused left the table of its calls
pub record Set (s : Result Table Table) (cs : List Call) (t : Table) : Type 0 where
  pub table : is_ok s ≡ true → left s ≡ after cs t

-- ---- the lines

abbrev pub request_in : Call → ℕ
request_in (Call.Command request bytes area) = request
request_in (Call.Bind bitmap reserved) = 0
request_in (Call.Attach d s) = 0
request_in (Call.Detach d) = 0
request_in (Call.Reach d a n write) = 0

-- a command's line as its call, its answer and the ledger after it tell it, without the table
unfoldable pub line_told : ℕ → Event → Ledger → Line
line_told k e l = record { number = k; request = request_in e.call; result = e.reply.result; charge = ledger_charge l }

unfoldable pub lines_told : ℕ → Ledger → List Event → List Line
lines_told k l [] = []
lines_told k l (e ∷ es) = line_told k e (feed e l) ∷ lines_told (k + 1) (feed e l) es
