-- The setup of a plan: a table with the limit, the spaces by IOAS_ALLOC, bind, attach. It stops at the first call that is refused.
use Rattle.std.specs.Prelude.{ℕ, zero, suc, cond, List, [], ◌∷◌, Result, Ok, Err, pos}
use Rattle.std.specs.Int.Signed.{lt_z}
use Rattle.rules_table.specs.declared.Table.{Table}
use Rattle.rules_calls.specs.declared.Answer.{Answer}
use Rattle.rules_calls.specs.Answers.{fresh_answer, outcome, outcome_id}
use Rattle.rules_calls.specs.Orders.{bind_order, attach_order, host_edit}
use Rattle.rules_calls.specs.Call.{call_done}
use Rattle.plan_shape.specs.Plan.{Device, Pair, Plan}

-- the table after a call; an error where the call is refused, its result below zero
unfoldable pub setup_by : Answer → Result Table Table
setup_by a = cond (lt_z a.result (pos 0)) (Err a.table) (Ok a.table)

-- the table that is left, refused or not
abbrev pub left : Result Table Table → Table
left (Err t) = t
left (Ok t) = t

-- what comes next, where nothing was refused
unfoldable pub onward : Result Table Table → (Table → Result Table Table) → Result Table Table
onward (Err t) f = Err t
onward (Ok t) f = f t

-- IOAS_ALLOC: size 12, flags 0, id 0, and no range area
abbrev pub alloc_bytes : List ℕ
alloc_bytes = 12 ∷ 0 ∷ 0 ∷ 0 ∷ 0 ∷ 0 ∷ 0 ∷ 0 ∷ 0 ∷ 0 ∷ 0 ∷ 0 ∷ []

unfoldable pub with_space : Table → Result Table Table
with_space t = setup_by (call_done t 0x3B81 alloc_bytes []).answer

unfoldable pub with_device : Device → Table → Result Table Table
with_device d t = setup_by (outcome_id t (host_edit t (bind_order d.bitmap d.reserved)))

unfoldable pub with_pair : Pair → Table → Result Table Table
with_pair p t = setup_by (outcome t (host_edit t (attach_order p.device p.space)))

unfoldable pub with_spaces : ℕ → Table → Result Table Table
with_spaces zero t = Ok t
with_spaces (suc n) t = onward (with_space t) (with_spaces n)

unfoldable pub with_devices : List Device → Table → Result Table Table
with_devices [] t = Ok t
with_devices (d ∷ ds) t = onward (with_device d t) (with_devices ds)

unfoldable pub with_pairs : List Pair → Table → Result Table Table
with_pairs [] t = Ok t
with_pairs (p ∷ ps) t = onward (with_pair p t) (with_pairs ps)

unfoldable pub set_up : Plan → Result Table Table
set_up p = onward (onward (onward (setup_by (fresh_answer p.limit)) (with_spaces p.spaces)) (with_devices p.bound)) (with_pairs p.attached)
