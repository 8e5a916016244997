-- One command of a plan on a table.
use Rattle.std.specs.Prelude.{ℕ, List}
use Rattle.rules_table.specs.declared.Table.{Table}
use Rattle.rules_table.specs.Charge.{charge}
use Rattle.rules_calls.specs.declared.Answer.{Answer}
use Rattle.rules_calls.specs.Call.{call_done}
use Rattle.plan_shape.specs.declared.Section.TheVariants.{Commands}
use Rattle.plan_shape.specs.Plan.{item_end, Order, order_at}
use Rattle.plan_commands.specs.declared.Ran.{Ran}

-- the answer of the door to a command
unfoldable pub answer_to : Table → Order → Answer
answer_to t o = (call_done t o.request o.bytes o.area).answer

-- its result, the charge after it, and where the next command stands
unfoldable pub ran_by : Order → ℕ → Answer → Ran
ran_by o next a = record { line = record { request = o.request; result = a.result; charge = charge a.table.mappings }; next = next; table = a.table }

unfoldable pub ran_at : Table → List ℕ → ℕ → Ran
ran_at t bs at = ran_by (order_at bs at) (item_end Commands bs at) (answer_to t (order_at bs at))
