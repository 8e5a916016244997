-- Past the last address nothing starts.
use native.Mathlib.Omega.{arith}
use Rattle.rules_table.specs.Words.{objects_in}
use Rattle.layout_mappings.specs.Words.{records_of}
use Rattle.rules_calls.specs.Landing.{blocked_in, lowest_tried}
use Rattle.longest_run.proofs.Running.{from_end}
use Rattle.longest_run.proofs.run_past.Goals as goal

pub returns-then-last-eq-U64MAX : goal.returns-then-last-eq-U64MAX
returns-then-last-eq-U64MAX c = let a = c.args in from_end _ lowest_tried (blocked_in (objects_in a.h.now) (records_of a.ws.now) a.s) _ _ (omega arith)
