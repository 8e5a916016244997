use Rattle.rangelists.specs.Held.{ranges_of}
use Rattle.runs.specs.Runs.{past_range}
use Rattle.rules_table.specs.Words.{objects_in}
use Rattle.rules_calls.specs.Landing.{blocked_in, lowest_tried}
use Rattle.layout_mappings.specs.Words.{records_of}
use Rattle.longest_run.proofs.Running.{Trying}
use Rattle.longest_run.proofs.past_slot.Given as goal

abbrev pub invariant-loop-k : goal.invariant-loop-k
invariant-loop-k l = Trying (past_range l.a lowest_tried (blocked_in (objects_in l.o.head.now) (records_of l.ws) l.s) l.window) (ranges_of l.l) l.initial.best l.best l.k
