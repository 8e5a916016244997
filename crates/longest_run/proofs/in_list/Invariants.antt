use Rattle.rangelists.specs.Held.{ranges_of}
use Rattle.runs.specs.Runs.{in_window}
use Rattle.rules_table.specs.Words.{objects_in}
use Rattle.rules_calls.specs.Landing.{blocked_in, lowest_tried}
use Rattle.layout_mappings.specs.Words.{records_of}
use Rattle.longest_run.proofs.Running.{Trying}
use Rattle.longest_run.proofs.in_list.Given as goal

abbrev pub invariant-loop-i : goal.invariant-loop-i
invariant-loop-i l = Trying (in_window l.a lowest_tried (blocked_in (objects_in l.h) (records_of l.ws) l.s)) (ranges_of l.windows) l.initial.best l.best l.i
