use Rattle.runs.specs.Runs.{past_range}
use Rattle.rules_table.specs.Spaces.{reserved_for}
use Rattle.rules_table.specs.Words.{objects_in}
use Rattle.rules_calls.specs.Landing.{blocked_in, lowest_tried}
use Rattle.layout_mappings.specs.Words.{records_of}
use Rattle.longest_run.proofs.Parting.{Passing}
use Rattle.longest_run.proofs.past_reserved.Given as goal

abbrev pub invariant-loop-i : goal.invariant-loop-i
invariant-loop-i l = Passing (past_range l.a lowest_tried (blocked_in (objects_in l.h) (records_of l.ws) l.s) l.window) (reserved_for l.s) (objects_in l.h) l.initial.best l.best l.i
