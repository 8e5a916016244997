use Rattle.runs.specs.Runs.{past_range}
use Rattle.rules_table.specs.Words.{objects_in}
use Rattle.rules_calls.specs.Landing.{blocked_in, lowest_tried}
use Rattle.layout_mappings.specs.Words.{records_of}
use Rattle.longest_run.specs.Parts.{extent_for}
use Rattle.longest_run.proofs.Parting.{Passing}
use Rattle.longest_run.proofs.past_mapped.Given as goal

abbrev pub invariant-loop-k : goal.invariant-loop-k
invariant-loop-k l = Passing (past_range l.a lowest_tried (blocked_in (objects_in l.h) (records_of l.ws) l.s) l.window) (extent_for l.s) (records_of l.ws) l.initial.best l.best l.k
