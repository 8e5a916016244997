use Rattle.ranges.specs.Ranges.{U64MAX}
use Rattle.rules_table.specs.Spaces.{reserved_for}
use Rattle.rules_table.specs.Words.{objects_in}
use Rattle.longest_run.proofs.Parting.{Freeing}
use Rattle.longest_run.proofs.free_reserved.Given as goal

abbrev pub invariant-loop-k : goal.invariant-loop-k
invariant-loop-k l = Freeing (reserved_for l.s) (objects_in l.h) U64MAX l.x l.e l.k
