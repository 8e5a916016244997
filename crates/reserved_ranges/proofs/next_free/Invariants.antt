use Prim.Native.Nat.{◌-◌}
use Rattle.freeranges.specs.Free.{U64END}
use Rattle.rules_table.specs.Spaces.{reserved_of}
use Rattle.rules_table.specs.Words.{objects_in}
use Rattle.reserved_ranges.proofs.Stepping.{Reached}
use Rattle.reserved_ranges.proofs.next_free.Given as goal

abbrev pub invariant-loop-end : goal.invariant-loop-end
invariant-loop-end l = Reached (reserved_of (objects_in l.h) l.s) l.from l.x

abbrev pub decreases-loop-end : goal.decreases-loop-end
decreases-loop-end l = U64END - l.x
