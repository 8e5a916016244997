use Prim.Native.Nat.{◌-◌}
use Rattle.freeranges.specs.Free.{U64END}
use Rattle.rules_table.specs.Spaces.{reserved_of}
use Rattle.rules_table.specs.Words.{objects_in}
use Rattle.reserved_ranges.proofs.Writing.{Work}
use Rattle.reserved_ranges.proofs.write_free.Given as goal

abbrev pub invariant-loop-free : goal.invariant-loop-free
invariant-loop-free l = Work (reserved_of (objects_in l.h) l.s) l.room l.k l.x l.area l.initial.area

abbrev pub decreases-loop-free : goal.decreases-loop-free
decreases-loop-free l = U64END - l.x
