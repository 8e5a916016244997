use Prim.Native.Nat.{◌+◌, ◌-◌}
use lib.ListN.{take}
use Rattle.rules_index.specs.Index.{view}
use Rattle.layout_mappings.specs.Words.{records_of}
use Rattle.rules_table.specs.Words.{objects_in}
use Rattle.gaps.proofs.Walking.{Walk}
use Rattle.gaps.proofs.gap_in.Given as goal

abbrev pub invariant-loop-w : goal.invariant-loop-w
invariant-loop-w l = Walk l.w.alignment l.w.length l.w.low l.s (objects_in l.h) (view (take l.m.listed l.m.index.now) (records_of l.m.records.now)) l.window l.x l.k l.jumps

abbrev pub decreases-loop-w : goal.decreases-loop-w
decreases-loop-w l = (l.m.listed - l.k) + (0x1_0000_0000_0000_0000 - l.x)
