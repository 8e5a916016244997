use Prim.Native.Nat.{◌≤◌, ◌<◌}
use lib.ListN.{length}
use Rattle.rules_table.specs.Words.{objects_in}
use Rattle.layout_mappings.specs.Words.{records_of}
use Rattle.rules_calls.specs.Landing.{blocked_in}
use Rattle.rangelists.specs.Held.{ranges_of}
use Rattle.landing.proofs.Joining.{Joined}
use Rattle.landing.proofs.search_each.Given as goal

abbrev pub invariant-loop-i : goal.invariant-loop-i
invariant-loop-i l = (length (ranges_of l.windows) ≤ 8) × Joined (0 < l.s) l.w.alignment l.w.length l.w.low (blocked_in (objects_in l.h) (records_of l.ms.records.now) l.s) (ranges_of l.windows) (length (blocked_in (objects_in l.h) (records_of l.ms.records.now) l.s)) (length (ranges_of l.windows)) l.best l.jumps l.i
