use Prim.Native.Nat.{◌≤◌, min}
use mathlib.Core.Path.{◌≡◌}
use lib.ListN.{drop}
use Rattle.ranges.specs.Ranges.{U64MAX}
use Rattle.rangelists.specs.Held.{ranges_of}
use Rattle.freeranges.specs.Scan.{run_end}
use Rattle.freeranges.proofs.run_end.Given as goal

abbrev pub invariant-loop-i : goal.invariant-loop-i
invariant-loop-i l = (l.lowest ≤ U64MAX) × (min l.lowest (run_end (drop l.i (ranges_of l.l)) l.x) ≡ run_end (ranges_of l.l) l.x)
