use mathlib.Core.Path.{◌≡◌}
use lib.ListN.{drop}
use Rattle.rangelists.specs.Held.{ranges_of}
use Rattle.freeranges.specs.Scan.{cover_of}
use Rattle.freeranges.proofs.covering.Given as goal

abbrev pub invariant-loop-i : goal.invariant-loop-i
invariant-loop-i l = cover_of (drop l.i (ranges_of l.l)) l.x ≡ cover_of (ranges_of l.l) l.x
