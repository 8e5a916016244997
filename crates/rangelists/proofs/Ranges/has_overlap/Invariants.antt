use mathlib.Core.Path.{◌≡◌}
use lib.ListN.{drop}
use Rattle.lists.specs.Pairs.{clashes}
use Rattle.ranges.specs.Ranges.{share}
use Rattle.rangelists.specs.Listed.{overlap}
use Rattle.rangelists.specs.Held.{ranges_of}
use Rattle.rangelists.proofs.Ranges.has_overlap.Given as goal

abbrev pub invariant-loop-i : goal.invariant-loop-i
invariant-loop-i l = clashes share (drop l.i (ranges_of l.self)) ≡ overlap (ranges_of l.self)
