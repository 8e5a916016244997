use mathlib.Core.Path.{◌≡◌}
use Rattle.rangelists.specs.Listed.{touched_from}
use Rattle.rangelists.specs.Held.{ranges_of}
use Rattle.rangelists.proofs.Ranges.first_touched.Given as goal

abbrev pub invariant-loop-i : goal.invariant-loop-i
invariant-loop-i l = touched_from l.r l.i (ranges_of l.self) ≡ touched_from l.r l.from (ranges_of l.self)
