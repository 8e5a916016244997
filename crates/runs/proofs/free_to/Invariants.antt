use mathlib.Core.Path.{◌≡◌}
use lib.ListN.{drop}
use Rattle.rangelists.specs.Held.{ranges_of}
use Rattle.runs.specs.Runs.{free_to}
use Rattle.runs.proofs.free_to.Given as goal

abbrev pub invariant-loop-i : goal.invariant-loop-i
invariant-loop-i l = free_to l.e l.x (drop l.i (ranges_of l.l)) ≡ free_to l.upto l.x (ranges_of l.l)
