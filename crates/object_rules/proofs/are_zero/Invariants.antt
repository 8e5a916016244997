use Rattle.std.proofs.Common.{◌≡◌, drop}
use mathlib.Core.Bool.{◌&&◌}
use lib.Dec.{eqb}
use Rattle.wire.specs.Fields.{zeros}
use Rattle.object_rules.proofs.are_zero.Given as goal

abbrev pub invariant-loop-w : goal.invariant-loop-w
invariant-loop-w l = (eqb l.bits 0 && zeros (drop l.w-index l.words)) ≡ zeros l.words
