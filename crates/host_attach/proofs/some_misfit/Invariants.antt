use Prim.Native.Nat.{◌≤◌}
use mathlib.Core.Path.{◌≡◌}
use lib.ListN.{length, drop}
use Rattle.lists.specs.Search.{any}
use Rattle.layout_mappings.specs.Words.{records_of}
use Rattle.rules_calls.specs.Attach.{misfits}
use Rattle.host_attach.proofs.some_misfit.Given as goal

abbrev pub invariant-loop-i : goal.invariant-loop-i
invariant-loop-i l = (l.i ≤ length l.ws) × (any (misfits l.s l.a) (drop l.i (records_of l.ws)) ≡ any (misfits l.s l.a) (records_of l.ws))
