use Prim.Native.Nat.{◌*◌, ◌^◌, ◌≤◌}
use mathlib.Core.Path.{◌≡◌}
use Rattle.plan_commands.proofs.Counting.{charge_to}
use Rattle.plan_commands.proofs.charging.charge_of.Given as goal

abbrev pub invariant-loop-backing : goal.invariant-loop-backing
invariant-loop-backing l = (l.sum ≤ l.backing * 2 ^ 53) × (l.sum ≡ charge_to l.backing l.ms)
