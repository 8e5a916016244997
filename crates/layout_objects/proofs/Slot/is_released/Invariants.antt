use Prim.Native.Nat.{◌+◌, ◌*◌, ◌≤◌}
use Rattle.layout_objects.proofs.Clearing.{Joined}
use Rattle.layout_objects.proofs.Slot.is_released.Given as goal

abbrev pub invariant-loop-k : goal.invariant-loop-k
invariant-loop-k l = (l.k ≤ 27) × Joined l.self.head.now (27 * l.self.at + 1) l.k l.bits
