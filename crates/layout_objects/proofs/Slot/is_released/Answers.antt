use Rattle.std.proofs.Common.{◌+◌, ◌*◌, rules, arith}
use Rattle.std.proofs.Math.Path.{refl}
use Rattle.layout_objects.proofs.Clearing.{joined-start, joined-on, joined_end}
use Rattle.layout_objects.proofs.Slot.is_released.Goals as goal

pub loop-k-init : goal.loop-k-init
loop-k-init c = (omega arith, joined-start _ _)

pub loop-k-preserved : goal.loop-k-preserved
loop-k-preserved c = let l = c.loop-k in let o = c.args.self.now in (search rules, rw c.word-bits.ensures (joined-on _ _ l.k l.bits l.invariant.1))

pub returns : goal.returns
returns c = λ e. let l = c.loop-k in let o = c.args.self.now in joined_end o.head.now o.at (27 * o.at + 1) l.k l.bits l.invariant.1 refl o.below (omega arith) e
