-- What is filled, with the lines that are left, is all lines.
use native.Mathlib.Omega.{arith}
use Rattle.plan_shape.specs.declared.Section.TheVariants.{Commands}
use Rattle.plan_shape.specs.Ends.{item_room}
use Rattle.plan.proofs.Lining.{command-room, items_after, filled_none, filled_on, filled_all}
use borrow.Author.Rules.{rules}
use Rattle.plan.proofs.whole.run_all.Goals as goal

pub loop-k-init : goal.loop-k-init
loop-k-init c = record { room = search rules; filled = filled_none _ _ _ _ _ (omega arith) }

pub run_at-ran-requires : goal.run_at-ran-requires
run_at-ran-requires c = let l = c.loop-k in (command-room _ _ (item_room Commands _ _ l.at l.invariant.room (omega arith)), omega arith, omega arith)

pub loop-k-preserved : goal.loop-k-preserved
loop-k-preserved c = let l = c.loop-k in record {
  room = items_after _ _ _ l.at l.t _ l.invariant.room (omega arith) (omega arith) c.run_at-ran.ensures;
  filled = filled_on _ _ l.at l.k l.t l.lines l.invariant.filled _ _ (omega arith) (omega arith) c.run_at-ran.ensures (omega arith);
}

pub returns : goal.returns
returns c = let l = c.loop-k in filled_all _ _ l.at l.k l.t _ l.invariant.filled _ (omega arith) (omega arith)
