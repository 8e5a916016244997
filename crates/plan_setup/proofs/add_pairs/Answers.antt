-- What is left of the section gives what all of it does, and ends by the last byte.
use native.Mathlib.Omega.{arith}
use mathlib.Core.Path.{◌≡◌, sym, ◌∙◌}
use Rattle.std.specs.Prelude.{Err}
use Rattle.plan_shape.specs.declared.Section.TheVariants.{Attachments}
use Rattle.plan_shape.specs.Ends.{item_room, item_next, pair_room}
use Rattle.plan_setup.proofs.Settling.{pairs-turn, pairs-none, pairs-go, turn-stops, items-left}
use borrow.Author.Rules.{rules}
use Rattle.plan_setup.proofs.add_pairs.Goals as goal

pub add_pair-requires : goal.add_pair-requires
add_pair-requires c = let l = c.loop-i in pair_room _ _ (item_room Attachments _ _ l.at l.invariant.0 (omega arith))

pub returns-in_err-t : goal.returns-in_err-t
returns-in_err-t c = let l = c.loop-i in let e : c.from_residual.result ≡ Err c.in_err-t.field-0.0 = search rules in e ∙ turn-stops _ _ (pairs-turn _ _ l.at l.t (omega arith)) l.invariant.1 _ c.in_err-t.ensures

pub loop-i-preserved : goal.loop-i-preserved
loop-i-preserved c = let l = c.loop-i in (items-left Attachments _ _ _ l.at l.invariant.0 (omega arith) (omega arith) _ c.item_end-at.ensures, pairs-go _ _ _ l.at _ l.t _ l.invariant.1 (omega arith) (omega arith) c.in_ok-t.ensures (item_next Attachments _ _ l.at l.invariant.0 (omega arith) _ c.item_end-at.ensures))

pub returns : goal.returns
returns c = let l = c.loop-i in sym (pairs-none _ _ l.at l.t (omega arith)) ∙ l.invariant.1
