-- Call after call; a whole plan has room for what is read.
use native.Mathlib.Omega.{arith}
use mathlib.Core.Path.{◌≡◌, ◌∙◌}
use Rattle.std.specs.Prelude.{Err}
use Rattle.plan_shape.specs.Ends.{attachments_room, head-room, devices-fit, pairs-fit, attachments_is}
use Rattle.plan_setup.proofs.Settling.{limit-refused, spaces-refused, devices-refused, all_done}
use borrow.Author.Rules.{rules}
use Rattle.plan_setup.proofs.set_up.Goals as goal

pub read64-requires : goal.read64-requires
read64-requires c = omega (arith, head-room _ c.requires.1)

pub returns-in_err-fresh : goal.returns-in_err-fresh
returns-in_err-fresh c = let e : c.from_residual.result ≡ Err c.in_err-fresh.field-0.0 = search rules in e ∙ limit-refused _ _ _ c.read64.ensures c.fresh.ensures _ c.in_err-fresh.ensures

pub read32-requires : goal.read32-requires
read32-requires c = omega (arith, head-room _ c.requires.1)

pub returns-in_err-roomy : goal.returns-in_err-roomy
returns-in_err-roomy c = let e : c.from_residual-in_err-roomy.result ≡ Err c.in_err-roomy.field-0.0 = search rules in e ∙ spaces-refused _ _ _ c.read64.ensures c.fresh.ensures _ _ c.in_ok-fresh.ensures c.read32.ensures _ c.in_err-roomy.ensures

pub read32-requires-2 : goal.read32-requires-2
read32-requires-2 c = omega (arith, head-room _ c.requires.1)

pub add_devices-requires : goal.add_devices-requires
add_devices-requires c = (search rules, devices-fit _ c.requires.1 _ c.read32-2.ensures)

pub returns-in_err-bound : goal.returns-in_err-bound
returns-in_err-bound c = let e : c.from_residual-in_err-bound.result ≡ Err c.in_err-bound.field-0.0 = search rules in e ∙ devices-refused _ _ _ c.read64.ensures c.fresh.ensures _ _ c.in_ok-fresh.ensures c.read32.ensures _ _ c.in_ok-roomy.ensures c.read32-2.ensures _ c.in_err-bound.ensures

pub read32-requires-3 : goal.read32-requires-3
read32-requires-3 c = omega (arith, attachments_room _ c.requires.1, attachments_is _ c.requires.1 _ c.section_end-at.ensures)

pub add_pairs-requires : goal.add_pairs-requires
add_pairs-requires c = (search rules, pairs-fit _ c.requires.1 _ _ (attachments_is _ c.requires.1 _ c.section_end-at.ensures) c.read32-3.ensures)

pub returns : goal.returns
returns c = all_done _ _ _ c.read64.ensures c.fresh.ensures _ _ c.in_ok-fresh.ensures c.read32.ensures _ _ c.in_ok-roomy.ensures c.read32-2.ensures _ _ _ _ c.in_ok-bound.ensures (attachments_is _ c.requires.1 _ c.section_end-at.ensures) c.read32-3.ensures c.add_pairs.ensures
