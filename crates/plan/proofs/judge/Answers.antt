-- Longer, cut or overlong, refused, or ready.
use native.Mathlib.Omega.{arith}
use Rattle.plan_shape.specs.Ends.{commands-room}
use Rattle.plan.proofs.Judging.{commands-end, plan-end, longer, cut-or_over, refused-plan, ready_plan}
use Rattle.plan.proofs.judge.Goals as goal

pub returns-then-s-gt65536 : goal.returns-then-s-gt65536
returns-then-s-gt65536 c = longer _ (omega arith)

pub returns-then-end-s : goal.returns-then-end-s
returns-then-end-s c = cut-or_over _ (omega arith) (λ e. omega (arith, e, plan-end _ _ _ c.section_end-attachments.ensures c.section_end-commands.ensures _ c.section_end-end.ensures))

pub set_up-requires : goal.set_up-requires
set_up-requires c = (omega arith, omega (arith, plan-end _ _ _ c.section_end-attachments.ensures c.section_end-commands.ensures _ c.section_end-end.ensures))

pub returns-in_default : goal.returns-in_default
returns-in_default c = refused-plan _ c.in_default.field-0 (omega arith) (omega (arith, plan-end _ _ _ c.section_end-attachments.ensures c.section_end-commands.ensures _ c.section_end-end.ensures)) c.in_default.ensures

pub read32-requires : goal.read32-requires
read32-requires c = omega (arith, commands-end _ _ _ c.section_end-attachments.ensures c.section_end-commands.ensures, commands-room c.args.s.now (omega (arith, plan-end _ _ _ c.section_end-attachments.ensures c.section_end-commands.ensures _ c.section_end-end.ensures)))

pub returns : goal.returns
returns c = ready_plan _ _ _ _ (omega arith) (omega (arith, plan-end _ _ _ c.section_end-attachments.ensures c.section_end-commands.ensures _ c.section_end-end.ensures)) c.in-Ok.ensures (omega (arith, commands-end _ _ _ c.section_end-attachments.ensures c.section_end-commands.ensures, commands-room c.args.s.now (omega (arith, plan-end _ _ _ c.section_end-attachments.ensures c.section_end-commands.ensures _ c.section_end-end.ensures)))) c.read32.ensures
