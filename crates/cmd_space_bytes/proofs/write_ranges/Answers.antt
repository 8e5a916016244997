-- The area, then the two fields of the command.
use native.Mathlib.Omega.{arith}
use Rattle.rules_table.specs.Words.{objects_in}
use Rattle.layout_objects.specs.Slots.{objects-long}
use Rattle.cmd_space_bytes.proofs.Replying.{full-small, replied}
use Rattle.cmd_space_bytes.proofs.write_ranges.Goals as goal

pub overflow_cast-full : goal.overflow_cast-full
overflow_cast-full c = let h = c.args.h.now in omega (arith, full-small (objects_in h) _ _ (objects-long h) (c.write_free-full.ensures.0))

pub returns : goal.returns
returns c = λ e. replied (objects_in c.args.h.now) _ _ _ _ _ _ _ _ _ c.write_free-full.ensures.0 c.write_free-full.ensures.1 e c.write32.ensures c.write64.ensures
