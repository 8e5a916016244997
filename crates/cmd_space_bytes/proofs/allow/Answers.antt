-- The fields read, and decided.
use Rattle.rules_table.specs.Words.{objects_in}
use Rattle.cmd_space_bytes.proofs.Deciding.{allow-fields}
use Rattle.cmd_space_bytes.proofs.allow.Goals as goal

pub returns : goal.returns
returns c = allow-fields (objects_in c.args.h.now) _ _ _ _ _ _ _ c.read32-space.ensures c.read32-count.ensures c.read32-zero.ensures c.decide_allow.ensures
