-- The fields read, decided and replied.
use Rattle.cmd_space_bytes.proofs.Deciding.{alloc-fields}
use Rattle.cmd_space_bytes.proofs.alloc.Goals as goal

pub returns : goal.returns
returns c = λ os l f. alloc-fields os _ _ _ _ _ l c.read32.ensures (c.decide_alloc-e.ensures os l f) c.write_id.ensures
