-- A slot from 32 on has no record.
use native.Mathlib.Omega.{arith}
use Rattle.lent_edit.specs.Edits.{no_slot}
use Rattle.lent_edit.proofs.put_object.Goals as goal

pub returns-else-i-lt32 : goal.returns-else-i-lt32
returns-else-i-lt32 c = no_slot _ _ _ (omega arith)
