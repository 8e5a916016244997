use native.Mathlib.Omega.{arith}
use mathlib.Core.Path.{sym, ap, ◌∙◌}
use Rattle.table.specs.Checked.{page_at}
use Rattle.rules_table.specs.Words.{objects_in}
use Rattle.cmd_map_bytes.proofs.Deciding.{copy_fields-are}
use Rattle.cmd_map_bytes.proofs.copy.Goals as goal

pub decide_copy-e-requires : goal.decide_copy-e-requires
decide_copy-e-requires c = (λ h. omega (arith, c.read32.ensures, c.requires.1 h), λ h. omega (arith, c.read32-source.ensures, c.requires.2 h))

pub returns : goal.returns
returns c = (λ e f. copy_fields-are _ _ _ _ _ _ _ _ _ _ c.read32.ensures c.read32-2.ensures c.read64.ensures c.read64-2.ensures c.read32-source.ensures c.read64-from.ensures (c.decide_copy-e.ensures (e ∙ ap (page_at (objects_in c.args.h.now)) (sym c.read32.ensures)) (f ∙ ap (page_at (objects_in c.args.h.now)) (sym c.read32-source.ensures))), c.write_value.ensures)
