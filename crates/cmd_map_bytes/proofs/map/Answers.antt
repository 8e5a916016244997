use native.Mathlib.Omega.{arith}
use mathlib.Core.Path.{sym, ap, ◌∙◌}
use Rattle.table.specs.Checked.{page_at}
use Rattle.rules_table.specs.Words.{objects_in}
use Rattle.cmd_map_bytes.proofs.Deciding.{map_fields-are}
use Rattle.cmd_map_bytes.proofs.map.Goals as goal

pub decide_map-e-requires : goal.decide_map-e-requires
decide_map-e-requires c = (c.requires.1, λ h. omega (arith, c.read32.ensures, c.requires.2 h), c.requires.3)

pub write_value-requires : goal.write_value-requires
write_value-requires c = omega (arith, c.requires.0)

pub returns : goal.returns
returns c = (λ e. map_fields-are _ _ _ _ _ _ _ _ _ _ _ c.read32.ensures c.read32-2.ensures c.read64.ensures c.read64-2.ensures c.read32-zero.ensures c.read64-memory.ensures (c.decide_map-e.ensures (e ∙ ap (page_at (objects_in c.args.h.now)) (sym c.read32.ensures))), c.write_value.ensures)
