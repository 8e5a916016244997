use native.Mathlib.Omega.{arith}
use mathlib.Core.Path.{sym, ap, ◌∙◌}
use Rattle.rules_table.specs.Records.{space_at}
use Rattle.cmd_map_bytes.proofs.Deciding.{unmap_fields-are}
use Rattle.cmd_map_bytes.proofs.unmap.Goals as goal

pub decide_unmap-e-requires : goal.decide_unmap-e-requires
decide_unmap-e-requires c = (λ h. omega (arith, c.read32-space.ensures, c.requires.1 h), c.requires.2)

pub returns : goal.returns
returns c = (λ os k. unmap_fields-are os _ _ _ _ _ _ c.read32-space.ensures c.read64-address.ensures c.read64-length.ensures (c.decide_unmap-e.ensures os (k ∙ ap (space_at os) (sym c.read32-space.ensures))), c.write_value.ensures)
