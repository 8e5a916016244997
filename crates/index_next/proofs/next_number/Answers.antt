use native.Mathlib.Omega.{arith}
use mathlib.Core.Path.{◌∙◌}
use Rattle.layout_mappings.specs.Words.{records_of}
use Rattle.index_next.proofs.Telling.{next-first, next-second}
use Rattle.index_next.proofs.next_number.Goals as goal

pub returns-then-r-ne0 : goal.returns-then-r-ne0
returns-then-r-ne0 c = next-first c.args.m.now.listed c.args.m.now.index.now (records_of c.args.m.now.records.now) c.args.m.now.indexed c.args.s c.args.a c.requires c.count_entered-k.result c.count_entered-k.ensures.0 c.saturating_sub.result (omega (arith, c.saturating_sub.ensures)) _ c.told_at-r.ensures (λ z. omega (arith, z))

pub returns : goal.returns
returns c = c.told_at.ensures ∙ (next-second c.args.m.now.listed c.args.m.now.index.now (records_of c.args.m.now.records.now) c.args.m.now.indexed c.args.s c.args.a c.requires c.count_entered-k.result c.count_entered-k.ensures.0 c.saturating_sub.result (omega (arith, c.saturating_sub.ensures)) _ c.told_at-r.ensures (omega arith))
