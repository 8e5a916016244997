-- Past the end of the list, or by its record.
use native.Mathlib.Omega.{arith}
use mathlib.Core.Path.{◌∙◌}
use borrow.Author.Tests.{le-ltb}
use lib.ListN.{take}
use Rattle.rules_index.specs.Index.{view}
use Rattle.layout_mappings.specs.Words.{records_of}
use Rattle.index_search.specs.Indexed.{indexed-length}
use Rattle.gaps.proofs.Meeting.{met-out, met-in}
use Rattle.gaps.proofs.is_met.Goals as goal

pub returns-else-k-m : goal.returns-else-k-m
returns-else-k-m c = le-ltb c.args.k c.args.m.now.listed (omega arith) ∙ met-out (view (take c.args.m.now.listed c.args.m.now.index.now) (records_of c.args.m.now.records.now)) c.args.m.now.listed c.args.k c.args.s c.args.x (indexed-length c.args.m.now.listed c.args.m.now.index.now c.args.m.now.records.now c.args.m.now.indexed) (omega arith)

pub returns-then-k-m : goal.returns-then-k-m
returns-then-k-m c = met-in (view (take c.args.m.now.listed c.args.m.now.index.now) (records_of c.args.m.now.records.now)) c.args.m.now.listed c.args.k c.args.s c.args.x (indexed-length c.args.m.now.listed c.args.m.now.index.now c.args.m.now.records.now c.args.m.now.indexed) _ c.begins_by.result (omega arith) c.slot_of.ensures.0 c.begins_by.ensures
