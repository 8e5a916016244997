-- The mapping is met, or it is not.
use native.Mathlib.Omega.{arith}
use Prim.Native.Nat.{◌+◌}
use lib.ListN.{take}
use Rattle.rules_index.specs.Index.{view}
use Rattle.layout_mappings.specs.Words.{records_of}
use Rattle.rules_table.specs.Words.{objects_in}
use Rattle.rules_table.specs.Spaces.{reserved_of}
use Rattle.index_search.specs.Indexed.{indexed-length}
use Rattle.gaps.proofs.Meeting.{met-lt, met-begins, extent-some, last-is, step-met, step-swept}
use Rattle.gaps.proofs.go_on.Goals as goal

pub overflow_add-last : goal.overflow_add-last
overflow_add-last c = omega (arith, c.behind.ensures, c.requires)

pub slot_of-requires : goal.slot_of-requires
slot_of-requires c = met-lt (view (take c.args.m.now.listed c.args.m.now.index.now) (records_of c.args.m.now.records.now)) c.args.m.now.listed c.args.k c.args.s _ (indexed-length c.args.m.now.listed c.args.m.now.index.now c.args.m.now.records.now c.args.m.now.indexed) c.is_met.result c.is_met.ensures c.if-is_met.true

pub past_met-spot-requires : goal.past_met-spot-requires
past_met-spot-requires c = (extent-some c.extent_at.result _ c.extent_at.ensures (omega arith), omega (arith, last-is c.args.x c.args.w.length c.behind.result c.behind.ensures c.requires, met-begins (view (take c.args.m.now.listed c.args.m.now.index.now) (records_of c.args.m.now.records.now)) c.args.m.now.listed c.args.k c.args.s _ (indexed-length c.args.m.now.listed c.args.m.now.index.now c.args.m.now.records.now c.args.m.now.indexed) c.is_met.result c.is_met.ensures c.if-is_met.true c.extent_at.result _ c.slot_of.ensures.0 c.extent_at.ensures))

pub overflow_add-result : goal.overflow_add-result
overflow_add-result c = omega (arith, c.args.m.now.indexed.most, met-lt (view (take c.args.m.now.listed c.args.m.now.index.now) (records_of c.args.m.now.records.now)) c.args.m.now.listed c.args.k c.args.s _ (indexed-length c.args.m.now.listed c.args.m.now.index.now c.args.m.now.records.now c.args.m.now.indexed) c.is_met.result c.is_met.ensures c.if-is_met.true)

pub returns-then-is_met : goal.returns-then-is_met
returns-then-is_met c = step-met c.args.w.alignment c.args.w.length c.args.s (view (take c.args.m.now.listed c.args.m.now.index.now) (records_of c.args.m.now.records.now)) (reserved_of (objects_in c.args.h.now) c.args.s) c.args.x c.args.k (c.args.x + c.behind.result) c.is_met.result (last-is c.args.x c.args.w.length c.behind.result c.behind.ensures c.requires) c.is_met.ensures c.if-is_met.true c.extent_at.result c.past_met-spot.result _ c.slot_of.ensures.0 c.extent_at.ensures c.past_met-spot.ensures

pub returns : goal.returns
returns c = step-swept c.args.w.alignment c.args.w.length c.args.s (view (take c.args.m.now.listed c.args.m.now.index.now) (records_of c.args.m.now.records.now)) (reserved_of (objects_in c.args.h.now) c.args.s) c.args.x c.args.k (c.args.x + c.behind.result) c.is_met.result (last-is c.args.x c.args.w.length c.behind.result c.behind.ensures c.requires) c.is_met.ensures c.if-is_met.false c.sweep-f.result.spot c.sweep-f.result.jumps c.sweep-f.ensures
