-- A device that is not attached reserves nothing; the list of one that is, in its home.
use Rattle.layout_mappings.specs.Words.{records_of}
use Rattle.check_reserved.proofs.Clearing.{slot_loose, slot-attached}
use Rattle.check_reserved.proofs.slot_clear.Goals as goal

pub returns-then-not-is_attached : goal.returns-then-not-is_attached
returns-then-not-is_attached c = slot_loose _ (records_of c.args.m.now.records.now) _ _ c.kind-k.ensures c.is_attached.ensures c.if-not-is_attached.true-raw

pub returns : goal.returns
returns c = slot-attached _ (records_of c.args.m.now.records.now) _ _ c.kind-k.ensures c.is_attached.ensures _ _ _ c.if-not-is_attached.false-raw c.home_of.ensures c.reserved_in_use.ensures c.list_struck.ensures
