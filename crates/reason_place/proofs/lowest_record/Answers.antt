use native.Mathlib.Omega.{arith}
use mathlib.Core.Path.{sym, ap, ◌∙◌}
use Rattle.reason_place.proofs.Seeking.{seek-start, seek-here, seek-next, seek-nothing}
use Rattle.rules_table.specs.Records.{touches, zero_mapping}
use Rattle.layout_mappings.specs.Words.{records_of, records-length}
use Rattle.rules_reasons.specs.Reasons.{record_touched}
use Rattle.reason_place.proofs.lowest_record.Goals as goal

pub loop-i-init : goal.loop-i-init
loop-i-init c = (omega arith, seek-start (touches c.args.s c.args.r) (records_of c.args.ws.now))

pub returns-then-is_touched : goal.returns-then-is_touched
unfolding record_touched
returns-then-is_touched c = seek-here (touches c.args.s c.args.r) (records_of c.args.ws.now) zero_mapping c.loop-i.i c.loop-i.invariant.1 _ (omega arith) (omega (arith, records-length c.args.ws.now, c.requires, c.loop-i-test.true)) (sym (c.is_touched.ensures ∙ ap (touches c.args.s c.args.r) c.record-m.ensures) ∙ c.if-is_touched.true)

pub loop-i-preserved : goal.loop-i-preserved
loop-i-preserved c = (omega (arith, c.loop-i-test.true), seek-next (touches c.args.s c.args.r) (records_of c.args.ws.now) zero_mapping c.loop-i.i c.loop-i.invariant.1 (omega (arith, records-length c.args.ws.now, c.requires, c.loop-i-test.true)) (sym (c.is_touched.ensures ∙ ap (touches c.args.s c.args.r) c.record-m.ensures) ∙ c.if-is_touched.false))

pub returns : goal.returns
unfolding record_touched
returns c = seek-nothing (touches c.args.s c.args.r) (records_of c.args.ws.now) zero_mapping c.loop-i.i c.loop-i.invariant.1 (omega (arith, records-length c.args.ws.now, c.requires, c.loop-i-test.false))
