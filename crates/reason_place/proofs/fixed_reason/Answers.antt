-- Check by check, in their order.
use native.Mathlib.Omega.{arith}
use Rattle.rules_table.specs.Words.{objects_in}
use Rattle.layout_mappings.specs.Words.{records_of, records-length}
use Rattle.reason_place.proofs.Telling.{by-unfit, by-reserved, by-mapped, by-nothing}
use Rattle.reason_place.proofs.fixed_reason.Goals as goal

pub returns-then-not-is_fit : goal.returns-then-not-is_fit
returns-then-not-is_fit c = λ ea f. let a = c.args in let os = objects_in a.h.now in let ms = records_of a.ms.now.records.now in by-unfit os ms a.t f a.a ea _ c.is_fit.ensures c.if-not-is_fit.true-raw

pub returns-then-is_touched : goal.returns-then-is_touched
returns-then-is_touched c = λ ea f. let a = c.args in let os = objects_in a.h.now in let ms = records_of a.ms.now.records.now in by-reserved os ms a.t f a.a ea _ c.is_fit.ensures c.if-not-is_fit.false-raw _ c.span_of-r.ensures _ c.is_touched.ensures c.if-is_touched.true _ c.lowest_object.ensures

pub lowest_record-requires : goal.lowest_record-requires
lowest_record-requires c = omega (arith, records-length c.args.ms.now.records.now, c.args.ms.now.indexed.counted)

pub returns-then-is_taken : goal.returns-then-is_taken
returns-then-is_taken c = λ ea f. let a = c.args in let os = objects_in a.h.now in let ms = records_of a.ms.now.records.now in by-mapped os ms a.t f a.a ea _ c.is_fit.ensures c.if-not-is_fit.false-raw _ c.span_of-r.ensures _ c.is_touched.ensures c.if-is_touched.false _ c.is_taken.ensures c.if-is_taken.true _ c.lowest_record.ensures

pub returns : goal.returns
returns c = λ ea f. let a = c.args in let os = objects_in a.h.now in let ms = records_of a.ms.now.records.now in by-nothing os ms a.t f a.a ea _ c.is_fit.ensures c.if-not-is_fit.false-raw _ c.span_of-r.ensures _ c.is_touched.ensures c.if-is_touched.false _ c.is_taken.ensures c.if-is_taken.false
