-- What is left from slot i on answers for the whole.
use native.Mathlib.Omega.{arith}
use mathlib.Core.Path.{sym, ◌∙◌}
use Rattle.rules_table.specs.Words.{objects_in}
use Rattle.layout_mappings.specs.Words.{records_of}
use Rattle.layout_objects.specs.Slots.{objects-long}
use Rattle.check_reserved.proofs.Clearing.{all_start, slot-struck, slot-on, slot-end}
use Rattle.check_reserved.proofs.is_clear.Goals as goal

pub loop-i-init : goal.loop-i-init
loop-i-init c = all_start (objects_in c.args.h.now) (records_of c.args.m.now.records.now)

pub returns-then-not-slot_clear : goal.returns-then-not-slot_clear
returns-then-not-slot_clear c = slot-struck (objects_in c.args.h.now) (records_of c.args.m.now.records.now) c.loop-i.i c.loop-i.invariant (omega (arith, objects-long c.args.h.now, c.loop-i-test.true)) (sym c.if-not-slot_clear.true ∙ c.slot_clear.ensures)

pub loop-i-preserved : goal.loop-i-preserved
loop-i-preserved c = slot-on (objects_in c.args.h.now) (records_of c.args.m.now.records.now) c.loop-i.i c.loop-i.invariant (omega (arith, objects-long c.args.h.now, c.loop-i-test.true)) (sym c.if-not-slot_clear.false ∙ c.slot_clear.ensures)

pub returns : goal.returns
returns c = slot-end (objects_in c.args.h.now) (records_of c.args.m.now.records.now) c.loop-i.i c.loop-i.invariant (omega (arith, objects-long c.args.h.now, c.loop-i-test.false))
