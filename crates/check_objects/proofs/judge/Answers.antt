use Rattle.layout_objects.specs.Slots.{objects-long}
use Rattle.rules_table.specs.Words.{objects_in}
use Rattle.check_objects.proofs.Passing.{turned-bad, turned}
use Rattle.check_objects.proofs.judge.Goals as goal

pub returns-then-not-object_good : goal.returns-then-not-object_good
returns-then-not-object_good c =
    let a = c.args in turned-bad (objects_in a.o.now.head.now) a.o.now.at (objects-long a.o.now.head.now) _ _ c.kind-kind.ensures c.object_good.ensures c.if-not-object_good.true

pub returns : goal.returns
returns c = let a = c.args in
    turned (objects_in a.o.now.head.now) a.o.now.at (objects-long a.o.now.head.now) _ _ c.kind-kind.ensures c.object_good.ensures _ c.if-not-object_good.false _ c.bitmap.ensures
    c.is_free.ensures c.slot_of.ensures.0 c.slot_of.ensures.1 c.ask_of.ensures
