use mathlib.Core.Path.{sym, ◌∙◌}
use native.Mathlib.Omega.{arith}
use Rattle.rules_table.specs.Words.{objects_in}
use Rattle.layout_objects.specs.Slots.{objects-long}
use Rattle.check_objects.proofs.Passing.{passing-start, passing-failed, passing-on, passing-end, pages-long}
use Rattle.check_objects.proofs.pass_over.Goals as goal

pub loop-i-init : goal.loop-i-init
loop-i-init c = let a = c.args in
    passing-start (objects_in a.h.now) _ (objects-long a.h.now) c.requires _ _ c.next_object-i.ensures
    c.free_to-free.ensures

pub shape_of-pages-in_err-t : goal.shape_of-pages-in_err-t
shape_of-pages-in_err-t c = c.loop-i.invariant.room ∙ sym (pages-long _ c.requires)

pub returns-in_err-t : goal.returns-in_err-t
returns-in_err-t c = let a = c.args in
    let l = c.loop-i in
    rw c.from_residual.ensures (passing-failed (objects_in a.h.now) l.i _ _ l.invariant c.in_err-t.ensures (omega arith))

pub next_object-next-requires : goal.next_object-next-requires
next_object-next-requires c = omega (arith, c.loop-i-test.true)

pub loop-i-smaller : goal.loop-i-smaller
loop-i-smaller c = omega (arith, c.loop-i-test.true, c.next_object-next.ensures.from)

pub loop-i-preserved : goal.loop-i-preserved
loop-i-preserved c = let a = c.args in
    let l = c.loop-i in
    passing-on (objects_in a.h.now) l.i _ _ l.invariant _ c.in_ok-t.ensures
    (omega (arith, c.loop-i-test.true)) _ _ (omega (arith, c.max-page.ensures))
    c.free_after-here.ensures _ _ _ _ c.next_object-next.ensures c.free_to-free-in-loop-i.ensures (omega arith) (omega arith)

pub shape_of-pages : goal.shape_of-pages
shape_of-pages c = c.loop-i.invariant.room ∙ sym (pages-long _ c.requires)

pub returns : goal.returns
returns c = let a = c.args in
    let l = c.loop-i in
    passing-end (objects_in a.h.now) l.i _ _ l.invariant (omega (arith, c.loop-i-test.false))
