use borrow.Author.Rules.{rules}
use mathlib.Core.Path.{refl, sym, ap, ◌∙◌}
use native.Mathlib.Omega.{arith}
use Rattle.lists.specs.Search.{any_found, any-on, any-end}
use Rattle.rules_table.specs.declared.Object.{Object}
use Rattle.rules_table.specs.Records.{zero_object, attached_to}
use Rattle.rules_table.specs.Words.{objects_in}
use Rattle.layout_objects.specs.Slots.{objects-long}
use Rattle.check_objects.proofs.is_held.Goals as goal

pub loop-i-init : goal.loop-i-init
loop-i-init c = (search rules, refl)

pub returns-then-attached_to : goal.returns-then-attached_to
returns-then-attached_to c = let l = c.loop-i in any_found
    (λ (o : Object). attached_to c.args.s o.kind)
    (objects_in c.args.h.now) l.i l.invariant.1 zero_object
    (omega (arith, objects-long c.args.h.now))
    (sym (c.attached_to.ensures ∙ ap (attached_to c.args.s)
    c.kind.ensures) ∙ c.if-attached_to.true)

pub loop-i-preserved : goal.loop-i-preserved
loop-i-preserved c = (
  search rules,
  let l = c.loop-i in any-on
      (λ (o : Object). attached_to c.args.s o.kind)
      (objects_in c.args.h.now) l.i l.invariant.1 zero_object
      (omega (arith, objects-long c.args.h.now))
      (sym (c.attached_to.ensures ∙ ap (attached_to c.args.s)
      c.kind.ensures) ∙ c.if-attached_to.false),
)

pub returns : goal.returns
returns c = let l = c.loop-i in any-end (λ (o : Object). attached_to c.args.s o.kind)
    (objects_in c.args.h.now) l.i l.invariant.1 (omega (arith, objects-long c.args.h.now))
