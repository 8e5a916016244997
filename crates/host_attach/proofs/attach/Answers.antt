use mathlib.Core.List.{[]}
use borrow.Author.Rules.{rules}
use Rattle.edits.specs.Settled.{refused-err, refused-ok}
use Rattle.host_attach.proofs.Attaching.{attach_space, attach_wrong, attach_unfit, attach_taken}
use Rattle.host_attach.proofs.attach.Goals as goal

pub returns-in_err-kind_checks : goal.returns-in_err-kind_checks
returns-in_err-kind_checks c = λ os eo eh ea.
    attach_wrong os _ _ eo _ _ _ eh _ c.kind_checks.ensures _ (refused-err c.kind_checks.result c.in_err-kind_checks.field-0.0 (search rules)) (search rules)

pub returns-in_err-fit_checks : goal.returns-in_err-fit_checks
returns-in_err-fit_checks c = λ os eo eh ea. let z = refused-ok c.kind_checks.result c.in_ok-kind_checks.field-0 (search rules) in
    attach_unfit os _ _ eo _ _ _ eh _ c.kind_checks.ensures z _ (c.fit_checks.ensures os eh ea (attach_space os _ _ eo [] _ _ eh _ c.kind_checks.ensures z)) _
    (refused-err c.fit_checks.result c.in_err-fit_checks.field-0.0 (search rules)) (search rules)

pub returns : goal.returns
returns c = λ os eo eh ea. let z = refused-ok c.kind_checks.result c.in_ok-kind_checks.field-0 (search rules) in
    attach_taken os _ _ eo _ _ _ eh _ c.kind_checks.ensures z _ (c.fit_checks.ensures os eh ea (attach_space os _ _ eo [] _ _ eh _ c.kind_checks.ensures z)) _ _ _
    (refused-ok c.fit_checks.result c.in_ok-fit_checks.field-0 (search rules)) c.slot_of.ensures c.attached_object.ensures c.acceptance.ensures
