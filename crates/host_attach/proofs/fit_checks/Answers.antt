use Rattle.std.specs.Prelude.{◌≡◌, Err}
use native.Mathlib.Omega.{arith}
use mathlib.Core.Path.{refl, sym, ap, ◌∙◌}
use mathlib.Core.List.{List}
use borrow.Author.Rules.{rules}
use Rattle.lists.specs.Search.{any}
use Rattle.ranges.specs.declared.Range.{Range}
use Rattle.layout_mappings.specs.Words.{records_of}
use Rattle.check_reserved.specs.Clear.{strikes}
use Rattle.checks.specs.Refused.{refused}
use Rattle.edits.specs.Settled.{refused-err, refused-ok, checked-last}
use Rattle.host_attach.specs.Attached.{attach_fits}
use Rattle.host_attach.proofs.Attaching.{attach_blocked, attach_misfit, check-fires, check-passes}
use Rattle.host_attach.proofs.fit_checks.Goals.{then-list_struck, else-list_struck}
use Rattle.host_attach.proofs.fit_checks.Goals as goal

pub returns-in_err-fail_if : goal.returns-in_err-fail_if
unfolding attach_fits
returns-in_err-fail_if c = λ os eh ea h.
    let struck = c.list_struck.ensures in
    let listed = ap (λ (qs : List Range). any (λ q. any (strikes c.args.s q) (records_of c.args.ms.now.records.now)) qs) c.in_use.ensures.same in
    let r = c.fail_if.result in let d = c.from_residual.result in let n = c.in_err-fail_if.field-0.0 in
    let p : r ≡ Err n = search rules in let q : d ≡ Err n = search rules in
    check-fires _ _ _ _ _ (ap refused q ∙ sym (ap refused p) ∙ c.fail_if.ensures) (refused-err d n q) (elim c.if-list_struck.branch [
      | then-list_struck w ↦ attach_blocked os _ _ _ eh ea _ _ _ _ _ h (struck ∙ listed) refl (w.blocked-is ∙ rw w.if-list_struck.true refl)
      | else-list_struck w ↦ attach_blocked os _ _ _ eh ea _ _ _ _ _ h (struck ∙ listed) w.lists_touch-blocked.ensures (w.blocked-is ∙ rw w.if-list_struck.false refl)
    ])

pub returns : goal.returns
unfolding attach_fits
returns c = λ os eh ea h.
    let struck = c.list_struck.ensures in
    let listed = ap (λ (qs : List Range). any (λ q. any (strikes c.args.s q) (records_of c.args.ms.now.records.now)) qs) c.in_use.ensures.same in
    check-passes _ _ _ _ _ (λ z. omega (arith, z)) (sym (refused-ok c.fail_if.result c.in_ok-fail_if.field-0 (search rules)) ∙ c.fail_if.ensures) (elim c.if-list_struck.branch [
      | then-list_struck w ↦ attach_blocked os _ _ _ eh ea _ _ _ _ _ h (struck ∙ listed) refl (w.blocked-is ∙ rw w.if-list_struck.true refl)
      | else-list_struck w ↦ attach_blocked os _ _ _ eh ea _ _ _ _ _ h (struck ∙ listed) w.lists_touch-blocked.ensures (w.blocked-is ∙ rw w.if-list_struck.false refl)
    ]) (checked-last _ _ _ _ _ c.fail_if-2.ensures (attach_misfit os _ _ _ eh ea _ _ _ _ _ c.smallest_page-page.ensures (omega (arith, c.max-higher.ensures)) c.some_misfit.ensures))
