-- A refusal, or the reply, and 90 after it where some ranges had no room.
use Rattle.std.specs.Prelude.{◌≡◌, Err}
use native.Mathlib.Omega.{arith}
use mathlib.Core.Path.{sym, ap, ◌∙◌}
use borrow.Author.Rules.{rules}
use Rattle.rules_table.specs.Spaces.{alignment}
use Rattle.rules_table.specs.Words.{objects_in}
use Rattle.table.specs.Paged.{page-known, page-aligned}
use Rattle.edits.specs.Settled.{refused-err, refused-ok}
use Rattle.cmd_space_bytes.proofs.Replying.{refused-same, ranges-known, ranges-room, ranges-refused, ranges-done}
use Rattle.cmd_space_bytes.proofs.answer_ranges.Goals as goal

pub returns-in_err-ranges_checks : goal.returns-in_err-ranges_checks
returns-in_err-ranges_checks c = λ e. let os = objects_in c.args.h.now in
    let r = c.ranges_checks.result in let d = c.from_residual.result in let n = c.in_err-ranges_checks.field-0.0 in
    let p : r ≡ Err n = search rules in let q : d ≡ Err n = search rules in
    (search rules, ranges-refused os _ _ _ _ _ c.read32-count.ensures c.read32-zero.ensures (refused-same r d n p q ∙ c.ranges_checks.ensures os _ (page-known os _ _ e)) (refused-err d n q))

pub write_ranges-full-requires : goal.write_ranges-full-requires
write_ranges-full-requires c = (omega arith, ranges-room _ _ _ _ _ c.ranges_checks.ensures (refused-ok c.ranges_checks.result c.in_ok-ranges_checks.field-0 (search rules)))

pub returns-in_err-fail_if : goal.returns-in_err-fail_if
returns-in_err-fail_if c = λ e. let os = objects_in c.args.h.now in
    let r = c.fail_if.result in let d = c.from_residual-in_err-fail_if.result in let n = c.in_err-fail_if.field-0.0 in
    let p : r ≡ Err n = search rules in let q : d ≡ Err n = search rules in
    let checks = c.ranges_checks.ensures os _ (page-known os _ _ e) in
    let passed = refused-ok c.ranges_checks.result c.in_ok-ranges_checks.field-0 (search rules) in (
      search rules,
      ranges-done os _ _ _ _ _ _ _ _ _ _ c.read32-space.ensures c.read32-count.ensures c.read32-zero.ensures checks passed
          (c.write_ranges-full.ensures (page-aligned os _ _ e (ranges-known os _ _ _ _ _ checks passed) ∙ ap (alignment os) (sym c.read32-space.ensures))) (refused-same r d n p q ∙ c.fail_if.ensures),
    )

pub returns : goal.returns
returns c = λ e. let os = objects_in c.args.h.now in
    let checks = c.ranges_checks.ensures os _ (page-known os _ _ e) in
    let passed = refused-ok c.ranges_checks.result c.in_ok-ranges_checks.field-0 (search rules) in (
      c.tell.ensures,
      ranges-done os _ _ _ _ _ _ _ _ _ _ c.read32-space.ensures c.read32-count.ensures c.read32-zero.ensures checks passed
          (c.write_ranges-full.ensures (page-aligned os _ _ e (ranges-known os _ _ _ _ _ checks passed) ∙ ap (alignment os) (sym c.read32-space.ensures)))
          (sym (refused-ok c.fail_if.result c.in_ok-fail_if.field-0 (search rules)) ∙ c.fail_if.ensures),
    )
