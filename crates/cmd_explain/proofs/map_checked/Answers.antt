-- Check by check.
use Rattle.std.specs.Prelude.{Err}
use native.Mathlib.Omega.{arith}
use mathlib.Core.Path.{◌≡◌}
use borrow.Author.Rules.{rules}
use Rattle.rules_table.specs.Words.{head_in, objects_in}
use Rattle.layout_mappings.specs.Words.{records_of}
use Rattle.table.specs.Paged.{page-known, page-aligned}
use Rattle.rules_reasons.specs.declared.Reason.TheVariants.{Accepted}
use Rattle.cmd_explain.proofs.Naming.{is-accepted, is-refused, no-space, is-space}
use Rattle.cmd_explain.proofs.Mapping.{by-numbers, by-space, by_place, by-room}
use Rattle.cmd_explain.proofs.map_checked.Goals as goal

pub returns-in_err-number_reason : goal.returns-in_err-number_reason
returns-in_err-number_reason c = λ ea.
    let is : c.from_residual.result ≡ Err c.in_err-number_reason.field-0.0 = search rules in
    let a = c.args in
    let os = objects_in a.h.now in
    let ms = records_of a.ms.now.records.now in
    rw is (by-numbers (head_in a.h.now).limit os ms a.t a.zero a.memory _ c.is_strange.ensures _ c.in_err-number_reason.ensures)

pub returns-then-a-eq0 : goal.returns-then-a-eq0
returns-then-a-eq0 c = λ ea.
    let a = c.args in
    let os = objects_in a.h.now in
    let ms = records_of a.ms.now.records.now in
    by-space (head_in a.h.now).limit os ms a.t a.zero a.memory _ c.is_strange.ensures c.in_ok-number_reason.ensures (no-space a.a _ (page-known os a.t.space a.a ea) c.if-a-eq0.true)

pub place_reason-place-requires : goal.place_reason-place-requires
place_reason-place-requires c = (c.requires.1 (omega (arith, c.if-a-eq0.false)), c.requires.2)

pub returns-then-not-is_accepted : goal.returns-then-not-is_accepted
returns-then-not-is_accepted c = λ ea.
    let a = c.args in
    let os = objects_in a.h.now in
    let ms = records_of a.ms.now.records.now in
    let space = is-space a.a _ (page-known os a.t.space a.a ea) c.if-a-eq0.false in
    by_place (head_in a.h.now).limit os ms a.t a.zero a.memory _ c.is_strange.ensures c.in_ok-number_reason.ensures space _ (c.place_reason-place.ensures (page-aligned os a.t.space a.a ea space))
    (is-refused _ _ c.is_accepted.ensures c.if-not-is_accepted.true-raw)

pub returns : goal.returns
returns c = λ ea.
    let a = c.args in
    let os = objects_in a.h.now in
    let ms = records_of a.ms.now.records.now in
    let space = is-space a.a _ (page-known os a.t.space a.a ea) c.if-a-eq0.false in
    by-room (head_in a.h.now).limit os ms a.t a.zero a.memory _ c.is_strange.ensures c.in_ok-number_reason.ensures space _ (c.place_reason-place.ensures (page-aligned os a.t.space a.a ea space))
    (is-accepted _ _ c.is_accepted.ensures c.if-not-is_accepted.false-raw) _ (c.survey_of-v.ensures c.requires.3.0 c.requires.3.1) _ _ c.limit_of.ensures c.pages_touched-pages.ensures.0 _ (c.room_reason.ensures Accepted)
