-- Check by check.
use Rattle.std.specs.Prelude.{Err}
use native.Mathlib.Omega.{arith}
use mathlib.Core.Path.{◌≡◌}
use borrow.Author.Rules.{rules}
use Rattle.rules_table.specs.Words.{objects_in}
use Rattle.layout_mappings.specs.Words.{records_of}
use Rattle.table.specs.Paged.{page-known, page-aligned}
use Rattle.rules_reasons.specs.declared.Reason.TheVariants.{Accepted}
use Rattle.cmd_explain.proofs.Naming.{is-accepted, is-refused, no-space, is-space, none-is}
use Rattle.cmd_explain.proofs.Copying.{by-numbers, by-target, by-origin, by-missing, by_right, by_place, by-record}
use Rattle.cmd_explain.proofs.copy_checked.Goals as goal

pub returns-in_err-number_reason : goal.returns-in_err-number_reason
returns-in_err-number_reason c = λ ea eb.
    let is : c.from_residual.result ≡ Err c.in_err-number_reason.field-0.0 = search rules in
    let a = c.args in
    let os = objects_in a.h.now in
    let ms = records_of a.ms.now.records.now in
    rw is (by-numbers os ms a.t a.source a.«from» _ c.has_unknown.ensures _ c.in_err-number_reason.ensures)

pub returns-then-a-eq0 : goal.returns-then-a-eq0
returns-then-a-eq0 c = λ ea eb.
    let a = c.args in
    let os = objects_in a.h.now in
    let ms = records_of a.ms.now.records.now in
    by-target os ms a.t a.source a.«from» _ c.has_unknown.ensures c.in_ok-number_reason.ensures (no-space a.a _ (page-known os a.t.space a.a ea) c.if-a-eq0.true)

pub returns-then-b-eq0 : goal.returns-then-b-eq0
returns-then-b-eq0 c = λ ea eb.
    let a = c.args in
    let os = objects_in a.h.now in
    let ms = records_of a.ms.now.records.now in
    let target = is-space a.a _ (page-known os a.t.space a.a ea) c.if-a-eq0.false in
    by-origin os ms a.t a.source a.«from» _ c.has_unknown.ensures c.in_ok-number_reason.ensures target (no-space a.b _ (page-known os a.source a.b eb) c.if-b-eq0.true)

pub find_source-requires : goal.find_source-requires
find_source-requires c = c.requires.1 (omega (arith, c.if-b-eq0.false))

pub returns-in_default : goal.returns-in_default
returns-in_default c = λ ea eb.
    let a = c.args in
    let os = objects_in a.h.now in
    let ms = records_of a.ms.now.records.now in
    let target = is-space a.a _ (page-known os a.t.space a.a ea) c.if-a-eq0.false in
    let origin = is-space a.b _ (page-known os a.source a.b eb) c.if-b-eq0.false in
    by-missing os ms a.t a.source a.«from» _ c.has_unknown.ensures c.in_ok-number_reason.ensures target origin _ c.find_source.ensures c.in_default.is

pub returns-then-is_denied : goal.returns-then-is_denied
returns-then-is_denied c = λ ea eb.
    let a = c.args in
    let os = objects_in a.h.now in
    let ms = records_of a.ms.now.records.now in
    let target = is-space a.a _ (page-known os a.t.space a.a ea) c.if-a-eq0.false in
    let origin = is-space a.b _ (page-known os a.source a.b eb) c.if-b-eq0.false in
    by_right os ms a.t a.source a.«from» _ c.has_unknown.ensures c.in_ok-number_reason.ensures target origin _ c.find_source.ensures _ c.in-Some.is _ c.is_denied.ensures c.if-is_denied.true

pub place_reason-place-requires : goal.place_reason-place-requires
place_reason-place-requires c = (c.requires.0 (omega (arith, c.if-a-eq0.false)), c.requires.2)

pub returns-then-not-is_accepted : goal.returns-then-not-is_accepted
returns-then-not-is_accepted c = λ ea eb.
    let a = c.args in
    let os = objects_in a.h.now in
    let ms = records_of a.ms.now.records.now in
    let target = is-space a.a _ (page-known os a.t.space a.a ea) c.if-a-eq0.false in
    let origin = is-space a.b _ (page-known os a.source a.b eb) c.if-b-eq0.false in
    by_place os ms a.t a.source a.«from» _ c.has_unknown.ensures c.in_ok-number_reason.ensures target origin _ c.find_source.ensures _ c.in-Some.is _ c.is_denied.ensures c.if-is_denied.false _
    (c.place_reason-place.ensures (page-aligned os a.t.space a.a ea target)) (is-refused _ _ c.is_accepted.ensures c.if-not-is_accepted.true-raw)

pub returns : goal.returns
returns c = λ ea eb.
    let a = c.args in
    let os = objects_in a.h.now in
    let ms = records_of a.ms.now.records.now in
    let target = is-space a.a _ (page-known os a.t.space a.a ea) c.if-a-eq0.false in
    let origin = is-space a.b _ (page-known os a.source a.b eb) c.if-b-eq0.false in
    by-record os ms a.t a.source a.«from» _ c.has_unknown.ensures c.in_ok-number_reason.ensures target origin _ c.find_source.ensures _ c.in-Some.is _ c.is_denied.ensures c.if-is_denied.false _
    (c.place_reason-place.ensures (page-aligned os a.t.space a.a ea target)) (is-accepted _ _ c.is_accepted.ensures c.if-not-is_accepted.false-raw)
    _ c.free_record.ensures _ (none-is _ _ c.is_none.ensures) _ (c.name_if.ensures Accepted)
