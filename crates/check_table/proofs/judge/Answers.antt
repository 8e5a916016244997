-- Each part that fails makes the table bad.
use mathlib.Core.Path.{◌∙◌}
use mathlib.Core.Logic.{inl, inr}
use native.Mathlib.Omega.{arith}
use Rattle.rules_table.specs.Words.{head_in, objects_in}
use Rattle.layout_objects.specs.Slots.{objects-long}
use Rattle.layout_mappings.specs.Words.{records_of, records-length}
use Rattle.check_table.proofs.Judging.{limit-low, limit-high, records-placed, index-bad, reserved-bad, all-good}
use Rattle.check_table.proofs.judge.Goals as goal

pub returns-then-limit-p : goal.returns-then-limit-p
returns-then-limit-p c =
    let a = c.args in
    let k = (head_in a.h.now).limit in
    let os = objects_in a.h.now in
    let ms = records_of a.ws.now in
    elim c.then-limit-p.either [
      | inl h ↦ limit-low k os ms a.ix.now a.p c.requires.1 (omega (arith, c.limit_of-limit.ensures, h))
      | inr h ↦ limit-high k os ms a.ix.now a.p c.requires.1 (omega (arith, c.limit_of-limit.ensures, h.1))
    ]

pub listing_of-requires : goal.listing_of-requires
listing_of-requires c = let a = c.args in (c.requires.0, records-placed (head_in a.h.now).limit (objects_in a.h.now) (records_of a.ws.now) a.ix.now a.p c.requires.1, omega (arith, c.requires.1.mappings.used))

pub returns-in_err-listed : goal.returns-in_err-listed
returns-in_err-listed c = let a = c.args in rw c.from_residual.ensures (index-bad (head_in a.h.now).limit (objects_in a.h.now) (records_of a.ws.now) a.ix.now a.p c.requires.1 c.in_err-listed.ensures)

pub returns-then-not-is_clear : goal.returns-then-not-is_clear
returns-then-not-is_clear c = let a = c.args in reserved-bad (head_in a.h.now).limit (objects_in a.h.now) (records_of a.ws.now) a.ix.now a.p c.requires.1 _ c.is_clear.ensures c.if-not-is_clear.true

pub returns : goal.returns
returns c = let a = c.args in all-good (head_in a.h.now).limit (objects_in a.h.now) (records_of a.ws.now) a.ix.now a.p c.requires.1 _ c.is_clear.ensures _ c.in_ok-listed.ensures c.if-not-is_clear.false (records-length a.ws.now ∙ c.requires.0) (objects-long a.h.now) (omega (arith, c.limit_of-limit.ensures)) (omega (arith, c.limit_of-limit.ensures))
