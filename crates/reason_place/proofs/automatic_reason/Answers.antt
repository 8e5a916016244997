-- A place, or by its refusal.
use native.Mathlib.Omega.{arith}
use mathlib.Core.Path.{refl, ap}
use Rattle.checks.specs.Refused.{number_of, number-some}
use Rattle.rules_table.specs.declared.Object.{Object}
use Rattle.rules_table.specs.Words.{objects_in}
use Rattle.layout_mappings.specs.Words.{records_of}
use Rattle.reason_place.proofs.Telling.{invalid, by-uneven, by_place, by-nowhere}
use Rattle.reason_place.proofs.automatic_reason.Goals as goal

pub returns-in_default : goal.returns-in_default
returns-in_default c = λ ea f.
    let at = c.in_default.ensures c.requires.0 f ea (ap (λ (o : Object). o.allow) c.object_of.ensures) in
    by_place (objects_in c.args.h.now) (records_of c.args.ms.now.records.now) c.args.t f 0 at.errno (λ z. omega (arith, z)) refl

pub returns-in-EINVAL : goal.returns-in-EINVAL
returns-in-EINVAL c = λ ea f.
    let at = c.in-Err.ensures c.requires.0 f ea (ap (λ (o : Object). o.allow) c.object_of.ensures) in
    by-uneven (objects_in c.args.h.now) (records_of c.args.ms.now.records.now) c.args.t f _ at.errno (ap number_of c.in-EINVAL.is)

pub returns-in_default-refusal : goal.returns-in_default-refusal
returns-in_default-refusal c = λ ea f.
    let same = ap (λ (o : Object). o.allow) c.object_of.ensures in
    let at = c.in-Err.ensures c.requires.0 f ea same in
    by-nowhere (objects_in c.args.h.now) (records_of c.args.ms.now.records.now) c.args.t f _ at.errno (λ z. c.in_default-refusal.not-EINVAL (invalid _ z)) (number-some c.in-Err.refusal)
    c.requires.1 _ (c.longest.ensures ea same)
