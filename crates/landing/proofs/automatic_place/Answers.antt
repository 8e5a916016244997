-- A length that misfits, or the lowest candidate.
use native.Mathlib.Omega.{arith}
use borrow.Author.Tests.{not-true, not-false}
use Rattle.rules_table.specs.Words.{objects_in}
use Rattle.layout_mappings.specs.Words.{records_of}
use Rattle.landing.proofs.Finding.{automatic-misfit, automatic-found}
use Rattle.landing.proofs.automatic_place.Goals as goal

pub returns-then-not-is_multiple : goal.returns-then-not-is_multiple
returns-then-not-is_multiple c = λ h ea el. automatic-misfit (objects_in c.args.h.now) (records_of c.args.ms.now.records.now) _ _ _ _ ea c.is_multiple.ensures (not-true _ c.if-not-is_multiple.true-raw)

pub returns : goal.returns
returns c = λ h ea el. automatic-found (objects_in c.args.h.now) (records_of c.args.ms.now.records.now) _ _ _ _ _ _ _ _ ea (omega arith) c.is_multiple.ensures (not-false _ c.if-not-is_multiple.false-raw) el (c.place-found.ensures.0 h) c.placing_of.ensures
