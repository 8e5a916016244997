-- Both passes, and the verdict on what they tell.
use Prim.Native.Nat.{ℕ}
use mathlib.Core.Path.{◌≡◌, ap, ◌∙◌}
use lib.ListN.{length, length-replicate}
use Rattle.rules_table.specs.Words.{head_in, objects_in}
use Rattle.layout_mappings.specs.Words.{records_of, records-length}
use Rattle.check_table.proofs.Judging.{objects-bad, records-bad, judged-bad, is-checked}
use borrow.Author.Rules.{rules}
use Rattle.check_table.proofs.check.Goals as goal

pub returns-in_err-objects : goal.returns-in_err-objects
returns-in_err-objects c = let a = c.args in rw c.from_residual.ensures (objects-bad (head_in a.h.now).limit (objects_in a.h.now) (records_of a.ws.now) a.ix.now c.in_err-objects.ensures _ _)

pub pass_over-requires-2 : goal.pass_over-requires-2
pass_over-requires-2 c = let l : length c.args.pages.now ≡ 33 = ap length c.requires.1 ∙ length-replicate {A = ℕ} 33 0 in (c.requires.0, search (rules, l), c.requires.2)

pub returns-in_err-mappings : goal.returns-in_err-mappings
returns-in_err-mappings c = let a = c.args in rw c.from_residual-in_err-mappings.ensures (records-bad (head_in a.h.now).limit (objects_in a.h.now) (records_of a.ws.now) a.ix.now _ c.in_ok-objects.ensures.aligned c.in_err-mappings.ensures _)

pub judge-requires : goal.judge-requires
judge-requires c = (c.requires.0, record { pages = _; marks = _; objects = c.in_ok-objects.ensures.good; aligned = c.in_ok-objects.ensures.aligned; mappings = c.in_ok-mappings.ensures })

pub returns-in_err-listed : goal.returns-in_err-listed
returns-in_err-listed c = let a = c.args in rw c.from_residual-in_err-listed.ensures (judged-bad (head_in a.h.now).limit (objects_in a.h.now) (records_of a.ws.now) a.ix.now c.in_err-listed.ensures _ _)

pub returns : goal.returns
returns c = let a = c.args in is-checked (head_in a.h.now).limit (objects_in a.h.now) (records_of a.ws.now) a.ix.now _ record { pages = _; marks = _; objects = c.in_ok-objects.ensures.good; aligned = c.in_ok-objects.ensures.aligned; mappings = c.in_ok-mappings.ensures } (records-length a.ws.now ∙ c.requires.0) (let l : length a.marks.now ≡ 129 = ap length c.requires.2 ∙ length-replicate {A = ℕ} 129 0 in search (rules, l)) _ c.in_ok-objects.ensures.free _ c.in_ok-listed.ensures
