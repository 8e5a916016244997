-- The numbers or the mappings refused, or the mappings inside go.
use Rattle.std.specs.Prelude.{Err}
use Prim.Native.Nat.{◌≤◌}
use mathlib.Core.Path.{◌≡◌, sym, subst}
use Rattle.ranges.specs.declared.Range.{Range}
use Rattle.edits.specs.Numbers.{asked-some}
use Rattle.index_search.specs.Removed.{records-short}
use Rattle.cmd_unmap.proofs.Unmapping.{is_known, by-numbers, by-removal, by-clearing}
use borrow.Author.Rules.{rules}
use Rattle.cmd_unmap.proofs.unmapped_in.Goals as goal

pub returns-in_err-check_numbers : goal.returns-in_err-check_numbers
returns-in_err-check_numbers c = λ os k.
    let is : c.from_residual.result ≡ Err c.in_err-check_numbers.field-0.0 = search rules in
    by-numbers os _ _ _ _ _ _ (c.in_err-check_numbers.ensures os _ k) is

pub removal_of-v-requires : goal.removal_of-v-requires
removal_of-v-requires c = (c.requires.0 (is_known c.args.known c.args.a c.args.n c.in_ok-check_numbers.ensures), subst (λ (r : Range). r.start ≤ r.last) (sym c.range_asked-r.ensures) (asked-some c.args.a c.args.n (search rules)), records-short c.requires.1.0 _ c.requires.1.1)

pub returns-in_err-check_removal : goal.returns-in_err-check_removal
returns-in_err-check_removal c = λ os k.
    let is : c.from_residual-in_err-check_removal.result ≡ Err c.in_err-check_removal.field-0.0 = search rules in
    by-removal os _ _ _ _ (c.in_ok-check_numbers.ensures os _ k) _ c.range_asked-r.ensures _ c.removal_of-v.ensures _ c.asks_all.ensures _ _ c.in_err-check_removal.ensures is

pub returns : goal.returns
returns c = λ os k. by-clearing os _ _ _ _ (c.in_ok-check_numbers.ensures os _ k) _ c.range_asked-r.ensures _ c.removal_of-v.ensures _ c.asks_all.ensures _ _ c.in_ok-check_removal.ensures c.free_object.ensures c.acceptance.ensures
