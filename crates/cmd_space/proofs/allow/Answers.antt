-- A refusal by the numbers, one by the list, or the new list.
use mathlib.Core.Path.{sym, ◌∙◌}
use borrow.Author.Rules.{rules}
use Rattle.rules_table.specs.Words.{objects_in}
use Rattle.rules_calls.specs.Allow.{allow_edit}
use Rattle.edits.specs.Settled.{refused-err, refused-ok, settle-err, settle-ok}
use Rattle.cmd_space.proofs.Listing.{known_at, by-numbers, by-list, area-holds, allow-edit}
use Rattle.cmd_space.proofs.allow.Goals as goal

pub returns-in_err-number_checks : goal.returns-in_err-number_checks
unfolding allow_edit
returns-in_err-number_checks c = let os = objects_in c.args.h.now in let r = c.number_checks.result in let e = c.in_err-number_checks.field-0.0 in
    settle-err r e _ c.from_residual.result _ (search rules) (search rules) (by-numbers os _ _ _ _ _ (c.number_checks.ensures os _ (known_at os _ _ _ c.object_of-o.ensures c.is_space.ensures)) (refused-err r e (search rules)))

pub area_list-l-requires : goal.area_list-l-requires
area_list-l-requires c = let a = c.args in let os = objects_in a.h.now in
    area-holds os a.space a.count a.zero a.area.now
    (sym (refused-ok c.number_checks.result c.in_ok-number_checks.field-0 (search rules)) ∙ c.number_checks.ensures os _ (known_at os _ _ _ c.object_of-o.ensures c.is_space.ensures))

pub returns-in_err-list_checks : goal.returns-in_err-list_checks
unfolding allow_edit
returns-in_err-list_checks c = let os = objects_in c.args.h.now in
    settle-err c.list_checks.result c.in_err-list_checks.field-0.0 _ c.from_residual-in_err-list_checks.result _ (search rules) (search rules)
    (by-list os _ _ _ _ _ _ (sym (refused-ok c.number_checks.result c.in_ok-number_checks.field-0 (search rules)) ∙ c.number_checks.ensures os _ (known_at os _ _ _ c.object_of-o.ensures c.is_space.ensures)) c.area_list-l.ensures c.list_checks.ensures)

pub returns : goal.returns
unfolding allow_edit
returns c = let os = objects_in c.args.h.now in
    settle-ok c.list_checks.result c.in_ok-list_checks.field-0 _ _ _ (search rules)
    (by-list os _ _ _ _ _ _ (sym (refused-ok c.number_checks.result c.in_ok-number_checks.field-0 (search rules)) ∙ c.number_checks.ensures os _ (known_at os _ _ _ c.object_of-o.ensures c.is_space.ensures)) c.area_list-l.ensures c.list_checks.ensures)
    (allow-edit os _ _ _ _ _ _ _ _ c.object_of-o.ensures c.slot_of.ensures c.area_list-l.ensures c.with_allow.ensures c.acceptance.ensures)
