-- Check by check: the first that fires stops.
use Rattle.std.specs.Prelude.{Err}
use mathlib.Core.Path.{◌≡◌, ◌∙◌}
use borrow.Author.Rules.{rules}
use Rattle.rules_calls.specs.Map.{room_checks}
use Rattle.rules_reasons.specs.Reasons.{named}
use Rattle.cmd_explain.proofs.Naming.{after, stop, pass, last, none-is}
use Rattle.cmd_explain.proofs.room_reason.Goals as goal

pub returns-in_err-name_if : goal.returns-in_err-name_if
unfolding room_checks named
returns-in_err-name_if c = λ rest.
    let is : c.from_residual.result ≡ Err c.in_err-name_if.field-0.0 = search rules in
    after is rest ∙ stop _ _ _ _ _ (none-is c.args.free _ c.is_none.ensures) c.in_err-name_if.ensures rest

pub returns : goal.returns
unfolding room_checks named
returns c = λ rest. last _ _ _ c.name_if-2.result c.over_limit.ensures c.name_if-2.ensures rest ∙ pass _ _ _ _ (none-is c.args.free _ c.is_none.ensures) c.in_ok-name_if.ensures rest
