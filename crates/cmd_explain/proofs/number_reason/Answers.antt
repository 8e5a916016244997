-- Check by check: the first that fires stops.
use Rattle.std.specs.Prelude.{Err}
use mathlib.Core.Path.{◌≡◌, refl, ◌∙◌}
use borrow.Author.Rules.{rules}
use Rattle.cmd_explain.proofs.Naming.{after, stop, pass, last}
use Rattle.cmd_explain.proofs.number_reason.Goals as goal

pub returns-in_err-name_if : goal.returns-in_err-name_if
returns-in_err-name_if c = λ rest.
    let is : c.from_residual.result ≡ Err c.in_err-name_if.field-0.0 = search rules in
    after is rest ∙ stop _ _ _ _ _ refl c.in_err-name_if.ensures rest

pub returns-in_err-name_if-2 : goal.returns-in_err-name_if-2
returns-in_err-name_if-2 c = λ rest.
    let is : c.from_residual-in_err-name_if-2.result ≡ Err c.in_err-name_if-2.field-0.0 = search rules in
    after is rest ∙ (stop _ _ _ _ _ c.has_no_right.ensures c.in_err-name_if-2.ensures rest ∙ pass _ _ _ _ refl c.in_ok-name_if.ensures rest)

pub returns-in_err-name_if-3 : goal.returns-in_err-name_if-3
returns-in_err-name_if-3 c = λ rest.
    let is : c.from_residual-in_err-name_if-3.result ≡ Err c.in_err-name_if-3.field-0.0 = search rules in
    after is rest ∙ (stop _ _ _ _ _ c.is_wrong_length.ensures c.in_err-name_if-3.ensures rest ∙ pass _ _ _ _ c.has_no_right.ensures c.in_ok-name_if-2.ensures rest ∙ pass _ _ _ _ refl c.in_ok-name_if.ensures rest)

pub returns-in_err-name_if-4 : goal.returns-in_err-name_if-4
returns-in_err-name_if-4 c = λ rest.
    let is : c.from_residual-in_err-name_if-4.result ≡ Err c.in_err-name_if-4.field-0.0 = search rules in
    after is rest ∙ (stop _ _ _ _ _ c.passes_max.ensures c.in_err-name_if-4.ensures rest ∙ pass _ _ _ _ c.is_wrong_length.ensures c.in_ok-name_if-3.ensures rest ∙ pass _ _ _ _ c.has_no_right.ensures c.in_ok-name_if-2.ensures rest ∙ pass _ _ _ _ refl c.in_ok-name_if.ensures rest)

pub returns : goal.returns
returns c = λ rest. last _ _ _ c.name_if-5.result c.fixed_passes.ensures c.name_if-5.ensures rest ∙ pass _ _ _ _ c.passes_max.ensures c.in_ok-name_if-4.ensures rest ∙ pass _ _ _ _ c.is_wrong_length.ensures c.in_ok-name_if-3.ensures rest ∙ pass _ _ _ _ c.has_no_right.ensures c.in_ok-name_if-2.ensures rest ∙ pass _ _ _ _ refl c.in_ok-name_if.ensures rest
