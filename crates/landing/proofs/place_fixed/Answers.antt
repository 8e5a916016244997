-- The checks of a fixed address refuse, or the address stays.
use Rattle.std.specs.Prelude.{Err}
use borrow.Author.Rules.{rules}
use mathlib.Core.Path.{◌≡◌, sym, ap}
use Rattle.checks.specs.Refused.{refused, number-some}
use Rattle.landing.proofs.Finding.{value, fixed-placed}
use Rattle.landing.proofs.place_fixed.Goals as goal

pub returns-in_err-check_fixed : goal.returns-in_err-check_fixed
returns-in_err-check_fixed c = λ os ms f ea er em.
    let e : c.from_residual.result ≡ Err c.in_err-check_fixed.field-0.0 = search rules in
    rw e (fixed-placed os ms _ _ _ f em (c.in_err-check_fixed.ensures os _ ea er) (λ x z. absurd (number-some _ (ap refused z))))

pub returns : goal.returns
returns c = λ os ms f ea er em. fixed-placed os ms _ _ _ f em (c.in_ok-check_fixed.ensures os _ ea er) (λ x z. sym (ap value z))
