use Rattle.std.proofs.Common.{arith, inl, inr}
use Rattle.check_mappings.proofs.Straying.{page-none, page-far, page-here}
use Rattle.check_mappings.proofs.page_of.Goals as goal

pub returns-then-space-eq0 : goal.returns-then-space-eq0
returns-then-space-eq0 c =
    let pages = c.args.pages.now in
    elim c.then-space-eq0.either [
      | inl z ↦ page-none pages c.args.space z
      | inr h ↦ page-far pages c.args.space c.requires (omega (arith, h.1))
    ]

pub returns : goal.returns
returns c = let a = c.args in page-here a.pages.now a.space c.if-space-eq0.false _ (omega (arith, c.if-space-gt32.false))
