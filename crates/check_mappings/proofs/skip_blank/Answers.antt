use Rattle.std.proofs.Common.{◌≡◌, subst, arith}
use Rattle.layout_mappings.specs.Words.{records_of}
use Rattle.check_mappings.specs.Next.{Next}
use Rattle.check_mappings.proofs.Skipping.{skipping_start, skipping_found, skipping_on, skipping_end}
use Rattle.check_mappings.proofs.skip_blank.Goals as goal

pub loop-j-init : goal.loop-j-init
loop-j-init c = skipping_start _ _ (omega (arith, c.requires))

pub is_empty-requires : goal.is_empty-requires
is_empty-requires c = omega (arith, c.loop-j-test.true, c.requires.1)

pub returns-then-not-is_empty : goal.returns-then-not-is_empty
returns-then-not-is_empty c = let l = c.loop-j in skipping_found _ _ l.j l.invariant (omega (arith, c.loop-j-test.true, c.requires.1)) _ c.is_empty.ensures c.if-not-is_empty.true

pub loop-j-preserved : goal.loop-j-preserved
loop-j-preserved c = let l = c.loop-j in skipping_on _ _ l.j l.invariant (omega (arith, c.loop-j-test.true, c.requires.1)) _ c.is_empty.ensures c.if-not-is_empty.false

pub returns : goal.returns
returns c =
    let l = c.loop-j in
    let e : l.j ≡ 128 = omega (arith, l.auto.j-end, c.requires.0) in
    subst (Next (records_of c.args.ws.now) c.args.from) e (skipping_end _ _ l.j l.invariant (omega (arith, c.loop-j-test.false, c.requires.1)))
