-- One search for each range of the list.
use native.Mathlib.Omega.{arith}
use mathlib.Core.Path.{refl, sym, ◌∙◌}
use Rattle.lists.specs.Search.{any, any-end}
use Rattle.layout_mappings.specs.Words.{records_of}
use Rattle.check_reserved.specs.Clear.{strikes}
use Rattle.check_reserved.proofs.Clearing.{list_found, list_on}
use Rattle.check_reserved.proofs.list_struck.Goals as goal

pub loop-i-init : goal.loop-i-init
loop-i-init c = refl

pub returns-then-some_struck : goal.returns-then-some_struck
returns-then-some_struck c = list_found (λ r. any (strikes c.args.s r) (records_of c.args.m.now.records.now)) _ c.loop-i.i c.loop-i.invariant _ c.at.ensures (omega arith) (sym c.some_struck.ensures ∙ c.if-some_struck.true)

pub loop-i-preserved : goal.loop-i-preserved
loop-i-preserved c = list_on (λ r. any (strikes c.args.s r) (records_of c.args.m.now.records.now)) _ c.loop-i.i c.loop-i.invariant _ c.at.ensures (omega arith) (sym c.some_struck.ensures ∙ c.if-some_struck.false)

pub returns : goal.returns
returns c = any-end (λ r. any (strikes c.args.s r) (records_of c.args.m.now.records.now)) _ c.loop-i.i c.loop-i.invariant (omega arith)
