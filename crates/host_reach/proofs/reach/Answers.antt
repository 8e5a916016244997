-- By the checks, then by the mapping found.
use native.Mathlib.Omega.{arith}
use Prim.Native.Nat.{◌≤◌}
use mathlib.Core.Path.{◌≡◌, sym, ap, subst, ◌∙◌}
use Rattle.ranges.specs.declared.Range.{Range}
use Rattle.ranges.specs.Ranges.{span, span-some}
use Rattle.rules_calls.specs.Edits.{refuse}
use Rattle.rules_calls.specs.Reach.{around}
use Rattle.layout_mappings.specs.Words.{records_of}
use Rattle.checks.specs.Refused.{refused}
use Rattle.edits.specs.Settled.{decided, refused-err, refused-ok}
use Rattle.host_reach.proofs.Reaching.{home-pos, reach-refused, reach-nowhere, reach-found, around-fits}
use borrow.Author.Rules.{rules}
use Rattle.host_reach.proofs.reach.Goals as goal

pub returns-in_err-reach_checks : goal.returns-in_err-reach_checks
returns-in_err-reach_checks c = λ os d e. let r = c.reach_checks.result in
    let told : decided c.from_residual.result ≡ refuse (refused r) = search rules in
    told ∙ reach-refused os _ d _ _ _ _ e _ c.reach_checks.ensures (refused-err r c.in_err-reach_checks.field-0.0 (search rules))

pub find_around-requires : goal.find_around-requires
unfolding span
find_around-requires c = (home-pos c.args.o.kind c.args.a c.args.n _ _ c.reach_checks.ensures (refused-ok c.reach_checks.result c.in_ok-reach_checks.field-0 (search rules)) c.home_of-s.ensures c.requires.0, subst (λ (r : Range). r.start ≤ r.last) (sym c.span_of-r.ensures) (span-some c.args.a c.args.n (search rules)))

pub returns-in_default : goal.returns-in_default
returns-in_default c = λ os d e. reach-nowhere os _ d _ _ _ _ e _ c.reach_checks.ensures _ _ _ (refused-ok c.reach_checks.result c.in_ok-reach_checks.field-0 (search rules)) c.home_of-s.ensures c.span_of-r.ensures c.find_around.ensures c.in_default.is

pub reach_in-requires : goal.reach_in-requires
reach_in-requires c = around-fits c.requires.1.0 _ _ _ _ _ (c.find_around.ensures ∙ ap (λ (r : Range). (around (records_of c.args.ms.now.records.now) c.home_of-s.result r)) c.span_of-r.ensures) _ c.in-Some.is (omega arith) c.requires.1.1

pub returns : goal.returns
returns c = λ os d e. reach-found os _ d _ _ _ _ e _ c.reach_checks.ensures _ _ _ (refused-ok c.reach_checks.result c.in_ok-reach_checks.field-0 (search rules)) c.home_of-s.ensures c.span_of-r.ensures c.find_around.ensures _ _ c.in-Some.is c.reach_in.ensures
