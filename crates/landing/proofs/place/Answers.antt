-- The windows are the allow list; without one, the window is every address.
use native.Mathlib.Omega.{arith}
use Rattle.rules_table.specs.Words.{objects_in}
use Rattle.layout_mappings.specs.Words.{records_of}
use Rattle.rules_calls.specs.Landing.{blocked_in}
use Rattle.landing.proofs.Joining.{place-open, place-listed}
use borrow.Author.Rules.{rules}
use Rattle.landing.proofs.place.Goals as goal

pub returns-then-allow-eq0 : goal.returns-then-allow-eq0
returns-then-allow-eq0 c = place-open _ _ _ _ (blocked_in (objects_in c.args.h.now) (records_of c.args.ms.now.records.now) c.args.s) _ _ _ (omega (arith, c.if-allow-eq0.true)) c.gap_in.ensures

pub returns : goal.returns
returns c = place-listed _ _ _ _ (blocked_in (objects_in c.args.h.now) (records_of c.args.ms.now.records.now) c.args.s) _ _ _ (search rules) (search rules) (λ e. omega (arith, e, c.if-allow-eq0.false)) c.search_each.ensures
