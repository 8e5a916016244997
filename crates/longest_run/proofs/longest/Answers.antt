-- The windows are the allow list; without one, the window is every address.
use mathlib.Core.Path.{refl}
use native.Mathlib.Omega.{arith}
use Rattle.rules_table.specs.Words.{objects_in}
use Rattle.layout_mappings.specs.Words.{records_of}
use Rattle.longest_run.proofs.Running.{longest_open, longest_listed}
use borrow.Author.Rules.{rules}
use Rattle.longest_run.proofs.longest.Goals as goal

pub returns-then-allow-eq0 : goal.returns-then-allow-eq0
returns-then-allow-eq0 c = let a = c.args in λ ea eq. longest_open (objects_in a.h.now) (records_of a.ws.now) _ _ _ (search rules) (search rules) _ ea eq (omega (arith, c.if-allow-eq0.true)) _ _ refl refl c.in_window.ensures

pub returns : goal.returns
returns c = let a = c.args in λ ea eq. longest_listed (objects_in a.h.now) (records_of a.ws.now) _ _ _ (search rules) (search rules) _ ea eq (λ e. omega (arith, e, c.if-allow-eq0.false)) c.in_list.ensures
