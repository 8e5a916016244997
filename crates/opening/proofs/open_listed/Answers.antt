-- One law a return: the first check that fires.
use native.Mathlib.Omega.{arith}
use mathlib.Core.Path.{sym, ap, ◌∙◌}
use borrow.Author.Tests.{not-true, not-false}
use Rattle.rules_calls.specs.Opening.{size_field}
use Rattle.wire.specs.Fields.{zeros}
use Rattle.opening.proofs.Steps.{no_size, too_small, past_bytes, tail-set, is_open}
use Rattle.opening.proofs.open_listed.Goals as goal

pub returns-then-cmd-lt4 : goal.returns-then-cmd-lt4
returns-then-cmd-lt4 c = no_size _ _ c.requires _ (omega arith)

pub returns-then-size-known : goal.returns-then-size-known
unfolding size_field
returns-then-size-known c = too_small _ _ c.requires _ (omega arith) _ c.read32-size.ensures (omega arith)

pub returns-then-cmd-size : goal.returns-then-cmd-size
unfolding size_field
returns-then-cmd-size c = past_bytes _ _ c.requires _ (omega arith) _ c.read32-size.ensures (omega arith) (omega arith)

pub returns-then-not-all_zero : goal.returns-then-not-all_zero
unfolding size_field
returns-then-not-all_zero c = tail-set _ _ c.requires _ (omega arith) _ c.read32-size.ensures (omega arith) (omega arith) (ap zeros (sym c.unknown_tail.ensures) ∙ sym c.all_zero.ensures ∙ not-true _ c.if-not-all_zero.true-raw)

pub returns : goal.returns
unfolding size_field
returns c = is_open _ _ c.requires _ (omega arith) _ c.read32-size.ensures (omega arith) (omega arith) (ap zeros (sym c.unknown_tail.ensures) ∙ sym c.all_zero.ensures ∙ not-false _ c.if-not-all_zero.false-raw)
