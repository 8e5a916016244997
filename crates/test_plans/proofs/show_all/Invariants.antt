-- Each plan leaves fewer bytes, so that no more are counted than there are.
use Rattle.std.proofs.Common.{◌+◌, ◌≤◌, length}
use Rattle.test_plans.proofs.show_all.Given as goal

abbrev pub invariant-loop-plan : goal.invariant-loop-plan
invariant-loop-plan l = l.k + length l.s ≤ length l.initial.s

abbrev pub decreases-loop-plan : goal.decreases-loop-plan
decreases-loop-plan l = length l.s
