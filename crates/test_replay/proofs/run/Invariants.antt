-- Each record leaves fewer bytes.
use Rattle.std.proofs.Common.{length}
use Rattle.test_replay.proofs.run.Given as goal

abbrev pub decreases-loop-operation : goal.decreases-loop-operation
decreases-loop-operation l = length l.left
