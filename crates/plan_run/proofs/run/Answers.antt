-- A run of the plan gives what is promised.
use Rattle.plan_run.specs.Shown.{shows_of}
use Rattle.plan_run.proofs.run.Goals as goal

pub returns : goal.returns
returns c = shows_of _ _ _ c.run.ensures
