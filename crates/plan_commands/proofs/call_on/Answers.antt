-- Both copies are what they were copied from.
use Rattle.plan_commands.proofs.Steps.{called}
use Rattle.plan_commands.proofs.call_on.Goals as goal

pub returns : goal.returns
returns c = called _ _ _ _ _ _ _ c.copy_from_slice.ensures.after c.copy_from_slice-2.ensures.after c.call.ensures.0
