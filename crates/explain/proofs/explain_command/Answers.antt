-- Each command by its case.
use mathlib.Core.Path.{◌≡◌, subst}
use mathlib.Core.Logic.{⊎_elim}
use Rattle.rules_table.specs.Words.{head_in, objects_in}
use Rattle.layout_mappings.specs.Words.{records_of}
use Rattle.rules_calls.specs.declared.Command.{Command}
use Rattle.rules_calls.specs.declared.Command.TheVariants.{Destroy, IoasAlloc, AllowIovas, Copy, IovaRanges, Map, Unmap}
use Rattle.rules_calls.specs.Requests.{request_of}
use Rattle.rules_calls.specs.Gate.{table_with}
use Rattle.rules_reasons.specs.declared.Reason.TheVariants.{Accepted}
use Rattle.rules_reasons.specs.Explain.{open_or}
use Rattle.explain.proofs.Answering.{arm, told, other}
use Rattle.explain.proofs.explain_command.Goals as goal

pub copy_reason-requires : goal.copy_reason-requires
copy_reason-requires c = subst (λ (d : Command). c.args.opened ≡ open_or (request_of d).size c.args.cmd.now Accepted) c.in-Copy.is c.requires

pub map_reason-requires : goal.map_reason-requires
map_reason-requires c = subst (λ (d : Command). c.args.opened ≡ open_or (request_of d).size c.args.cmd.now Accepted) c.in-Map.is c.requires

pub returns-in-Destroy : goal.returns-in-Destroy
returns-in-Destroy c = let a = c.args in let t = table_with (head_in a.good.now.head.now).limit (objects_in a.good.now.head.now) (records_of a.good.now.records.now) in ⊎_elim (λ e. arm a.c Destroy t a.cmd.now _ e (other 25)) (λ h. ⊎_elim (λ e. arm a.c IoasAlloc t a.cmd.now _ e (other 25)) (λ h. ⊎_elim (λ e. arm a.c AllowIovas t a.cmd.now _ e (other 25)) (λ h. ⊎_elim (λ e. arm a.c IovaRanges t a.cmd.now _ e (other 25)) (λ e. arm a.c Unmap t a.cmd.now _ e (other 25)) h) h) h) c.in-Destroy.is

pub returns-in-Copy : goal.returns-in-Copy
returns-in-Copy c = let a = c.args in let t = table_with (head_in a.good.now.head.now).limit (objects_in a.good.now.head.now) (records_of a.good.now.records.now) in arm a.c Copy t a.cmd.now _ c.in-Copy.is (told _ _ c.copy_reason.ensures)

pub returns-in-Map : goal.returns-in-Map
returns-in-Map c = let a = c.args in let t = table_with (head_in a.good.now.head.now).limit (objects_in a.good.now.head.now) (records_of a.good.now.records.now) in arm a.c Map t a.cmd.now _ c.in-Map.is (told _ _ c.map_reason.ensures)
