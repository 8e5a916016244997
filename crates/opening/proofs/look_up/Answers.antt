-- One law for each row of the table, and one for a number that no row has.
use native.Mathlib.Omega.{arith}
use mathlib.Core.Path.{sym, ap}
use Rattle.rules_calls.specs.declared.Command.TheVariants.{Destroy, IoasAlloc, AllowIovas, Copy, IovaRanges, Map, Unmap}
use Rattle.rules_calls.specs.Requests.{commands, row_of}
use Rattle.opening.proofs.Lookups.{listed, unlisted}
use Rattle.opening.proofs.look_up.Goals as goal

pub returns-in-15232 : goal.returns-in-15232
returns-in-15232 c = ap row_of (listed Destroy _ (omega arith))

pub returns-in-15233 : goal.returns-in-15233
returns-in-15233 c = ap row_of (listed IoasAlloc _ (omega arith))

pub returns-in-15234 : goal.returns-in-15234
returns-in-15234 c = ap row_of (listed AllowIovas _ (omega arith))

pub returns-in-15235 : goal.returns-in-15235
returns-in-15235 c = ap row_of (listed Copy _ (omega arith))

pub returns-in-15236 : goal.returns-in-15236
returns-in-15236 c = ap row_of (listed IovaRanges _ (omega arith))

pub returns-in-15237 : goal.returns-in-15237
returns-in-15237 c = ap row_of (listed Map _ (omega arith))

pub returns-in-15238 : goal.returns-in-15238
returns-in-15238 c = ap row_of (listed Unmap _ (omega arith))

pub returns-in_default : goal.returns-in_default
unfolding commands
returns-in_default c = ap row_of (unlisted _ (λ e. c.in_default.in_default-own.rest.0.0.0.0.0.0.1 (sym e), (λ e. c.in_default.in_default-own.rest.0.0.0.0.0.1 (sym e), (λ e. c.in_default.in_default-own.rest.0.0.0.0.1 (sym e), (λ e. c.in_default.in_default-own.rest.0.0.0.1 (sym e), (λ e. c.in_default.in_default-own.rest.0.0.1 (sym e), (λ e. c.in_default.in_default-own.rest.0.1 (sym e), (λ e. c.in_default.in_default-own.rest.1 (sym e), tt))))))))
