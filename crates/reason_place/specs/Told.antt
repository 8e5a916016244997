-- What is told of a place: the name of the first check that refuses it.
use Rattle.std.specs.Prelude.{List}
use Rattle.lists.specs.Checks.{first}
use Rattle.rules_table.specs.Flags.{fixed}
use Rattle.rules_table.specs.declared.Object.{Object}
use Rattle.rules_table.specs.declared.Mapping.{Mapping}
use Rattle.rules_calls.specs.Landing.{place_checks}
use Rattle.landing.specs.declared.Target.{Target}
use Rattle.rules_reasons.specs.declared.Reason.{Reason}
use Rattle.rules_reasons.specs.declared.Reason.TheVariants.{Accepted}
use Rattle.rules_reasons.specs.Reasons.{named, place_names}

abbrev pub place_reason : List Object → List Mapping → Target → Reason
place_reason os ms t =
    first
    (named (place_checks os ms t.space (fixed t.flags) t.length t.address) (place_names os ms t.space (fixed t.flags) t.length t.address))
    Accepted
