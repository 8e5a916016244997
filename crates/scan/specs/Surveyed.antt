-- What MAP and COPY ask of the mapping records, as one value: a free record, a free backing number, and the charge.
use Rattle.std.specs.Prelude.{List}
use Rattle.rules_table.specs.declared.Mapping.{Mapping}
use Rattle.rules_table.specs.Charge.{charge, free_mapping, free_backing}
use Rattle.scan.specs.declared.Survey.{Survey}

-- the records, before something is mapped
unfoldable pub survey_of : List Mapping → Survey
survey_of ms = record { free = free_mapping ms; backing = free_backing ms; charge = charge ms }
