use mathlib.Core.Path.{◌∙◌}
use Rattle.check_table.specs.Known.{table_is, table-back}
use Rattle.iommufd.proofs.Dispatching.{good-back}
use Rattle.iommufd.proofs.is_good.Goals as goal

pub returns : goal.returns
returns c = let a = c.args in good-back a.t _ _ _ _ (table_is _ _ ∙ table-back a.t _ _ c.head_of-h.ensures.0 c.head_of-h.ensures.1 c.words_of-ws.ensures) c.words_of-ws.ensures c.make.ensures.1 (c.is_some.ensures ∙ c.check.ensures.verdict)
