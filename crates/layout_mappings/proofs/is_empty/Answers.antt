use mathlib.Core.Path.{sym, ap, ◌∙◌}
use mathlib.Core.List.{[]}
use lib.ListN.{get_or}
use borrow.Author.Rules.{rules}
use Rattle.std.proofs.Math.Bool.{and_assoc}
use Rattle.layout_mappings.specs.Words.{records-at, is_empty}
use Rattle.layout_mappings.proofs.Emptying.{empty-words}
use Rattle.layout_mappings.proofs.is_empty.Goals as goal

pub returns : goal.returns
returns c = simp and_assoc (empty-words (get_or c.args.ws.now c.args.i []) (search rules) (search rules) ∙ ap is_empty (sym (records-at c.args.ws.now c.args.i)))
