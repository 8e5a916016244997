use native.Mathlib.Omega.{arith}
use borrow.Author.Rules.{rules}
use Rattle.layout_objects.proofs.Clearing.{copied-part}
use Rattle.layout_objects.proofs.put_words.Goals as goal

pub returns : goal.returns
returns c = copied-part _ _ c.args.w 27 _ _ c.copy_from_slice.ensures.after (omega arith) (search rules) c.requires
