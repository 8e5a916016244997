use native.Mathlib.Omega.{arith}
use Rattle.layout_objects.specs.Writing.{raw_back}
use borrow.Author.Rules.{rules}
use Rattle.layout_objects.proofs.words_of.Goals as goal

pub returns : goal.returns
returns c =
    rw (c.joined.ensures, c.joined-2.ensures)
    (raw_back c.args.r
    (record {
      kind = omega arith;
      home = omega arith;
      reserves = omega arith;
      allows = omega arith;
      starts = search rules;
      lasts = search rules;
      froms = search rules;
      ends = search rules;
    }))
