-- Word by word.
use Rattle.reason_words.specs.declared.Parts.{Parts}
use Rattle.reason_words.specs.Words.{written}
use Rattle.reason_words.proofs.write.Goals as goal

pub returns : goal.returns
returns c =
    let p : Parts = record { code = c.from.result; errno = c.from-2.result; number = c.from-3.result; run = c.parts_in-p.result.run } in
    written c.args.r p c.args.words.now _ _ (rw (c.from.ensures, c.from-2.ensures, c.from-3.ensures) c.parts_in-p.ensures) c.requires.0 c.run_start.ensures c.run_length.ensures
