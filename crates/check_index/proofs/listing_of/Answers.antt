use mathlib.Core.Path.{◌∙◌}
use native.Mathlib.Omega.{arith}
use Rattle.layout_mappings.specs.Words.{records_of, records-length}
use Rattle.check_index.proofs.Agreed.{listed-short, listed-fallen, listed-few, listed-behind, listed-good, numbers_fit}
use Rattle.check_index.proofs.listing_of.Goals as goal
use Rattle.check_index.proofs.listing_of.Goals.{then-listed-used-via-then-listed-used, then-listed-used-via-else-listed-used+then-not-is_zero_from}

pub returns-then-ix-ne128 : goal.returns-then-ix-ne128
returns-then-ix-ne128 c = let a = c.args in listed-short a.ix.now (records_of a.ws.now) c.if-ix-ne128.true

pub returns-in_err-listed : goal.returns-in_err-listed
returns-in_err-listed c = let a = c.args in rw c.from_residual.ensures (listed-fallen a.ix.now (records_of a.ws.now) c.in_err-listed.ensures)

pub returns-then-listed-used : goal.returns-then-listed-used
returns-then-listed-used c =
    let ix = c.args.ix.now in
    let ms = records_of c.args.ws.now in
    elim c.then-listed-used.branch [
      | then-listed-used-via-then-listed-used w ↦ listed-few ix ms _ c.in_ok-listed.ensures.1 c.args.used c.requires.2 (λ e. omega (arith, e, w.if-listed-used.true))
      | then-listed-used-via-else-listed-used+then-not-is_zero_from w ↦ listed-behind ix ms _ c.in_ok-listed.ensures.1 _ _ w.is_zero_from.ensures (omega arith) w.if-not-is_zero_from.true
    ]

pub is_zero_from-requires : goal.is_zero_from-requires
is_zero_from-requires c = let a = c.args in (omega (arith, c.if-ix-ne128.false), omega (arith, c.if-ix-ne128.false, c.in_ok-listed.ensures.1, numbers_fit a.ix.now))

pub returns : goal.returns
returns c = let a = c.args in listed-good a.ix.now (records_of a.ws.now) _ c.in_ok-listed.ensures.1 _ _ c.is_zero_from.ensures (omega arith) c.in_ok-listed.ensures.0 (records-length a.ws.now ∙ c.requires.0) c.requires.1 (omega (arith, c.if-ix-ne128.false)) (omega (arith, c.if-listed-used.false, c.requires.2)) c.if-not-is_zero_from.false
