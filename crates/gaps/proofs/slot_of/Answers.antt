-- The number at that place, less one.
use native.Mathlib.Omega.{arith}
use mathlib.Core.Path.{sym, ap, ◌∙◌}
use Prim.Native.Nat.{ℕ}
use Rattle.layout_mappings.specs.Words.{record_at}
use Rattle.index_search.specs.Indexed.{number-from, number-upto, words-counted, view-at}
use Rattle.gaps.proofs.slot_of.Goals as goal

pub slot_at-requires : goal.slot_at-requires
slot_at-requires c = (omega (arith, c.requires, c.args.m.now.indexed.most, c.args.m.now.indexed.long), number-from c.args.m.now.listed c.args.m.now.index.now c.args.m.now.records.now c.args.m.now.indexed c.args.k c.requires, number-upto c.args.m.now.listed c.args.m.now.index.now c.args.m.now.records.now c.args.m.now.indexed c.args.k c.requires)

pub returns : goal.returns
returns c = (ap (λ (i : ℕ). record_at c.args.m.now.records.now i) c.slot_at.ensures.0 ∙ sym (view-at c.args.m.now.listed c.args.m.now.index.now c.args.m.now.records.now c.args.m.now.indexed c.args.k c.requires), omega (arith, c.slot_at.ensures.1, words-counted c.args.m.now.listed c.args.m.now.index.now c.args.m.now.records.now c.args.m.now.indexed))
