use native.Mathlib.Omega.{arith}
use mathlib.Core.Bool.{true, false}
use Rattle.index_search.specs.Indexed.{number-from, number-upto, words-counted}
use Rattle.layout_mappings.specs.Words.{records_of}
use Rattle.index_next.proofs.Telling.{told-past, told_here}
use Rattle.index_next.proofs.told_at.Goals.{else-k-m-via-then-k-m+else-ends_from, else-k-m-via-else-k-m}
use Rattle.index_next.proofs.told_at.Goals as goal

pub slot_at-requires : goal.slot_at-requires
slot_at-requires c = (omega (arith, c.args.m.now.indexed.most, c.args.m.now.indexed.long), number-from c.args.m.now.listed c.args.m.now.index.now c.args.m.now.records.now c.args.m.now.indexed c.args.k (omega arith), number-upto c.args.m.now.listed c.args.m.now.index.now c.args.m.now.records.now c.args.m.now.indexed c.args.k (omega arith))

pub ends_from-requires : goal.ends_from-requires
ends_from-requires c = omega (arith, c.slot_at.ensures.1, words-counted c.args.m.now.listed c.args.m.now.index.now c.args.m.now.records.now c.args.m.now.indexed)

pub returns-then-ends_from : goal.returns-then-ends_from
returns-then-ends_from c = told_here c.args.m.now.listed c.args.m.now.index.now c.args.m.now.records.now c.args.m.now.indexed c.args.s c.args.a c.args.k (omega arith) c.slot_at.result c.slot_at.ensures.0 c.ends_from.result true c.ends_from.ensures c.if-ends_from.true

pub returns : goal.returns
returns c =
    elim c.else-k-m.branch [
      | else-k-m-via-then-k-m+else-ends_from w ↦ told_here c.args.m.now.listed c.args.m.now.index.now c.args.m.now.records.now c.args.m.now.indexed c.args.s c.args.a c.args.k (omega (arith, w.if-k-m.true)) w.slot_at.result w.slot_at.ensures.0 w.ends_from.result false w.ends_from.ensures w.if-ends_from.false
      | else-k-m-via-else-k-m w ↦ told-past c.args.m.now.listed c.args.m.now.index.now (records_of c.args.m.now.records.now) c.args.s c.args.a c.args.k (omega (arith, w.if-k-m.false)) c.requires
    ]
