-- The opening, then the command.
use native.Mathlib.Omega.{arith}
use mathlib.Core.Path.{refl}
use Rattle.rules_table.specs.Words.{objects_in}
use Rattle.layout_mappings.specs.Words.{records_of}
use Rattle.check_table.specs.Known.{page-some}
use Rattle.rules_calls.specs.Copy.{copy_fields}
use Rattle.rules_reasons.specs.Reasons.{copy_reason}
use Rattle.cmd_explain.proofs.Naming.{is-accepted, is-refused}
use Rattle.explain.proofs.Opening.{open_refused, open_passed, open_long, copy_read}
use Rattle.explain.proofs.copy_reason.Goals as goal

pub returns-then-not-is_accepted : goal.returns-then-not-is_accepted
returns-then-not-is_accepted c = let a = c.args in let g = a.good.now in open_refused 40 a.cmd.now _ c.requires (copy_reason (objects_in g.head.now) (records_of g.records.now) (copy_fields a.cmd.now)) (is-refused _ _ c.is_accepted.ensures c.if-not-is_accepted.true-raw)

pub read32-space-requires : goal.read32-space-requires
read32-space-requires c = omega (arith, open_long 40 c.args.cmd.now _ c.requires (is-accepted _ _ c.is_accepted.ensures c.if-not-is_accepted.false-raw))

pub read32-source-requires : goal.read32-source-requires
read32-source-requires c = omega (arith, open_long 40 c.args.cmd.now _ c.requires (is-accepted _ _ c.is_accepted.ensures c.if-not-is_accepted.false-raw))

pub read32-requires : goal.read32-requires
read32-requires c = omega (arith, open_long 40 c.args.cmd.now _ c.requires (is-accepted _ _ c.is_accepted.ensures c.if-not-is_accepted.false-raw))

pub read64-requires : goal.read64-requires
read64-requires c = omega (arith, open_long 40 c.args.cmd.now _ c.requires (is-accepted _ _ c.is_accepted.ensures c.if-not-is_accepted.false-raw))

pub read64-requires-2 : goal.read64-requires-2
read64-requires-2 c = omega (arith, open_long 40 c.args.cmd.now _ c.requires (is-accepted _ _ c.is_accepted.ensures c.if-not-is_accepted.false-raw))

pub read64-from-requires : goal.read64-from-requires
read64-from-requires c = omega (arith, open_long 40 c.args.cmd.now _ c.requires (is-accepted _ _ c.is_accepted.ensures c.if-not-is_accepted.false-raw))

pub copy_reason-requires : goal.copy_reason-requires
copy_reason-requires c = let os = objects_in c.args.good.now.head.now in (page-some os _ _ _ c.page_of-a.ensures refl, page-some os _ _ _ c.page_of-b.ensures refl, omega arith)

pub returns : goal.returns
returns c = let a = c.args in let g = a.good.now in open_passed 40 a.cmd.now _ c.requires (copy_reason (objects_in g.head.now) (records_of g.records.now) (copy_fields a.cmd.now)) _ (is-accepted _ _ c.is_accepted.ensures c.if-not-is_accepted.false-raw) (copy_read _ _ a.cmd.now _ _ _ _ c.read32-space.ensures c.read32.ensures c.read64.ensures c.read64-2.ensures c.read32-source.ensures c.read64-from.ensures (rw (← c.mappings.ensures.0) (c.copy_reason.ensures c.page_of-a.ensures c.page_of-b.ensures)))
