-- Behind what begins at or before x, or at the last of it.
use native.Mathlib.Omega.{arith}
use mathlib.Core.Path.{ap, ◌∙◌}
use Rattle.rules_table.specs.declared.Mapping.{Mapping}
use lib.ListN.{take}
use Rattle.rules_index.specs.Index.{view}
use Rattle.layout_mappings.specs.Words.{records_of}
use Rattle.gaps.proofs.Entering.{enter_first, enter_here, enter_back}
use Rattle.gaps.proofs.entry_of.Goals.{else-p-gt0-via-then-p-gt0+else-space_at-s, else-p-gt0-via-else-p-gt0}
use Rattle.gaps.proofs.entry_of.Goals as goal

pub returns-then-space_at-s : goal.returns-then-space_at-s
returns-then-space_at-s c = enter_back (view (take c.args.m.now.listed c.args.m.now.index.now) (records_of c.args.m.now.records.now)) c.args.m.now.indexed.apart c.args.s c.args.x c.count_entered-p.result c.count_entered-p.ensures.0 c.space_at.result (c.space_at.ensures ∙ ap (λ (m : Mapping). m.space) c.slot_of.ensures.0) (omega arith) (omega (arith, c.if-space_at-s.true)) _ (omega arith)

pub returns : goal.returns
returns c =
    elim c.else-p-gt0.branch [
      | else-p-gt0-via-then-p-gt0+else-space_at-s w ↦ enter_here (view (take c.args.m.now.listed c.args.m.now.index.now) (records_of c.args.m.now.records.now)) c.args.m.now.indexed.apart c.args.s c.args.x c.count_entered-p.result c.count_entered-p.ensures.0 w.space_at.result (w.space_at.ensures ∙ ap (λ (m : Mapping). m.space) w.slot_of.ensures.0) w.if-space_at-s.false
      | else-p-gt0-via-else-p-gt0 w ↦ enter_first (view (take c.args.m.now.listed c.args.m.now.index.now) (records_of c.args.m.now.records.now)) c.args.m.now.indexed.apart c.args.s c.args.x c.count_entered-p.result c.count_entered-p.ensures.0 (omega (arith, w.if-p-gt0.false))
    ]
