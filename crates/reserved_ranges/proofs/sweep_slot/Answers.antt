-- A pass over the ranges of the slot, of which there are few.
use Rattle.std.proofs.Common.{ap, subst, length, List, arith}
use Rattle.ranges.specs.declared.Range.{Range}
use Rattle.placement.specs.Jumps.{Swept}
use Rattle.layout_objects.specs.Slots.{object_in}
use Rattle.reserved_ranges.specs.Gathered.{reserved_for-most}
use Rattle.reserved_ranges.proofs.sweep_slot.Goals as goal

pub sweep-requires : goal.sweep-requires
sweep-requires c =
    let o = c.args.o.now in
    omega (arith, ap (λ (rs : List Range). length rs) c.reserved_for.ensures, reserved_for-most c.args.s (object_in o.head.now o.at))

pub returns : goal.returns
returns c = subst (λ (qs : List Range). Swept c.args.w.alignment c.args.w.length qs c.args.from c.sweep.result.spot c.sweep.result.jumps) c.reserved_for.ensures c.sweep.ensures
