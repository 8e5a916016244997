use Rattle.rules_calls.specs.declared.Act.TheVariants.{Next, Bind, Detach, Charge}
use Prim.Native.Nat.{ℕ, max}
use mathlib.Core.List.{List}
use mathlib.Core.Path.{◌≡◌, ap, subst, ◌∙◌}
use Rattle.rules_calls.specs.Orders.{act_edit}
use native.Mathlib.Omega.{arith}
use Rattle.rules_table.specs.Records.{object_at}
use Rattle.rules_table.specs.Spaces.{alignment}
use Rattle.rules_table.specs.Words.{head_in, objects_in}
use Rattle.rules_calls.specs.Gate.{table_with}
use Rattle.rules_calls.specs.Edits.{tells}
use Rattle.layout_objects.specs.Slots.{objects-long}
use Rattle.layout_mappings.specs.Words.{records_of}
use Rattle.check_table.specs.Known.{page-higher}
use Rattle.host_calls.proofs.Guarding.{by-act, by-attach, home-pos, space-pos}
use Rattle.host_calls.proofs.decide_act.Goals as goal

pub reach_of-requires : goal.reach_of-requires
reach_of-requires c = let g = c.args.good.now in (home-pos (objects_in g.head.now) _ _ g.known.objects c.object_of-first.ensures, (objects_in g.head.now, rw c.mappings-ms.ensures.0 g.known.records))

pub next_of-requires : goal.next_of-requires
next_of-requires c = space-pos (objects_in c.args.good.now.head.now) _ _ c.object_of-first.ensures

pub returns-in-Bind : goal.returns-in-Bind
returns-in-Bind c = let g = c.args.good.now in let o = c.args.o in let os = objects_in g.head.now in let t = table_with (head_in g.head.now).limit os (records_of g.records.now) in by-act t o _ Bind c.in-Bind.is (c.decide_bind.ensures os (objects-long g.head.now) g.known.object)

pub returns-in-Attach : goal.returns-in-Attach
returns-in-Attach c = let g = c.args.good.now in let o = c.args.o in let os = objects_in g.head.now in let t = table_with (head_in g.head.now).limit os (records_of c.mappings-ms.result.records.now) in let P : List (List ℕ) → Type 0 = λ ws. c.decide_attach.result ≡ act_edit (table_with (head_in g.head.now).limit os (records_of ws)) o o.act in subst P c.mappings-ms.ensures.0 (by-attach t o _ c.in-Attach.is _ _ (omega arith) (omega arith) (c.decide_attach.ensures os (c.object_of-device.ensures ∙ ap (object_at os) (omega arith)) (c.object_of-first.ensures ∙ ap (object_at os) (omega arith)) (c.max-a.ensures ∙ ap (λ (x : ℕ). max x 1) c.page_of.ensures ∙ page-higher os g.known.objects o.first ∙ ap (alignment os) (omega arith))))

pub returns-in-Detach : goal.returns-in-Detach
returns-in-Detach c = let g = c.args.good.now in let o = c.args.o in let os = objects_in g.head.now in let t = table_with (head_in g.head.now).limit os (records_of g.records.now) in by-act t o _ Detach c.in-Detach.is (c.decide_detach.ensures os c.object_of-first.ensures)

pub returns-in-Reach : goal.returns-in-Reach
returns-in-Reach c = let g = c.args.good.now in let o = c.args.o in let os = objects_in g.head.now in let t = table_with (head_in g.head.now).limit os (records_of g.records.now) in by-act t o _ _ c.in-Reach.is (rw (← c.mappings-ms.ensures.0) (c.reach_of.ensures os o.first c.object_of-first.ensures))

pub returns-in-Charge : goal.returns-in-Charge
returns-in-Charge c = let g = c.args.good.now in let o = c.args.o in let os = objects_in g.head.now in let t = table_with (head_in g.head.now).limit os (records_of g.records.now) in by-act t o _ Charge c.in-Charge.is (c.tell.ensures ∙ ap tells g.known.told.charge)

pub returns-in-Next : goal.returns-in-Next
returns-in-Next c = let g = c.args.good.now in let o = c.args.o in let os = objects_in g.head.now in let t = table_with (head_in g.head.now).limit os (records_of g.records.now) in by-act t o _ Next c.in-Next.is (rw (← c.mappings-ms.ensures.0) (c.next_of.ensures os c.object_of-first.ensures))
