-- Each command by its decider.
use mathlib.Core.Path.{refl, ap, ◌∙◌}
use native.Mathlib.Omega.{arith}
use Rattle.rules_calls.specs.declared.Command.TheVariants.{Destroy, IoasAlloc, AllowIovas, Copy, IovaRanges, Map, Unmap}
use Rattle.rules_table.specs.Words.{head_in, objects_in}
use Rattle.rules_calls.specs.Gate.{table_with}
use Rattle.rules_calls.specs.Objects.{destroy_edit}
use Rattle.table.specs.Paged.{page-known}
use Rattle.layout_objects.specs.Slots.{objects-long}
use Rattle.layout_mappings.specs.Words.{records_of}
use Rattle.table.specs.Checked.{page_at}
use Rattle.check_table.specs.Known.{page-some}
use Rattle.lists.specs.Tests.{not_zero}
use Rattle.iommufd.proofs.Dispatching.{by-command, sized, ranges-left}
use Rattle.iommufd.proofs.decide_command.Goals as goal

pub read32-requires : goal.read32-requires
read32-requires c = (omega (arith, sized c.args.c Destroy _ c.in-Destroy.is c.requires))

pub alloc-requires : goal.alloc-requires
alloc-requires c = (omega (arith, sized c.args.c IoasAlloc _ c.in-IoasAlloc.is c.requires))

pub allow-requires : goal.allow-requires
allow-requires c = (omega (arith, sized c.args.c AllowIovas _ c.in-AllowIovas.is c.requires))

pub read32-requires-in-Copy : goal.read32-requires-in-Copy
read32-requires-in-Copy c = (omega (arith, sized c.args.c Copy _ c.in-Copy.is c.requires))

pub read32-requires-in-Copy-2 : goal.read32-requires-in-Copy-2
read32-requires-in-Copy-2 c = (omega (arith, sized c.args.c Copy _ c.in-Copy.is c.requires))

pub copy-requires : goal.copy-requires
copy-requires c = (omega (arith, sized c.args.c Copy _ c.in-Copy.is c.requires), page-some (objects_in c.args.good.now.head.now) _ _ _ c.page_of-a.ensures c.read32-in-Copy.ensures, page-some (objects_in c.args.good.now.head.now) _ _ _ c.page_of-b.ensures c.read32-in-Copy-2.ensures)

pub read32-requires-in-IovaRanges : goal.read32-requires-in-IovaRanges
read32-requires-in-IovaRanges c = (omega (arith, sized c.args.c IovaRanges _ c.in-IovaRanges.is c.requires))

pub ranges-requires : goal.ranges-requires
ranges-requires c = (omega (arith, sized c.args.c IovaRanges _ c.in-IovaRanges.is c.requires))

pub read32-requires-in-Map : goal.read32-requires-in-Map
read32-requires-in-Map c = (omega (arith, sized c.args.c Map _ c.in-Map.is c.requires))

pub map-requires : goal.map-requires
map-requires c = let g = c.args.good.now in (omega (arith, sized c.args.c Map _ c.in-Map.is c.requires), g.known.marked, page-some (objects_in g.head.now) _ _ _ c.page_of-page.ensures c.read32-in-Map.ensures, (g.pages.now, rw c.mappings-ms.ensures.0 g.known.told))

pub read32-requires-in-Unmap : goal.read32-requires-in-Unmap
read32-requires-in-Unmap c = (omega (arith, sized c.args.c Unmap _ c.in-Unmap.is c.requires))

pub unmap-requires : goal.unmap-requires
unmap-requires c = let g = c.args.good.now in (omega (arith, sized c.args.c Unmap _ c.in-Unmap.is c.requires), (λ e. page-some (objects_in g.head.now) _ _ _ c.page_of-a-in-Unmap.ensures c.read32-in-Unmap.ensures (not_zero _ e)), (objects_in g.head.now, rw c.mappings-ms.ensures.0 g.known.records))

pub returns-in-Destroy : goal.returns-in-Destroy
returns-in-Destroy c = let a = c.args in let g = a.good.now in let os = objects_in g.head.now in let t = table_with (head_in g.head.now).limit os (records_of g.records.now) in let k = g.known in by-command t _ _ _ _ _ a.c Destroy c.in-Destroy.is (c.destroy.ensures ∙ ap (destroy_edit os) c.read32.ensures, refl, refl)

pub returns-in-IoasAlloc : goal.returns-in-IoasAlloc
returns-in-IoasAlloc c = let a = c.args in let g = a.good.now in let os = objects_in g.head.now in let t = table_with (head_in g.head.now).limit os (records_of g.records.now) in let k = g.known in by-command t _ _ _ _ _ a.c IoasAlloc c.in-IoasAlloc.is (let r = c.alloc.ensures os (objects-long g.head.now) k.object in (r.0, r.1, refl))

pub returns-in-AllowIovas : goal.returns-in-AllowIovas
returns-in-AllowIovas c = let a = c.args in let g = a.good.now in let os = objects_in g.head.now in let t = table_with (head_in g.head.now).limit os (records_of g.records.now) in let k = g.known in by-command t _ _ _ _ _ a.c AllowIovas c.in-AllowIovas.is (c.allow.ensures, refl, refl)

pub returns-in-Copy : goal.returns-in-Copy
returns-in-Copy c = let a = c.args in let g = a.good.now in let os = objects_in g.head.now in let t = table_with (head_in g.head.now).limit os (records_of g.records.now) in let k = g.known in by-command t _ _ _ _ _ a.c Copy c.in-Copy.is (rw (← c.mappings-ms.ensures.0) (c.copy.ensures.0 ((omega arith) ∙ c.page_of-a.ensures ∙ ap (page_at os) c.read32-in-Copy.ensures) ((omega arith) ∙ c.page_of-b.ensures ∙ ap (page_at os) c.read32-in-Copy-2.ensures)), c.copy.ensures.1, refl)

pub returns-in-IovaRanges : goal.returns-in-IovaRanges
returns-in-IovaRanges c = let a = c.args in let g = a.good.now in let os = objects_in g.head.now in let t = table_with (head_in g.head.now).limit os (records_of g.records.now) in let k = g.known in by-command t _ _ _ _ _ a.c IovaRanges c.in-IovaRanges.is (let r = c.ranges-in-IovaRanges.ensures (c.page_of-a-in-IovaRanges.ensures ∙ ap (page_at os) c.read32-in-IovaRanges.ensures) in ranges-left t _ _ _ _ _ r.0 r.1)

pub returns-in-Map : goal.returns-in-Map
returns-in-Map c = let a = c.args in let g = a.good.now in let os = objects_in g.head.now in let t = table_with (head_in g.head.now).limit os (records_of g.records.now) in let k = g.known in by-command t _ _ _ _ _ a.c Map c.in-Map.is (rw (← c.mappings-ms.ensures.0) (c.map.ensures.0 (c.page_of-page.ensures ∙ ap (page_at os) c.read32-in-Map.ensures)), c.map.ensures.1, refl)

pub returns-in-Unmap : goal.returns-in-Unmap
returns-in-Unmap c = let a = c.args in let g = a.good.now in let os = objects_in g.head.now in let t = table_with (head_in g.head.now).limit os (records_of g.records.now) in let k = g.known in by-command t _ _ _ _ _ a.c Unmap c.in-Unmap.is (rw (← c.mappings-ms.ensures.0) (c.unmap.ensures.0 os (page-known os _ _ (c.page_of-a-in-Unmap.ensures ∙ ap (page_at os) c.read32-in-Unmap.ensures))), c.unmap.ensures.1, refl)
