-- No candidate lies below the address reached.
use native.Mathlib.Omega.{arith}
use lib.ListN.{take}
use Rattle.rules_index.specs.Index.{view}
use Rattle.layout_mappings.specs.Words.{records_of}
use Rattle.rules_table.specs.Words.{objects_in}
use Rattle.rules_table.specs.Records.{of_space}
use Rattle.lists.specs.Sums.{count_of-length}
use Rattle.layout_objects.specs.Slots.{objects-long}
use Rattle.reserved_ranges.specs.Gathered.{reserved_of-most}
use Rattle.index_search.specs.Indexed.{indexed-length}
use Rattle.gaps.proofs.Walking.{room_fits, walk_none, walk_start, walk_full, walk_sum, walk_never, walk_on, walk_found, walk_less}
use Rattle.gaps.proofs.gap_in.Goals.{else-y-x-via-then-y-x+else-r-k, else-y-x-via-else-y-x}
use Rattle.gaps.proofs.gap_in.Goals as goal

pub returns-in_default : goal.returns-in_default
returns-in_default c = walk_none c.args.w.alignment c.args.w.length c.args.w.low c.args.s (objects_in c.args.h.now) c.args.window c.args.m.now.listed c.args.m.now.index.now (records_of c.args.m.now.records.now) c.args.m.now.indexed c.max.result c.lowest_multiple-first.result (omega arith) c.max.ensures c.lowest_multiple-first.ensures c.in_default.is

pub loop-w-init : goal.loop-w-init
loop-w-init c = walk_start c.args.w.alignment c.args.w.length c.args.w.low c.args.s (objects_in c.args.h.now) c.args.window c.args.m.now.listed c.args.m.now.index.now (records_of c.args.m.now.records.now) c.args.m.now.indexed c.max.result c.lowest_multiple-first.result (omega arith) c.max.ensures c.lowest_multiple-first.ensures c.in-Some.start c.entry_of-k.result c.in-Some.is c.entry_of-k.ensures

pub returns-then-not-has_room : goal.returns-then-not-has_room
returns-then-not-has_room c = let l = c.loop-w in walk_full c.args.w.alignment c.args.w.length c.args.w.low c.args.s (objects_in c.args.h.now) c.args.window c.args.m.now.listed c.args.m.now.index.now (records_of c.args.m.now.records.now) c.args.m.now.indexed l.x l.k l.jumps l.invariant c.has_room.result c.has_room.ensures c.if-not-has_room.true-raw

pub go_on-r-requires : goal.go_on-r-requires
go_on-r-requires c = room_fits c.args.w.length c.loop-w.x c.args.window c.has_room.result c.has_room.ensures c.if-not-has_room.false-raw

pub overflow_add-jumps : goal.overflow_add-jumps
overflow_add-jumps c = let l = c.loop-w in omega (arith, walk_sum c.args.w.alignment c.args.w.length c.args.w.low c.args.s (objects_in c.args.h.now) c.args.window c.args.m.now.listed c.args.m.now.index.now (records_of c.args.m.now.records.now) c.args.m.now.indexed l.x l.k l.jumps l.invariant c.go_on-r.result.spot c.go_on-r.result.place c.go_on-r.result.jumps c.go_on-r.ensures, count_of-length (of_space c.args.s) (view (take c.args.m.now.listed c.args.m.now.index.now) (records_of c.args.m.now.records.now)), indexed-length c.args.m.now.listed c.args.m.now.index.now c.args.m.now.records.now c.args.m.now.indexed, c.args.m.now.indexed.most, reserved_of-most (objects_in c.args.h.now) c.args.s, objects-long c.args.h.now)

pub returns-in_default-spot : goal.returns-in_default-spot
returns-in_default-spot c = let l = c.loop-w in walk_never c.args.w.alignment c.args.w.length c.args.w.low c.args.s (objects_in c.args.h.now) c.args.window c.args.m.now.listed c.args.m.now.index.now (records_of c.args.m.now.records.now) c.args.m.now.indexed l.x l.k l.jumps l.invariant c.go_on-r.result.spot c.go_on-r.result.place c.go_on-r.result.jumps c.go_on-r.ensures c.in_default-spot.is

pub returns-then-r-k : goal.returns-then-r-k
returns-then-r-k c = let l = c.loop-w in walk_found c.args.w.alignment c.args.w.length c.args.w.low c.args.s (objects_in c.args.h.now) c.args.window c.args.m.now.listed c.args.m.now.index.now (records_of c.args.m.now.records.now) c.args.m.now.indexed l.x l.k l.jumps l.invariant c.go_on-r.result.spot c.go_on-r.result.place c.go_on-r.result.jumps c.go_on-r.ensures c.in-Some-spot.y c.in-Some-spot.is c.has_room.result c.has_room.ensures c.if-not-has_room.false-raw (omega (arith, c.if-y-x.true)) (omega (arith, c.if-r-k.true))

pub loop-w-smaller : goal.loop-w-smaller
loop-w-smaller c = let l = c.loop-w in walk_less c.args.w.alignment c.args.w.length c.args.w.low c.args.s (objects_in c.args.h.now) c.args.window c.args.m.now.listed c.args.m.now.index.now (records_of c.args.m.now.records.now) c.args.m.now.indexed l.x l.k l.jumps l.invariant c.go_on-r.result.spot c.go_on-r.result.place c.go_on-r.result.jumps c.go_on-r.ensures c.in-Some-spot.y c.in-Some-spot.is (λ e f. elim c.else-y-x.branch [ else-y-x-via-then-y-x+else-r-k w ↦ w.if-r-k.false f | else-y-x-via-else-y-x w ↦ w.if-y-x.false e ])

pub loop-w-preserved : goal.loop-w-preserved
loop-w-preserved c = let l = c.loop-w in walk_on c.args.w.alignment c.args.w.length c.args.w.low c.args.s (objects_in c.args.h.now) c.args.window c.args.m.now.listed c.args.m.now.index.now (records_of c.args.m.now.records.now) c.args.m.now.indexed l.x l.k l.jumps l.invariant c.go_on-r.result.spot c.go_on-r.result.place c.go_on-r.result.jumps c.go_on-r.ensures c.in-Some-spot.y c.in-Some-spot.is
