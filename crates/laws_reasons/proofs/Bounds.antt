-- The numbers that are told of a good table: a record is one of 128, an object one of 32, and a run ends by the last address.
use Rattle.std.specs.Prelude.{ℕ, ◌+◌, ◌-◌, ◌≤◌, ◌≡◌, true, List, Option, Some, None, Ok}
use Rattle.std.proofs.Common.{arith}
use Rattle.std.proofs.Math.ListN as ListN
use Rattle.ranges.specs.Ranges.{U64MAX, passes-false}
use Rattle.runs.specs.Runs.{run}
use Rattle.rules_table.specs.declared.Table.{Table}
use Rattle.rules_table.specs.Good.{good}
use Rattle.table.specs.Sound.{good-sound}
use Rattle.rules_calls.specs.declared.Command.{Command}
use Rattle.rules_calls.specs.declared.Command.TheVariants.{Destroy, IoasAlloc, AllowIovas, Copy, IovaRanges, Map, Unmap}
use Rattle.rules_calls.specs.Requests.{lookup}
use Rattle.rules_index.specs.Board.{Board}
use Rattle.laws_board.specs.Answers.{good-table}
use Rattle.rules_reasons.specs.declared.Reason.{Reason}
use Rattle.rules_reasons.specs.declared.Reason.TheVariants.{TouchesReserved, TouchesMapping, NoPlace}
use Rattle.rules_reasons.specs.Explain.{board_explained}
use Rattle.laws_reasons.proofs.Door.{tells-exactly}
use Rattle.laws_reasons.specs.Says.{Says}
use Rattle.laws_reasons.proofs.Says.{told-so}

row-record : (w : Option Command) (t : Table) (bytes : List ℕ) (n : ℕ) → Says w t bytes (TouchesMapping n) → (1 ≤ n) × (n ≤ ListN.length t.mappings)
row-record None t bytes n h = absurd h
row-record (Some Destroy) t bytes n h = absurd h
row-record (Some IoasAlloc) t bytes n h = absurd h
row-record (Some AllowIovas) t bytes n h = absurd h
row-record (Some Copy) t bytes n h = (h.from, h.upto)
row-record (Some IovaRanges) t bytes n h = absurd h
row-record (Some Map) t bytes n h = (h.from, h.upto)
row-record (Some Unmap) t bytes n h = absurd h

row-object : (w : Option Command) (t : Table) (bytes : List ℕ) (id : ℕ) → Says w t bytes (TouchesReserved id) → (1 ≤ id) × (id ≤ ListN.length t.objects)
row-object None t bytes id h = absurd h
row-object (Some Destroy) t bytes id h = absurd h
row-object (Some IoasAlloc) t bytes id h = absurd h
row-object (Some AllowIovas) t bytes id h = absurd h
row-object (Some Copy) t bytes id h = (h.from, h.upto)
row-object (Some IovaRanges) t bytes id h = absurd h
row-object (Some Map) t bytes id h = (h.from, h.upto)
row-object (Some Unmap) t bytes id h = absurd h

-- the last address of a run of k + 1
last_within : (x k : ℕ) → x + (k + 1 - 1) ≤ U64MAX → x + k ≤ U64MAX
last_within x k h = omega (arith, h)

row-run : (w : Option Command) (t : Table) (bytes : List ℕ) (x k : ℕ) → Says w t bytes (NoPlace (Some (run x k))) → x + k ≤ U64MAX
row-run None t bytes x k h = absurd h
row-run (Some Destroy) t bytes x k h = absurd h
row-run (Some IoasAlloc) t bytes x k h = absurd h
row-run (Some AllowIovas) t bytes x k h = absurd h
row-run (Some Copy) t bytes x k h = last_within x k (passes-false x (k + 1) h.0.run.free.ends)
row-run (Some IovaRanges) t bytes x k h = absurd h
row-run (Some Map) t bytes x k h = last_within x k (passes-false x (k + 1) h.0.run.free.ends)
row-run (Some Unmap) t bytes x k h = absurd h

-- THE LAWS
module _ (b : Board) (request : ℕ) (bytes : List ℕ) where
  told-good : (r : Reason) → board_explained b request bytes ≡ Ok r → good b.table ≡ true
  told-good r e = good-table b ((tells-exactly b request bytes bytes).told.0 (r, e)).0

  pub record_told : (n : ℕ) → board_explained b request bytes ≡ Ok (TouchesMapping n) → (1 ≤ n) × (n ≤ 128)
  record_told n e =
      let h = row-record (lookup request) b.table bytes n (told-so b request bytes (TouchesMapping n) e) in
      (h.0, omega (arith, h.1, (good-sound b.table (told-good (TouchesMapping n) e)).counted))

  pub object-told : (id : ℕ) → board_explained b request bytes ≡ Ok (TouchesReserved id) → (1 ≤ id) × (id ≤ 32)
  object-told id e =
      let h = row-object (lookup request) b.table bytes id (told-so b request bytes (TouchesReserved id) e) in
      (h.0, omega (arith, h.1, (good-sound b.table (told-good (TouchesReserved id) e)).places))

  pub run-told : (x k : ℕ) → board_explained b request bytes ≡ Ok (NoPlace (Some (run x k))) → x + k ≤ U64MAX
  run-told x k e = row-run (lookup request) b.table bytes x k (told-so b request bytes (NoPlace (Some (run x k))) e)
