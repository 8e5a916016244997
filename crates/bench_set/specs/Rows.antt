-- A row of the bench set: a call, and what must be after it. A case runs its rows one after the other, from a fresh table of limit 2^36.
use Rattle.std.specs.Prelude.{ℕ, ◌^◌, ◌≡◌, refl, Bool, true, false, ◌&&◌, List, [], ◌∷◌, eqb, ℤ, pos, negsuc}
use Rattle.std.proofs.Common.{ap, eqb-true}
use Rattle.lists.specs.Tests.{contrary, and_left, and_right}
use Rattle.rules_table.specs.declared.Table.{Table}
use Rattle.rules_table.specs.Records.{fresh_table}
use Rattle.rules_table.specs.Charge.{charge}
use Rattle.rules_calls.specs.Call.{call_done}
use Rattle.rules_history.specs.Calls.{Call, Command, Bind, Attach, Detach, Reach, reply_of, table_after}

-- a call with its result, and the command bytes, the range area and the charge of the table after it. A host call has no bytes and no area
pub record Row : Type 0 where
  pub call : Call
  pub result : ℤ
  pub bytes : List ℕ
  pub area : List ℕ
  pub charge : ℕ

pub record Case : Type 0 where
  pub number : ℕ
  pub rows : List Row

-- ---- when a case holds

-- the range area as a call leaves it
abbrev pub area_after : Call → Table → List ℕ
area_after (Command request bytes area) t = (call_done t request bytes area).area
area_after (Bind bitmap l) t = []
area_after (Attach d s) t = []
area_after (Detach d) t = []
area_after (Reach d a n write) t = []

unfoldable pub same_result : ℤ → ℤ → Bool
same_result (pos m) (pos n) = eqb m n
same_result (pos m) (negsuc n) = false
same_result (negsuc m) (pos n) = false
same_result (negsuc m) (negsuc n) = eqb m n

unfoldable pub same_bytes : List ℕ → List ℕ → Bool
same_bytes [] [] = true
same_bytes [] (c ∷ cs) = false
same_bytes (b ∷ bs) [] = false
same_bytes (b ∷ bs) (c ∷ cs) = eqb b c && same_bytes bs cs

-- on table t the call does what the row says
unfoldable pub row_holds : Row → Table → Bool
row_holds r t =
    same_result (reply_of r.call t).result r.result
    && (same_bytes (reply_of r.call t).bytes r.bytes
    && (same_bytes (area_after r.call t) r.area
    && eqb (charge (table_after r.call t).mappings) r.charge))

-- each row on the table that the one before it left
unfoldable pub rows_hold : List Row → Table → Bool
rows_hold [] t = true
rows_hold (r ∷ rs) t = row_holds r t && rows_hold rs (table_after r.call t)

unfoldable pub case_holds : Case → Bool
case_holds c = rows_hold c.rows (fresh_table (2 ^ 36))

-- ---- a row that holds is four equations

same-result : (r s : ℤ) → same_result r s ≡ true → r ≡ s
unfolding same_result
same-result (pos m) (pos n) e = ap pos (eqb-true m n e)
same-result (pos m) (negsuc n) e = contrary false e refl
same-result (negsuc m) (pos n) e = contrary false e refl
same-result (negsuc m) (negsuc n) e = ap negsuc (eqb-true m n e)

same_bytes-equal : (bs cs : List ℕ) → same_bytes bs cs ≡ true → bs ≡ cs
unfolding same_bytes
same_bytes-equal [] [] e = refl
same_bytes-equal [] (c ∷ cs) e = contrary false e refl
same_bytes-equal (b ∷ bs) [] e = contrary false e refl
same_bytes-equal (b ∷ bs) (c ∷ cs) e = rw (eqb-true b c (and_left (eqb b c) (same_bytes bs cs) e), same_bytes-equal bs cs (and_right (eqb b c) (same_bytes bs cs) e))

pub record Says (r : Row) (t : Table) : Type 0 where
  pub result : (reply_of r.call t).result ≡ r.result
  pub bytes : (reply_of r.call t).bytes ≡ r.bytes
  pub area : area_after r.call t ≡ r.area
  pub charge : charge (table_after r.call t).mappings ≡ r.charge

pub row-says : (r : Row) (t : Table) → row_holds r t ≡ true → Says r t
unfolding row_holds
row-says r t e = record {
  result = search (same-result, and_left);
  bytes = search (same_bytes-equal, and_left, and_right);
  area = search (same_bytes-equal, and_left, and_right);
  charge = search (eqb-true, and_right);
}
