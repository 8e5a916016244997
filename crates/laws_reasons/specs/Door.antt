-- The tool through the door: by request and bytes. When it should tell and what, with the verdict on the table and its index; and what it tells of a table has the number that the call answers.
use Rattle.std.specs.Prelude.{ℕ, ◌≡◌, refl, Bool, true, false, ◌||◌, List, eqb, Option, Some, None, Ok, Err}
use Rattle.std.proofs.Common.{sym, ap, subst, ◌∙◌, arith, eqb-true}
use Rattle.std.proofs.lemmas.Bool.{eqb-false}
use Rattle.lists.specs.Tests.{by-test, or_neither}
use Rattle.lists.specs.Search.{find}
use Rattle.lists.specs.Each.{Each}
use Rattle.rules_table.specs.declared.Table.{Table}
use Rattle.rules_table.specs.Good.{good}
use Rattle.rules_calls.specs.declared.Command.{Command}
use Rattle.rules_calls.specs.declared.Command.TheVariants.{Destroy, IoasAlloc, AllowIovas, Copy, IovaRanges, Map, Unmap}
use Rattle.rules_calls.specs.Edits.{settle}
use Rattle.rules_calls.specs.Requests.{request_of, commands, lookup}
use Rattle.rules_calls.specs.Opening.{opening_errno, open_checks, open_row, opened}
use Rattle.rules_calls.specs.Gate.{gate, gate_errno}
use Rattle.rules_calls.specs.Map.{map_fields, map_edit}
use Rattle.rules_calls.specs.Copy.{copy_fields, copy_edit}
use Rattle.rules_calls.specs.Call.{row_edit, call_edit}
use Rattle.opening.proofs.Lookups.{unlisted}
use Rattle.rules_index.specs.Board.{Board, good_board, board_edit}
use Rattle.rules_reasons.specs.declared.Reason.{Reason}
use Rattle.rules_reasons.specs.declared.Reason.TheVariants.{Accepted}
use Rattle.rules_reasons.specs.Explain.{Explained}
use Rattle.rules_reasons.specs.Reasons.{reason_errno, open_names, map_reason, copy_reason}
use Rattle.rules_reasons.specs.Explain.{open_or, row_told, explained_by, explained, board_explained}
use Rattle.laws_reasons.specs.Names.{settle-named, open_numbered}
use Rattle.laws_reasons.specs.Numbers.{map_explained, copy_explained}

-- ---- MAP or COPY

abbrev pub places : Option Command → Bool
places None = false
places (Some Destroy) = false
places (Some IoasAlloc) = false
places (Some AllowIovas) = false
places (Some Copy) = true
places (Some IovaRanges) = false
places (Some Map) = true
places (Some Unmap) = false

unfoldable pub placing : ℕ → Bool
placing request = places (lookup request)

-- these two requests and no other
pub placing-is : (request : ℕ) → placing request ≡ (eqb 0x3B83 request || eqb 0x3B85 request)
unfolding placing lookup commands find
placing-is request =
    by-test (eqb 0x3B80 request) (λ e. at 0x3B80 refl (eqb-true 0x3B80 request e)) (λ e0.
    by-test (eqb 0x3B81 request) (λ e. at 0x3B81 refl (eqb-true 0x3B81 request e)) (λ e1.
    by-test (eqb 0x3B82 request) (λ e. at 0x3B82 refl (eqb-true 0x3B82 request e)) (λ e2.
    by-test (eqb 0x3B83 request) (λ e. at 0x3B83 refl (eqb-true 0x3B83 request e)) (λ e3.
    by-test (eqb 0x3B84 request) (λ e. at 0x3B84 refl (eqb-true 0x3B84 request e)) (λ e4.
    by-test (eqb 0x3B85 request) (λ e. at 0x3B85 refl (eqb-true 0x3B85 request e)) (λ e5.
    by-test (eqb 0x3B86 request) (λ e. at 0x3B86 refl (eqb-true 0x3B86 request e)) (λ e6.
    ap places (sym (unlisted request (eqb-false 0x3B80 request e0, (eqb-false 0x3B81 request e1, (eqb-false 0x3B82 request e2, (eqb-false 0x3B83 request e3, (eqb-false 0x3B84 request e4, (eqb-false 0x3B85 request e5, (eqb-false 0x3B86 request e6, tt)))))))))
    ∙ sym (or_neither (eqb 0x3B83 request) (eqb 0x3B85 request) e3 e5))))))))
  where
    at : (n : ℕ) → placing n ≡ (eqb 0x3B83 n || eqb 0x3B85 n) → n ≡ request → placing request ≡ (eqb 0x3B83 request || eqb 0x3B85 request)
    at n h e = subst (λ (k : ℕ). placing k ≡ (eqb 0x3B83 k || eqb 0x3B85 k)) e h

-- ---- the number

-- what is told has number k
abbrev HasNumber : ℕ → Explained → Type 0
HasNumber k (Err n) = Unit {0}
HasNumber k (Ok r) = reason_errno r ≡ k

-- every check of the opening refuses
open_refuses : Each (λ (r : Reason). reason_errno r ≡ 0 → ⊥) open_names
open_refuses = (λ e. omega (arith, e), (λ e. omega (arith, e), (λ e. omega (arith, e), (λ e. omega (arith, e), tt))))

row_number : (w : Option Command) (t : Table) (bytes area : List ℕ) → HasNumber (settle (opening_errno (open_row w bytes)) (row_edit w t bytes area)).errno (row_told w t bytes)
unfolding open_or
row_number None t bytes area = tt
row_number (Some Destroy) t bytes area = tt
row_number (Some IoasAlloc) t bytes area = tt
row_number (Some AllowIovas) t bytes area = tt
row_number (Some Copy) t bytes area =
    settle-named opening_errno reason_errno (Ok Copy) (copy_reason t.objects t.mappings (copy_fields bytes)) (copy_edit t.objects t.mappings (copy_fields bytes)) (open_checks (request_of Copy).size bytes) open_names refl
    (copy_explained t.objects t.mappings (copy_fields bytes)) (open_numbered (request_of Copy).size bytes) open_refuses
row_number (Some IovaRanges) t bytes area = tt
row_number (Some Map) t bytes area =
    settle-named opening_errno reason_errno (Ok Map) (map_reason t.limit t.objects t.mappings (map_fields bytes)) (map_edit t.limit t.objects t.mappings (map_fields bytes)) (open_checks (request_of Map).size bytes) open_names refl
    (map_explained t.limit t.objects t.mappings (map_fields bytes)) (open_numbered (request_of Map).size bytes) open_refuses
row_number (Some Unmap) t bytes area = tt

verdict-number : (v : Bool) (t : Table) (request : ℕ) (bytes area : List ℕ) → HasNumber (settle (gate v (opening_errno (opened request bytes))) (row_edit (lookup request) t bytes area)).errno (explained_by v t request bytes)
unfolding explained_by opened
verdict-number true t request bytes area = row_number (lookup request) t bytes area
verdict-number false t request bytes area = tt

-- THE LAWS: what the tool tells has the number of the call
pub table-told : (t : Table) (request : ℕ) (bytes area : List ℕ) (r : Reason) → explained t request bytes ≡ Ok r → reason_errno r ≡ (call_edit t request bytes area).errno
unfolding explained call_edit gate_errno
table-told t request bytes area r e = subst (HasNumber (call_edit t request bytes area).errno) e (verdict-number (good t) t request bytes area)

-- ---- when it tells, and when it refuses

-- the first exactly if the second
abbrev pub Exactly : Type 0 → Type 0 → Type 0
Exactly P Q = (P → Q) × (Q → P)

-- 117 of a bad table or index; 25 of a request that is neither MAP nor COPY; else a reason, and `Accepted` exactly if the call is accepted
pub record TellsExactly (b : Board) (request : ℕ) (bytes area : List ℕ) : Type 0 where
  pub bad : Exactly (board_explained b request bytes ≡ Err 117) (good_board b ≡ false)
  pub other : Exactly (board_explained b request bytes ≡ Err 25) ((good_board b ≡ true) × (placing request ≡ false))
  pub told : Exactly ((r : Reason) × (board_explained b request bytes ≡ Ok r)) ((good_board b ≡ true) × (placing request ≡ true))
  pub accepted : Exactly (board_explained b request bytes ≡ Ok Accepted) ((placing request ≡ true) × ((board_edit b request bytes area).errno ≡ 0))
