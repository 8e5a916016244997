-- The tool through the door, with the verdict on the table and its index: what it tells has the number that the call answers, and it tells exactly what it should.
use Rattle.std.specs.Prelude.{ℕ, ◌≡◌, refl, true, false, List, Option, Some, None, Ok, Err}
use Rattle.std.proofs.Common.{sym, ap, ◌∙◌, arith}
use Rattle.lists.specs.Tests.{by-test, contrary}
use Rattle.rules_table.specs.declared.Table.{Table}
use Rattle.rules_calls.specs.declared.Command.{Command}
use Rattle.rules_calls.specs.declared.Edit.{Edit}
use Rattle.rules_calls.specs.declared.Command.TheVariants.{Destroy, IoasAlloc, AllowIovas, Copy, IovaRanges, Map, Unmap}
use Rattle.rules_calls.specs.Requests.{request_of, lookup}
use Rattle.rules_calls.specs.Map.{map_fields}
use Rattle.rules_calls.specs.Copy.{copy_fields}
use Rattle.rules_index.specs.Board.{Board, good_board, board_edit}
use Rattle.laws_board.specs.Answers.{good-table, good-index, board_same}
use Rattle.laws_board.specs.Refused.{bad-board}
use Rattle.rules_reasons.specs.declared.Reason.{Reason}
use Rattle.rules_reasons.specs.declared.Reason.TheVariants.{Accepted}
use Rattle.rules_reasons.specs.Reasons.{reason_errno, map_reason, copy_reason}
use Rattle.rules_reasons.specs.Explain.{open_or, row_told, explained_by, explained, board_explained, tool_errno}
use Rattle.laws_reasons.specs.Numbers.{accepted-only}
use Rattle.laws_reasons.specs.Door.{places, placing, table-told, Exactly, TellsExactly}

-- ---- the number

module _ (b : Board) (request : ℕ) (bytes : List ℕ) where
  -- a bad board, and a good one
  bad-refused : good_board b ≡ false → board_explained b request bytes ≡ Err 117
  unfolding board_explained explained_by
  bad-refused g = rw g

  good-same : good_board b ≡ true → board_explained b request bytes ≡ row_told (lookup request) b.table bytes
  unfolding board_explained explained_by
  good-same g = rw g

  good-explained : good_board b ≡ true → board_explained b request bytes ≡ explained b.table request bytes
  unfolding board_explained explained explained_by
  good-explained g = rw (g, good-table b g)

  pub board_told : (area : List ℕ) (r : Reason) → board_explained b request bytes ≡ Ok r → reason_errno r ≡ (board_edit b request bytes area).errno
  board_told area r e =
      by-test (good_board b)
      (λ g. table-told b.table request bytes area r (sym (good-explained g) ∙ e) ∙ sym (ap (λ (x : Edit). x.errno) (board_same b (good-index b g) request bytes area)))
      (λ g. let z : 117 ≡ 0 = ap tool_errno (sym (bad-refused g) ∙ e) in absurd (omega (arith, z)))

-- ---- when it tells, and when it refuses

row_other : (w : Option Command) (t : Table) (bytes : List ℕ) → places w ≡ false → row_told w t bytes ≡ Err 25
row_other None t bytes e = refl
row_other (Some Destroy) t bytes e = refl
row_other (Some IoasAlloc) t bytes e = refl
row_other (Some AllowIovas) t bytes e = refl
row_other (Some Copy) t bytes e = contrary true refl e
row_other (Some IovaRanges) t bytes e = refl
row_other (Some Map) t bytes e = contrary true refl e
row_other (Some Unmap) t bytes e = refl

row-tells : (w : Option Command) (t : Table) (bytes : List ℕ) → places w ≡ true → (r : Reason) × (row_told w t bytes ≡ Ok r)
row-tells None t bytes e = contrary false e refl
row-tells (Some Destroy) t bytes e = contrary false e refl
row-tells (Some IoasAlloc) t bytes e = contrary false e refl
row-tells (Some AllowIovas) t bytes e = contrary false e refl
row-tells (Some Copy) t bytes e = (open_or (request_of Copy).size bytes (copy_reason t.objects t.mappings (copy_fields bytes)), refl)
row-tells (Some IovaRanges) t bytes e = contrary false e refl
row-tells (Some Map) t bytes e = (open_or (request_of Map).size bytes (map_reason t.limit t.objects t.mappings (map_fields bytes)), refl)
row-tells (Some Unmap) t bytes e = contrary false e refl

module _ (b : Board) (request : ℕ) (bytes : List ℕ) where
  other-refused : good_board b ≡ true → placing request ≡ false → board_explained b request bytes ≡ Err 25
  unfolding placing
  other-refused g p = good-same b request bytes g ∙ row_other (lookup request) b.table bytes p

  pub placing-told : good_board b ≡ true → placing request ≡ true → (r : Reason) × (board_explained b request bytes ≡ Ok r)
  unfolding placing
  placing-told g p = let w = row-tells (lookup request) b.table bytes p in (w.0, good-same b request bytes g ∙ w.1)

  -- so by the errno of the tool
  by-errno : {C : Type 0} → (good_board b ≡ false → tool_errno (board_explained b request bytes) ≡ 117 → C)
      → (good_board b ≡ true → placing request ≡ false → tool_errno (board_explained b request bytes) ≡ 25 → C)
      → (good_board b ≡ true → placing request ≡ true → tool_errno (board_explained b request bytes) ≡ 0 → C)
      → C
  by-errno bad other told =
      by-test (good_board b)
      (λ g. by-test (placing request) (λ p. told g p (ap tool_errno (placing-told g p).1)) (λ p. other g p (ap tool_errno (other-refused g p))))
      (λ g. bad g (ap tool_errno (bad-refused b request bytes g)))

  -- and without one it tells
  pub errno-told : tool_errno (board_explained b request bytes) ≡ 0 → (r : Reason) × (board_explained b request bytes ≡ Ok r)
  errno-told k = by-errno (λ g n. absurd (omega (arith, k, n))) (λ g p n. absurd (omega (arith, k, n))) (λ g p n. placing-told g p)

  -- THE LAW
  pub tells-exactly : (area : List ℕ) → TellsExactly b request bytes area
  tells-exactly area = record {
    bad = (λ e. let k : tool_errno (board_explained b request bytes) ≡ 117 = ap tool_errno e in by-errno (λ g n. g) (λ g p n. absurd (omega (arith, k, n))) (λ g p n. absurd (omega (arith, k, n))), λ g. bad-refused b request bytes g);
    other =
        (λ e. let k : tool_errno (board_explained b request bytes) ≡ 25 = ap tool_errno e in by-errno (λ g n. absurd (omega (arith, k, n))) (λ g p n. (g, p)) (λ g p n. absurd (omega (arith, k, n))), λ q. other-refused q.0 q.1);
    told = (λ w. good-told w.0 w.1, λ q. placing-told q.0 q.1);
    accepted = (λ e. ((good-told Accepted e).1, sym (board_told b request bytes area Accepted e)), λ q. by-test (good_board b) (λ g. accepts g q.0 q.1) (λ g. absurd (bad-errno g q.1)));
  }
    where
      good-told : (r : Reason) → board_explained b request bytes ≡ Ok r → (good_board b ≡ true) × (placing request ≡ true)
      good-told r e = let k : tool_errno (board_explained b request bytes) ≡ 0 = ap tool_errno e in by-errno (λ g n. absurd (omega (arith, k, n))) (λ g p n. absurd (omega (arith, k, n))) (λ g p n. (g, p))

      accepts : good_board b ≡ true → placing request ≡ true → (board_edit b request bytes area).errno ≡ 0 → board_explained b request bytes ≡ Ok Accepted
      accepts g p z = let w = placing-told g p in w.1 ∙ ap Ok (accepted-only w.0 (board_told b request bytes area w.0 w.1 ∙ z))

      bad-errno : good_board b ≡ false → (board_edit b request bytes area).errno ≡ 0 → ⊥
      bad-errno g z = let n : (board_edit b request bytes area).errno ≡ 117 = ap (λ (x : Edit). x.errno) (bad-board b g request bytes area) in omega (arith, z, n)

  -- so a reason is told exactly if the call refuses
  pub reason-exactly : (area : List ℕ) (r : Reason) → board_explained b request bytes ≡ Ok r → Exactly (r ≡ Accepted → ⊥) ((board_edit b request bytes area).errno ≡ 0 → ⊥)
  reason-exactly area r e =
      let n = board_told b request bytes area r e in
      (λ f z. f (accepted-only r (n ∙ z)), λ f z. f (sym n ∙ ap reason_errno z))
