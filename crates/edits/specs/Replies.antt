-- What a command leaves: its edit, applied, and its reply. A refusal writes none: only 0, and 90 of IOVA_RANGES, write one, and 90 is no errno of what comes before a command.
use Rattle.std.specs.Prelude.{ℕ, zero, suc, ◌≡◌, refl, false, List, Option, Some, None, Ok, Err}
use Rattle.std.proofs.Common.{sym, ◌∙◌, arith, eq-eqb, ne_eqb}
use Rattle.lists.specs.Tests.{by-test}
use Rattle.lists.specs.Search.{find}
use Rattle.wire.specs.Fields.{put}
use Rattle.rules_table.specs.declared.Table.{Table}
use Rattle.rules_table.specs.Good.{good}
use Rattle.rules_calls.specs.declared.Command.{Command}
use Rattle.rules_calls.specs.declared.Command.TheVariants.{Destroy, IoasAlloc, AllowIovas, Copy, IovaRanges, Map, Unmap}
use Rattle.rules_calls.specs.Opening.{Opening}
use Rattle.rules_calls.specs.declared.Unopened.TheVariants.{UnknownRequest, NoSizeField, SizeTooSmall, SizePastBytes, TailNotZero}
use Rattle.rules_calls.specs.declared.Edit.{Edit}
use Rattle.rules_calls.specs.Edits.{refuse, settle, applied}
use Rattle.rules_calls.specs.Requests.{number, commands, lookup}
use Rattle.rules_calls.specs.Opening.{opened, opening_errno}
use Rattle.rules_calls.specs.Answers.{outcome, replied}
use Rattle.rules_calls.specs.Gate.{gate_errno}
use Rattle.rules_calls.specs.Ranges.{ranges_fields, ranges_errno, replies_to, ranges_replied, ranges_filled}
use Rattle.rules_calls.specs.Call.{Done, command_done, row_done, call_done, call_edit}

-- a number that is written, and one that is not
pub written : (size off errno value : ℕ) (bytes : List ℕ) → errno ≡ 0 → put size bytes off value ≡ replied size off errno value bytes
unfolding replied
written size off errno value bytes h = rw (eq-eqb errno 0 h)

pub unwritten : (size off errno value : ℕ) (bytes : List ℕ) → (errno ≡ 0 → ⊥) → replied size off errno value bytes ≡ bytes
unfolding replied
unwritten size off errno value bytes h = rw (ne_eqb errno 0 h)

-- command and range area are as they were
abbrev pub Kept : Done → List ℕ → List ℕ → Type 0
Kept d bytes area = (d.bytes ≡ bytes) × (d.area ≡ area)

module _ (t : Table) (e : Edit) (bytes area : List ℕ) (h : e.errno ≡ 0 → ⊥) (n : e.errno ≡ 90 → ⊥) where
  silent : replies_to e.errno ≡ false
  silent = rw (ne_eqb e.errno 0 h) (ne_eqb e.errno 90 n)

  command-kept : (c : Command) → Kept (command_done c t e bytes area) bytes area
  unfolding ranges_replied ranges_filled
  command-kept Destroy = (refl, refl)
  command-kept IoasAlloc = (unwritten 4 8 e.errno e.value bytes h, refl)
  command-kept AllowIovas = (refl, refl)
  command-kept Copy = (unwritten 8 24 e.errno e.value bytes h, refl)
  command-kept IovaRanges = (rw silent, rw silent)
  command-kept Map = (unwritten 8 32 e.errno e.value bytes h, refl)
  command-kept Unmap = (unwritten 8 16 e.errno e.value bytes h, refl)

  -- THE LAW
  pub row_kept : (r : Option Command) → Kept (row_done r t e bytes area) bytes area
  row_kept None = (refl, refl)
  row_kept (Some c) = command-kept c

-- no errno of the gate is 90
pub gate-90 : (t : Table) (n : ℕ) (bytes : List ℕ) → gate_errno t n bytes ≡ 90 → ⊥
unfolding gate_errno
gate-90 t n bytes e = by-test (good t) (λ g. open_90 (opened n bytes) (sym (rw g) ∙ e)) (λ g. let z : ◌≡◌ {A = ℕ} 117 90 = sym (rw g) ∙ e in omega (arith, z))
  where
    open_90 : (o : Opening) → opening_errno o ≡ 90 → ⊥
    open_90 (Err UnknownRequest) e = omega (arith, e)
    open_90 (Err NoSizeField) e = omega (arith, e)
    open_90 (Err SizeTooSmall) e = omega (arith, e)
    open_90 (Err SizePastBytes) e = omega (arith, e)
    open_90 (Err TailNotZero) e = omega (arith, e)
    open_90 (Ok c) e = omega (arith, e)

-- an edit that changes nothing leaves the table: a request that is not listed, and IOVA_RANGES
refusal_stays : (t : Table) (n k : ℕ) → applied t (settle n (refuse k)) ≡ t
unfolding applied
refusal_stays t zero k = refl
refusal_stays t (suc n) k = refl

pub ranges-stays : (t : Table) (bytes area : List ℕ) → (outcome t (call_edit t (number IovaRanges) bytes area)).table ≡ t
unfolding call_edit lookup commands find outcome
ranges-stays t bytes area = refusal_stays t (gate_errno t (number IovaRanges) bytes) (ranges_errno t.objects (ranges_fields bytes) area)

pub unlisted-stays : (t : Table) (request : ℕ) (bytes area : List ℕ) → lookup request ≡ None → (outcome t (call_edit t request bytes area)).table ≡ t
unfolding call_edit outcome
unlisted-stays t request bytes area f = rw f (refusal_stays t (gate_errno t request bytes) 25)

-- THE LAW: the answer of a command is its edit, applied
pub row-edit : (r : Option Command) (t : Table) (e : Edit) (bytes area : List ℕ) → (row_done r t e bytes area).answer ≡ outcome t e
row-edit None t e bytes area = refl
row-edit (Some Destroy) t e bytes area = refl
row-edit (Some IoasAlloc) t e bytes area = refl
row-edit (Some AllowIovas) t e bytes area = refl
row-edit (Some Copy) t e bytes area = refl
row-edit (Some IovaRanges) t e bytes area = refl
row-edit (Some Map) t e bytes area = refl
row-edit (Some Unmap) t e bytes area = refl

pub call-edit : (t : Table) (request : ℕ) (bytes area : List ℕ) → (call_done t request bytes area).answer ≡ outcome t (call_edit t request bytes area)
unfolding call_done
call-edit t request bytes area = row-edit (lookup request) t (call_edit t request bytes area) bytes area
