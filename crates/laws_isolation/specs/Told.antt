-- Edits that tell the caller the same, errno and number: so do the results and the bytes that come of them. What they do to the table may differ.
use Rattle.std.specs.Prelude.{ℕ, zero, suc, ◌≡◌, refl, Bool, true, false, cond, List, Option, None, Some}
use Rattle.std.proofs.Common.{sym, ap, ◌∙◌}
use Rattle.lists.specs.Tests.{contrary}
use Rattle.rules_calls.specs.Opening.{opened, opening_errno}
use Rattle.rules_calls.specs.Results.{signed_result}
use Rattle.rules_table.specs.declared.Mapping.{Mapping}
use Rattle.rules_table.specs.declared.Table.{Table}
use Rattle.rules_table.specs.Good.{good}
use Rattle.rules_calls.specs.declared.Edit.{Edit}
use Rattle.rules_calls.specs.Edits.{settle, is_none}
use Rattle.rules_calls.specs.Answers.{outcome, replied}
use Rattle.rules_calls.specs.Map.{mapped}
use Rattle.rules_calls.specs.Gate.{gate_errno}

pub record TellAlike (e f : Edit) : Type 0 where
  pub errno : e.errno ≡ f.errno
  pub value : e.value ≡ f.value

-- behind the same errno
settle-one : (n : ℕ) (e f : Edit) → TellAlike e f → TellAlike (settle n e) (settle n f)
settle-one zero e f h = h
settle-one (suc n) e f h = record { errno = refl; value = refl }

pub settle-alike : (n k : ℕ) (e f : Edit) → n ≡ k → TellAlike e f → TellAlike (settle n e) (settle k f)
settle-alike n k e f s h = rw s (settle-one k e f h)

-- a new mapping tells its address, whatever its record and backing number
pub mapped-alike : (i k : Option ℕ) (m n : Mapping) → is_none i ≡ is_none k → m.address ≡ n.address → TellAlike (mapped i m) (mapped k n)
mapped-alike None None m n e h = record { errno = refl; value = refl }
mapped-alike None (Some k) m n e h = contrary true refl e
mapped-alike (Some i) None m n e h = contrary false e refl
mapped-alike (Some i) (Some k) m n e h = record { errno = refl; value = h }

-- the gate of a good table asks the bytes alone
pub gate-alike : (t u : Table) (request : ℕ) (bytes : List ℕ) → good t ≡ true → good u ≡ true → gate_errno t request bytes ≡ gate_errno u request bytes
unfolding gate_errno
gate-alike t u request bytes g h = ap (λ (b : Bool). cond b (opening_errno (opened request bytes)) 117) (g ∙ sym h)

pub result-alike : (t u : Table) (e f : Edit) → e.errno ≡ f.errno → (outcome t e).result ≡ (outcome u f).result
unfolding outcome
result-alike t u e f h = ap signed_result h

pub replied-alike : (size off : ℕ) (bytes : List ℕ) (e f : Edit) → TellAlike e f → replied size off e.errno e.value bytes ≡ replied size off f.errno f.value bytes
replied-alike size off bytes e f h = ap (λ (n : ℕ). replied size off n e.value bytes) h.errno ∙ ap (λ (v : ℕ). replied size off f.errno v bytes) h.value
