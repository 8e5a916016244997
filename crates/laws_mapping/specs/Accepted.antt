-- An accepted call: the gate is open, no check fired, and the bytes hold the number that was decided.
use Rattle.std.specs.Prelude.{ℕ, zero, suc, ◌+◌, ◌≤◌, ◌<◌, ◌^◌, ◌≡◌, refl, true, List, pos}
use Rattle.std.proofs.Common.{sym, ap, ◌∙◌, arith}
use Rattle.lists.specs.Tests.{by-test}
use Rattle.wire.specs.Fields.{field, field_put}
use Rattle.rules_calls.specs.declared.Command.{Command}
use Rattle.rules_calls.specs.Requests.{request_of}
use Rattle.opening.specs.Signed.{result-none}
use Rattle.rules_table.specs.declared.Table.{Table}
use Rattle.rules_table.specs.Good.{good}
use Rattle.rules_calls.specs.declared.Edit.{Edit}
use Rattle.rules_calls.specs.Edits.{settle}
use Rattle.rules_calls.specs.Answers.{outcome, replied}
use Rattle.rules_calls.specs.Gate.{gate_errno}
use Rattle.edits.specs.Gating.{gate-size}

-- past the gate the table is good
pub gate-table : (t : Table) (request : ℕ) (bytes : List ℕ) → gate_errno t request bytes ≡ 0 → good t ≡ true
unfolding gate_errno
gate-table t request bytes e = by-test (good t) (λ g. g) (λ g. let z : ◌≡◌ {A = ℕ} 117 0 = sym (rw g) ∙ e in absurd (omega (arith, z)))

-- a call that decides e past the gate, and was accepted
pub record Accepted (t : Table) (request : ℕ) (bytes : List ℕ) (e : Edit) : Type 0 where
  pub gate : gate_errno t request bytes ≡ 0
  pub errno : e.errno ≡ 0
  pub same : settle (gate_errno t request bytes) e ≡ e

settled : (m : ℕ) (e : Edit) → (settle m e).errno ≡ 0 → (m ≡ 0) × (e.errno ≡ 0)
settled zero e h = (refl, h)
settled (suc m) e h = absurd (omega (arith, h))

pub accepted : (t : Table) (request : ℕ) (bytes : List ℕ) (e : Edit) → (outcome t (settle (gate_errno t request bytes) e)).result ≡ pos 0 → Accepted t request bytes e
unfolding outcome
accepted t request bytes e r =
    let s = settled (gate_errno t request bytes) e (result-none (settle (gate_errno t request bytes) e).errno r) in
    record { gate = s.0; errno = s.1; same = ap (λ (x : ℕ). settle x e) s.0 }

-- what is read where the reply was written
pub reply-read : (t : Table) (d : Command) (bytes : List ℕ) (e : Edit) (off : ℕ) → Accepted t (request_of d).number bytes e → off + 8 ≤ (request_of d).size → e.value < 2 ^ 64
    → field 8 (replied 8 off (settle (gate_errno t (request_of d).number bytes) e).errno (settle (gate_errno t (request_of d).number bytes) e).value bytes) off ≡ e.value
unfolding replied
reply-read t d bytes e off a h v =
    rw (a.same, a.errno)
    (field_put 8 bytes off e.value (omega (arith, gate-size t d bytes (sym a.gate))) (let z : 256 ^ 8 ≡ 2 ^ 64 = refl in omega (arith, z)))
