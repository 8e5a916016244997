-- What each return of a command gives: a refusal at the gate, or the outcome of the edit that was decided, with its reply.
use Rattle.std.specs.Prelude.{ℕ, ◌≤◌, ◌≡◌, refl, Bool, true, false, List, length, Ok, Err}
use Rattle.std.proofs.Common.{sym, ap, ◌∙◌, arith, eq-eqb, ne_eqb}
use Rattle.rules_calls.specs.declared.Command.{Command}
use Rattle.rules_calls.specs.Opening.{Opening}
use Rattle.rules_calls.specs.declared.Unopened.TheVariants.{UnknownRequest, NoSizeField, SizeTooSmall, SizePastBytes, TailNotZero}
use Rattle.rules_calls.specs.Requests.{request_of, lookup}
use Rattle.rules_calls.specs.Opening.{opened, opening_errno}
use Rattle.opening.specs.Opened.{opened-open}
use Rattle.opening.proofs.Lookups.{listed}
use Rattle.wire.specs.Fields.{put}
use Rattle.rules_table.specs.declared.Table.{Table}
use Rattle.rules_table.specs.Good.{good}
use Rattle.rules_calls.specs.Answers.{replied}
use Rattle.rules_calls.specs.Gate.{gate_errno}

-- ---- the gate

open_of : (o : Opening) → opening_errno o ≡ 0 → (c : Command) × (o ≡ Ok c)
open_of (Err UnknownRequest) e = absurd (omega arith)
open_of (Err NoSizeField) e = absurd (omega arith)
open_of (Err SizeTooSmall) e = absurd (omega arith)
open_of (Err SizePastBytes) e = absurd (omega arith)
open_of (Err TailNotZero) e = absurd (omega arith)
open_of (Ok c) e = (c, refl)

-- two commands with one number have one size
same_size : (c d : Command) → (request_of c).number ≡ (request_of d).number → (request_of c).size ≡ (request_of d).size
same_size c d e =
    let p = listed c (request_of c).number refl in
    let q = listed d (request_of d).number refl in
    let r : lookup (request_of c).number ≡ lookup (request_of d).number = ap lookup e in
    cc

-- past the gate, the bytes of the command's fields are lent
pub gate-size : (t : Table) (d : Command) (bytes : List ℕ) → 0 ≡ gate_errno t (request_of d).number bytes → (request_of d).size ≤ length bytes
unfolding gate_errno
gate-size t d bytes e = go (good t) refl (opened (request_of d).number bytes) refl
  where
    go : (b : Bool) → good t ≡ b → (o : Opening) → opened (request_of d).number bytes ≡ o → (request_of d).size ≤ length bytes
    go true g o f =
        let z : opening_errno (opened (request_of d).number bytes) ≡ 0 = sym (e ∙ rw g) in
        let w = open_of (opened (request_of d).number bytes) z in
        let k = opened-open (request_of d).number bytes w.0 w.1 in
        omega (arith, same_size w.0 d k.number, k.known, k.lent)
    go false g o f = let z : ◌≡◌ {A = ℕ} 0 117 = e ∙ rw g in absurd (omega (arith, z))

-- ---- the reply

module _ (size off n value : ℕ) (bytes : List ℕ) where
  pub replied-some : n ≡ 0 → put size bytes off value ≡ replied size off n value bytes
  unfolding replied
  replied-some e = rw (eq-eqb n 0 e)

  pub replied-none : (n ≡ 0 → ⊥) → bytes ≡ replied size off n value bytes
  unfolding replied
  replied-none e = rw (ne_eqb n 0 e)
