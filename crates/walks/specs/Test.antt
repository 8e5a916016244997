-- Steps of a walk: an `if` with no `else` whose test is known. Where it holds the arm runs (`takes`), and where it fails the rest (`passes`).
-- Assumes `Logic`.
use Rattle.std.specs.Prelude.{true, false, List}
use seplogic.Ra.Ura.{Ura}
use mir.Syntax.{Opd as Operand, Body, skip, seq, cond}
use mir.Val.{vbool}
use prog.Wp.{Env, Calls, Loops, Wp, after_seq}
use types.Logic.{Logic}
use types.Kit.{Item, Post, any_q, post, runs, Step, step, ◌$◌}
use types.Run.{Opd, first, skips, branches}

module _ {M : Type 1} {𝓤 : Ura M} {𝓛 : Logic 𝓤} {K : Type 0} {Γ : List (Item 𝓤)} {E : Env 𝓤 𝓛.H} where
  open 𝓛 use {H}

  module _ {C : Calls 𝓤 H} {Λ : Loops 𝓤 H} {q : Post 𝓤 H} where
    pub takes : K → {c : Operand} {a b : Body} → Opd K 𝓛 Γ E c (vbool true)
        → Step K 𝓛 Γ (runs C Λ E a (any_q (after_seq 𝓤 H (Wp 𝓤 H C Λ E b (post 𝓤 H q)) (post 𝓤 H q)))) Γ (runs C Λ E (seq (cond c a skip) b) q)
    takes t o = step (λ s. first t $ branches t o (λ _. record { prf = s.prf }) (λ z. absurd z))

    pub passes : K → {c : Operand} {a b : Body} → Opd K 𝓛 Γ E c (vbool false) → Step K 𝓛 Γ (runs C Λ E b q) Γ (runs C Λ E (seq (cond c a skip) b) q)
    passes t o = step (λ s. first t $ branches t o (λ z. absurd z) (λ _. skips t $ record { prf = s.prf }))
