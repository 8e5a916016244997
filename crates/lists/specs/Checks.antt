-- A rule as a list of checks in order: the answer is that of the first check that fires, or `ok` where none does.
-- What an accepted call may rely on comes by the place of a check: `passed`.
use Prim.Native.Nat.{ℕ, zero, suc, ◌<◌}
use Rattle.std.specs.Prelude.{◌≡◌, Bool, true, not, get_or}
use Rattle.std.proofs.Math.Path.{refl, sym}
use Rattle.std.proofs.Common.{◌∙◌, le_of_suc-le-suc, not-suc-le-zero}
use Rattle.std.proofs.Math.Bool.{false}
use mathlib.Core.List.{List, [], ◌∷◌, ◌++◌}
use Rattle.std.proofs.Math.ListN.{length}
use Rattle.lists.specs.Tests.{by-test}
use Rattle.lists.specs.Search.{any}
use Rattle.lists.specs.Each.{Each}

pub record Check (A : Type 0) : Type 0 where
  pub fires : Bool
  pub answer : A

module _ {A : Type 0} where
  -- «where b, the answer is a»
  abbrev pub when : Bool → A → Check A
  when b a = record { fires = b; answer = a }

  -- no check fires
  abbrev pub all_pass : List (Check A) → Bool
  all_pass cs = not (any (λ c. c.fires) cs)

  unfoldable pub first : List (Check A) → A → A
  first [] ok = ok
  first (c ∷ cs) ok = elim c.fires [ true ↦ c.answer | false ↦ first cs ok ]

  pub first-nil : (ok : A) → first [] ok ≡ ok
  unfolding first
  first-nil ok = refl

  pub first-fires : (c : Check A) (cs : List (Check A)) (ok : A) → c.fires ≡ true → first (c ∷ cs) ok ≡ c.answer
  unfolding first
  first-fires c cs ok e = rw (e, first)

  pub first_passes : (c : Check A) (cs : List (Check A)) (ok : A) → c.fires ≡ false → first (c ∷ cs) ok ≡ first cs ok
  unfolding first
  first_passes c cs ok e = rw (e, first)

  pub first-append : (cs ds : List (Check A)) (ok : A) → first (cs ++ ds) ok ≡ first cs (first ds ok)
  unfolding first
  first-append [] ds ok = refl
  first-append (c ∷ cs) ds ok =
      by-test c.fires
      (λ e. first-fires c (cs ++ ds) ok e ∙ sym (first-fires c cs (first ds ok) e))
      (λ e. first_passes c (cs ++ ds) ok e ∙ first-append cs ds ok ∙ sym (first_passes c cs (first ds ok) e))

  -- each answer, and ok, has P: so has the outcome
  pub first-each : (P : A → Type 0) (cs : List (Check A)) (ok : A) → Each (λ c. P c.answer) cs → P ok → P (first cs ok)
  unfolding first
  first-each P [] ok h k = k
  first-each P (c ∷ cs) ok h k =
      by-test c.fires
      (λ e. rw (first-fires c cs ok e) h.0)
      (λ e. rw (first_passes c cs ok e) (first-each P cs ok h.1 k))

  -- no answer of the list is ok
  abbrev pub Refusals : List (Check A) → A → Type 0
  Refusals cs ok = Each (λ c. c.answer ≡ ok → ⊥) cs

  -- where the outcome is ok, the check at each place passed
  pub passed : (cs : List (Check A)) (ok : A) (d : Check A) → Refusals cs ok → first cs ok ≡ ok → (i : ℕ) → i < length cs → (get_or cs i d).fires ≡ false
  unfolding first
  passed [] ok d r e i h = absurd (not-suc-le-zero h)
  passed (c ∷ cs) ok d r e i h =
      by-test c.fires
      (λ t. absurd (r.0 (sym (first-fires c cs ok t) ∙ e)))
      (λ t. at i h t (passed cs ok d r.1 (sym (first_passes c cs ok t) ∙ e)))
    where
      at : (i : ℕ) → i < suc (length cs) → c.fires ≡ false → ((j : ℕ) → j < length cs → (get_or cs j d).fires ≡ false) → (get_or (c ∷ cs) i d).fires ≡ false
      at zero h t rec = t
      at (suc j) h t rec = rec j (le_of_suc-le-suc h)

  -- a list of checks that refused refuses whatever comes after it
  pub first-stays : (cs : List (Check A)) (ok n r : A) → n ≡ first cs ok → (n ≡ ok → ⊥) → n ≡ first cs r
  unfolding first
  first-stays [] ok n r e h = absurd (h e)
  first-stays (c ∷ cs) ok n r e h =
      by-test c.fires
      (λ t. e ∙ first-fires c cs ok t ∙ sym (first-fires c cs r t))
      (λ t. first-stays cs ok n r (e ∙ first_passes c cs ok t) h ∙ sym (first_passes c cs r t))

  -- and one that passed leaves the answer to what comes after it
  pub first_goes : (cs : List (Check A)) (ok r : A) → Refusals cs ok → ok ≡ first cs ok → r ≡ first cs r
  unfolding first
  first_goes [] ok r h e = refl
  first_goes (c ∷ cs) ok r h e =
      by-test c.fires
      (λ t. absurd (h.0 (sym (e ∙ first-fires c cs ok t))))
      (λ t. first_goes cs ok r h.1 (e ∙ first_passes c cs ok t) ∙ sym (first_passes c cs r t))
