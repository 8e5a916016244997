-- An edit with an errno changes nothing, and so does the call that answers with it.
use Rattle.std.specs.Prelude.{ℕ, zero, suc, ◌≡◌, refl, negsuc, Option, None, Some}
use Rattle.std.proofs.Common.{arith}
use Rattle.rules_calls.specs.Results.{signed_result}
use Rattle.opening.specs.Signed.{result-errno}
use Rattle.rules_table.specs.declared.Object.{Object}
use Rattle.rules_table.specs.declared.Table.{Table}
use Rattle.rules_calls.specs.declared.Change.{Change}
use Rattle.rules_calls.specs.declared.Change.TheVariants.{Nothing}
use Rattle.rules_calls.specs.declared.Edit.{Edit}
use Rattle.rules_calls.specs.Edits.{accept, settle, added, applied}
use Rattle.rules_calls.specs.Answers.{outcome, id_or, outcome_id}

abbrev pub Silent : Edit → Type 0
Silent e = (e.errno ≡ 0 → ⊥) → e.change ≡ Nothing

pub silent-accept : (v : ℕ) (c : Change) (o : Object) → Silent (accept v c o)
silent-accept v c o h = absurd (h refl)

pub silent-settle : (n : ℕ) (e : Edit) → Silent e → Silent (settle n e)
silent-settle zero e s = s
silent-settle (suc n) e s = λ h. refl

pub silent-added : (f : Option ℕ) (o : Object) → Silent (added f o)
silent-added None o = λ h. refl
silent-added (Some i) o = λ h. absurd (h refl)

-- ---- a result below zero is an errno

negative : (n k : ℕ) → signed_result n ≡ negsuc k → n ≡ 0 → ⊥
negative n k e z = omega (arith, z, result-errno n k e)

pub negative-id : (n id k : ℕ) → id_or n id ≡ negsuc k → n ≡ 0 → ⊥
negative-id zero id k e z = let y : ◌≡◌ {A = ℕ} 0 1 = cc in omega (arith, y)
negative-id (suc n) id k e z = omega (arith, z)

module _ (t : Table) (e : Edit) (s : Silent e) where
  same : (e.errno ≡ 0 → ⊥) → applied t e ≡ t
  unfolding applied
  same h = rw (s h)

  pub outcome-refused : (k : ℕ) → (outcome t e).result ≡ negsuc k → (outcome t e).table ≡ t
  unfolding outcome
  outcome-refused k r = same (negative e.errno k r)

  pub outcome_id-refused : (k : ℕ) → (outcome_id t e).result ≡ negsuc k → (outcome_id t e).table ≡ t
  unfolding outcome_id
  outcome_id-refused k r = same (negative-id e.errno e.value k r)

pub errno-of : (t : Table) (e : Edit) (k : ℕ) → (outcome t e).result ≡ negsuc k → e.errno ≡ 0 → ⊥
unfolding outcome
errno-of t e k r = negative e.errno k r

-- and it is not 90 where the result is another
pub errno-90 : (t : Table) (e : Edit) (k : ℕ) → (outcome t e).result ≡ negsuc k → (k ≡ 89 → ⊥) → e.errno ≡ 90 → ⊥
unfolding outcome
errno-90 t e k r n z = n (omega (arith, z, result-errno e.errno k r))
