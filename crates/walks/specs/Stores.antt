-- What a loop over the places of ys has made after i turns, where turn j leaves element j of a at place j: the first i elements of a, then those of ys.
use Rattle.std.specs.Prelude.{◌≡◌, ◌⊎◌, length}
use Rattle.std.proofs.Math.Path.{refl, ap}
use Rattle.std.proofs.Common.{sym, ◌∙◌, inl, inr, eq-or-lt_of_le, le_refl, arith, get_or-set_same, ext_get_or}
use Prim.Native.Nat.{ℕ, zero, suc, ◌+◌, ◌≤◌, ◌<◌}
use Rattle.std.proofs.Math.Numerals.{add-one}
use mathlib.Core.List.{List}
use Rattle.std.proofs.Math.ListN.{get_or, set, length-set}
use Rattle.std.proofs.Math.Seq.{get_or-set_other, set-get_or}

module _ {X : Type 0} (d : X) (a ys : List X) where
  unfoldable pub stores : ℕ → List X
  stores zero = ys
  stores (suc i) = set (stores i) i (get_or a i d)

  pub stores-none : stores 0 ≡ ys
  unfolding stores
  stores-none = refl

  pub stores-next : (i : ℕ) → set (stores i) i (get_or a i d) ≡ stores (i + 1)
  unfolding stores
  stores-next i = rw add-one

  pub stores-length : (i : ℕ) → length (stores i) ≡ length ys
  unfolding stores
  stores-length zero = refl
  stores-length (suc i) = length-set (stores i) i (get_or a i d) ∙ stores-length i

  stores_at : (n j : ℕ) → j < n → n ≤ length ys → get_or (stores n) j d ≡ get_or a j d
  unfolding stores
  stores_at zero j l f = absurd (omega (arith, l))
  stores_at (suc n) j l f = at_last (eq-or-lt_of_le (omega (arith, l))) (λ h. stores_at n j h (omega arith))
    where
      at_last : (j ≡ n) ⊎ (j < n) → (j < n → get_or (stores n) j d ≡ get_or a j d) → get_or (set (stores n) n (get_or a n d)) j d ≡ get_or a j d
      at_last (inl e) k = rw e (get_or-set_same (stores n) n (get_or a n d) d (omega (arith, stores-length n)))
      at_last (inr h) k = get_or-set_other (stores n) n j (get_or a n d) d (λ e. omega (arith, e, h)) ∙ k h

  pub stores-all : length ys ≡ length a → stores (length a) ≡ a
  stores-all e = ext_get_or d (stores (length a)) a (stores-length (length a) ∙ e) (λ i h. stores_at (length a) i (omega (arith, stores-length (length a))) (omega arith))

  -- a place that no turn has come to
  pub stores-rest : (n j : ℕ) → n ≤ j → get_or (stores n) j d ≡ get_or ys j d
  unfolding stores
  stores-rest zero j l = refl
  stores-rest (suc n) j l = get_or-set_other (stores n) n j (get_or a n d) d (λ e. omega (arith, e, l)) ∙ stores-rest n j (omega (arith, l))

  -- a turn that has nothing to store
  pub stores_same : (i : ℕ) → get_or a i d ≡ get_or ys i d → stores i ≡ stores (i + 1)
  stores_same i e = sym (set-get_or (stores i) i d) ∙ ap (set (stores i) i) (stores-rest i i (le_refl i) ∙ sym e) ∙ stores-next i

  -- turns that all have nothing to store
  pub stores-kept : (n : ℕ) → ((j : ℕ) → j < n → get_or a j d ≡ get_or ys j d) → stores n ≡ ys
  unfolding stores
  stores-kept zero f = refl
  stores-kept (suc n) f =
      ap (λ (l : List X). set l n (get_or a n d)) (stores-kept n (λ j h. f j (omega (arith, h))))
      ∙ ap (set ys n) (f n (omega arith))
      ∙ set-get_or ys n d
