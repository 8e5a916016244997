-- An array that repeats one element: what is known of the element is known of the array.
use Rattle.std.specs.Prelude.{refl, ℕ, zero, suc, [], ◌∷◌, replicate}
use Rattle.std.proofs.lemmas.List.{length-replicate}
use mir.Val.{Val}
use Rattle.std.specs.Borrow.{RattleType}
use denote.Laws.{Is}
use denote.Shadow.{shadow}
use denote.Array.{each, Array, array_val}

-- `[x; n]`, at n times x's machine value
each_same : (R : RattleType) (n : ℕ) (x : R.Denot) (u : Val) → Is R x (u ∷ []) → shadow (each R.Denot R.own_val (replicate n x) (replicate n u))
each_same R zero x u p = tt
each_same R (suc n) x u p = (p, each_same R n x u p)

pub repeat_is : (R : RattleType) (n : ℕ) (x : R.Denot) (u : Val) → Is R x (u ∷ []) → Is (Array R n) (replicate n x) (array_val (replicate n u) ∷ [])
repeat_is R n x u p = (replicate n u, ((refl, length-replicate n x), each_same R n x u p))
