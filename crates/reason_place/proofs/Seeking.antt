-- The loop that looks for the lowest number, at place i: what is left answers for the whole.
use Prim.Native.Nat.{ℕ, ◌+◌, ◌≤◌, ◌<◌}
use mathlib.Core.Path.{◌≡◌, refl, sym, ap, ◌∙◌}
use mathlib.Core.Bool.{Bool, true, false}
use mathlib.Core.List.{List}
use lib.ListN.{length, get_or, drop, drop_of_length-le}
use Rattle.lists.specs.Search.{seek, seek-cons_true, seek-cons_false, drop_turn}
use Rattle.rules_calls.specs.Edits.{number_in}
use Rattle.rules_reasons.specs.Reasons.{lowest_number}

module _ {A : Type 0} where
  unfoldable pub Seeking : (A → Bool) → List A → ℕ → Type 0
  Seeking p xs i = seek p (i + 1) (drop i xs) ≡ seek p 1 xs

  pub seek-start : (p : A → Bool) (xs : List A) → Seeking p xs 0
  unfolding Seeking
  seek-start p xs = refl

  module _ (p : A → Bool) (xs : List A) (d : A) (i : ℕ) (inv : Seeking p xs i) where
    pub seek-here : (k : ℕ) → k ≡ i + 1 → i < length xs → p (get_or xs i d) ≡ true → k ≡ lowest_number p xs
    unfolding Seeking lowest_number
    seek-here k e h t =
        e ∙ ap number_in (sym (seek-cons_true p (i + 1) (get_or xs i d) (drop (i + 1) xs) t) ∙ sym (ap (seek p (i + 1)) (drop_turn xs d i h)) ∙ inv)

    pub seek-next : i < length xs → p (get_or xs i d) ≡ false → Seeking p xs (i + 1)
    unfolding Seeking
    seek-next h t = sym (seek-cons_false p (i + 1) (get_or xs i d) (drop (i + 1) xs) t) ∙ sym (ap (seek p (i + 1)) (drop_turn xs d i h)) ∙ inv

    pub seek-nothing : length xs ≤ i → 0 ≡ lowest_number p xs
    unfolding Seeking lowest_number seek
    seek-nothing h = ap number_in (sym (ap (seek p (i + 1)) (drop_of_length-le xs h)) ∙ inv)
