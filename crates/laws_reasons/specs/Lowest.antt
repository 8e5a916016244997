-- The lowest number, from 1 on, of what passes a test: the object or the mapping record that is named.
use Rattle.std.specs.Prelude.{ℕ, ◌+◌, ◌-◌, ◌≤◌, ◌<◌, ◌≡◌, refl, Bool, true, false, List, length, get_or, Option, None, Some}
use Rattle.std.proofs.Common.{ap, ◌∙◌, arith}
use Rattle.lists.specs.Tests.{contrary}
use Rattle.lists.specs.Search.{any, seek, seek-none, seek-some_lt, seek-some_at, seek-some_before}
use Rattle.rules_calls.specs.Edits.{number_in}
use Rattle.rules_reasons.specs.Reasons.{lowest_number}

-- number n of the list passes, and none with a lower number does
pub record Lowest {A : Type 0} (p : A → Bool) (xs : List A) (d : A) (n : ℕ) : Type 0 where
  pub from : 1 ≤ n
  pub upto : n ≤ length xs
  pub passes : p (get_or xs (n - 1) d) ≡ true
  pub least : (j : ℕ) → 1 ≤ j → j < n → p (get_or xs (j - 1) d) ≡ false

-- THE LAW: where something passes, `lowestNumber` is its lowest number
pub lowest-is : {A : Type 0} (p : A → Bool) (xs : List A) (d : A) → any p xs ≡ true → Lowest p xs d (lowest_number p xs)
unfolding lowest_number
lowest-is p xs d e = at (seek p 1 xs) refl
  where
    at : (o : Option ℕ) → seek p 1 xs ≡ o → Lowest p xs d (number_in o)
    at None f = contrary (any p xs) e (seek-none p 1 xs f)
    at (Some n) f =
        let b = seek-some_lt p 1 xs n f in
        let s : n ≡ 1 + (n - 1) = omega (arith, b.0) in
        record {
          from = b.0;
          upto = omega (arith, b.1);
          passes = seek-some_at p 1 xs d (n - 1) (f ∙ ap Some s);
          least = λ j h k. seek-some_before p 1 xs d n (j - 1) f (omega arith);
        }
