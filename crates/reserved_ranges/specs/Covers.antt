-- What holds an address, and where a run of free ones ends, in one list of ranges and then another.
use Rattle.std.specs.Prelude.{ℕ, min, ◌≡◌, List, [], ◌∷◌, ◌++◌, Option, None, Some, is_some}
use Rattle.std.proofs.Math.Path.{refl, sym, ap}
use Rattle.std.proofs.Common.{◌∙◌, arith}
use Rattle.std.proofs.Math.Bool.{true, false}
use Rattle.lists.specs.Tests.{contrary}
use Rattle.lists.specs.Search.{find, find_none}
use Rattle.lists.specs.Ends.{find-append_some, find-append_none}
use Rattle.ranges.specs.declared.Range.{Range}
use Rattle.ranges.specs.Ranges.{holds}
use Rattle.freeranges.specs.Scan.{upto, cover_of, run_end, run_end-nil, run_end-cons, run_end-most}

pub clear-is : (c : Option ℕ) → is_some c ≡ false → c ≡ None
clear-is None e = refl
clear-is (Some l) e = contrary true refl e

module _ (xs ys : List Range) (x : ℕ) where
  pub cover_first : is_some (cover_of xs x) ≡ true → cover_of (xs ++ ys) x ≡ cover_of xs x
  unfolding cover_of
  cover_first e = go (find (λ r. holds r x) xs) refl e
    where
      go : (o : Option Range) → find (λ r. holds r x) xs ≡ o → is_some (upto (find (λ r. holds r x) xs)) ≡ true
          → upto (find (λ r. holds r x) (xs ++ ys)) ≡ upto (find (λ r. holds r x) xs)
      go None q w = contrary (is_some (upto (find (λ r. holds r x) xs))) w (ap (λ (o : Option Range). is_some (upto o)) q)
      go (Some r) q w = ap upto (find-append_some (λ r. holds r x) xs ys r q ∙ sym q)

  pub cover_second : is_some (cover_of xs x) ≡ false → cover_of (xs ++ ys) x ≡ cover_of ys x
  unfolding cover_of
  cover_second e = go (find (λ r. holds r x) xs) refl e
    where
      go : (o : Option Range) → find (λ r. holds r x) xs ≡ o → is_some (upto (find (λ r. holds r x) xs)) ≡ false
          → upto (find (λ r. holds r x) (xs ++ ys)) ≡ upto (find (λ r. holds r x) ys)
      go None q w = ap upto (find-append_none (λ r. holds r x) xs ys (find_none (λ r. holds r x) xs q))
      go (Some r) q w = contrary (is_some (upto (find (λ r. holds r x) xs))) (ap (λ (o : Option Range). is_some (upto o)) q) w

pub cover_nil : (x : ℕ) → cover_of [] x ≡ None
unfolding cover_of find
cover_nil x = refl

pub run_end-append : (xs ys : List Range) (x : ℕ) → run_end (xs ++ ys) x ≡ min (run_end xs x) (run_end ys x)
run_end-append [] ys x = omega (arith, run_end-nil x, run_end-most x ys)
run_end-append (r ∷ xs) ys x = omega (arith, run_end-cons x r (xs ++ ys), run_end-cons x r xs, run_end-append xs ys x)
