-- What a store at one place, and a change of every element, do to each of the above. `set` and `map` are the kit's.
use Prim.Native.Nat.{ℕ, zero, suc, ◌+◌, ◌≤◌, ◌<◌}
use Rattle.std.specs.Prelude.{◌≡◌, Bool, true, false, ◌&&◌, ◌||◌, cond, eqb, length, get_or, set}
use Rattle.std.proofs.Math.Path.{refl, ap}
use Rattle.std.proofs.Common.{sym, ◌∙◌, le_of_suc-le-suc, not-suc-le-zero, add-one, eq-eqb}
use mathlib.Core.List.{List, [], ◌∷◌, map}
use native.Mathlib.Omega.{arith}
use Rattle.std.proofs.lemmas.List.{length-map}
use Rattle.lists.specs.Tests.{and_left, and_right, and_both, or_not_left, or_not_right, or_neither}
use Rattle.lists.specs.Search.{any, all}
use Rattle.lists.specs.Sums.{sum_of}

-- the length of a list from that of its image: how a need speaks of an array of structs
pub length-mapped : {X Y : Type 0} (f : X → Y) (l : List X) (n : ℕ) → length (map f l) ≡ n → length l ≡ n
length-mapped f l n e = sym (length-map l f) ∙ e

-- ---- a store at one place

module _ {A : Type 0} where
  pub any-set : (p : A → Bool) (xs : List A) (i : ℕ) (a : A) → any p xs ≡ false → p a ≡ false → any p (set xs i a) ≡ false
  unfolding any
  any-set p [] i a e f = refl
  any-set p (x ∷ xs) zero a e f = or_neither (p a) (any p xs) f (or_not_right (p x) (any p xs) e)
  any-set p (x ∷ xs) (suc i) a e f = or_neither (p x) (any p (set xs i a)) (or_not_left (p x) (any p xs) e) (any-set p xs i a (or_not_right (p x) (any p xs) e) f)

  pub all_set : (p : A → Bool) (xs : List A) (i : ℕ) (a : A) → all p xs ≡ true → p a ≡ true → all p (set xs i a) ≡ true
  unfolding all
  all_set p [] i a e f = refl
  all_set p (x ∷ xs) zero a e f = and_both (p a) (all p xs) f (and_right (p x) (all p xs) e)
  all_set p (x ∷ xs) (suc i) a e f = and_both (p x) (all p (set xs i a)) (and_left (p x) (all p xs) e) (all_set p xs i a (and_right (p x) (all p xs) e) f)

  -- the weight of what is stored goes in, that of what stood there goes out
  pub sum_of-set : (w : A → ℕ) (xs : List A) (d : A) (i : ℕ) (a : A) → i < length xs → sum_of w (set xs i a) + w (get_or xs i d) ≡ sum_of w xs + w a
  unfolding sum_of
  sum_of-set w [] d i a h = absurd (not-suc-le-zero h)
  sum_of-set w (x ∷ xs) d zero a h = omega arith
  sum_of-set w (x ∷ xs) d (suc i) a h = omega (arith, sum_of-set w xs d i a (le_of_suc-le-suc h))

-- ---- a change of every element

module _ {A B : Type 0} where
  pub any-map : (p : B → Bool) (f : A → B) (xs : List A) → any p (map f xs) ≡ any (λ x. p (f x)) xs
  unfolding any
  any-map p f [] = refl
  any-map p f (x ∷ xs) = ap (λ (b : Bool). p (f x) || b) (any-map p f xs)

  pub all_map : (p : B → Bool) (f : A → B) (xs : List A) → all p (map f xs) ≡ all (λ x. p (f x)) xs
  unfolding all
  all_map p f [] = refl
  all_map p f (x ∷ xs) = ap (λ (b : Bool). p (f x) && b) (all_map p f xs)

  pub sum_of-map : (w : B → ℕ) (f : A → B) (xs : List A) → sum_of w (map f xs) ≡ sum_of (λ x. w (f x)) xs
  unfolding sum_of
  sum_of-map w f [] = refl
  sum_of-map w f (x ∷ xs) = omega (arith, sum_of-map w f xs)

-- a loop that changes every element, after n turns
module _ {A : Type 0} where
  unfoldable pub map_first : (A → A) → ℕ → List A → List A
  map_first f zero xs = xs
  map_first f (suc n) [] = []
  map_first f (suc n) (x ∷ xs) = f x ∷ map_first f n xs

  pub map_first-zero : (f : A → A) (xs : List A) → xs ≡ map_first f 0 xs
  unfolding map_first
  map_first-zero f xs = refl

  map_first-suc : (f : A → A) (xs : List A) (d : A) (i : ℕ) → i < length xs → set (map_first f i xs) i (f (get_or xs i d)) ≡ map_first f (suc i) xs
  unfolding map_first
  map_first-suc f [] d i h = absurd (not-suc-le-zero h)
  map_first-suc f (x ∷ xs) d zero h = refl
  map_first-suc f (x ∷ xs) d (suc i) h = ap (λ (l : List A). f x ∷ l) (map_first-suc f xs d i (le_of_suc-le-suc h))

  pub map_first-on : (f : A → A) (xs ys : List A) (d r : A) (i : ℕ) → ys ≡ map_first f i xs → i < length xs → r ≡ f (get_or xs i d) → set ys i r ≡ map_first f (i + 1) xs
  map_first-on f xs ys d r i v h e = rw (v, e, add-one) (map_first-suc f xs d i h)

  pub map_first-end : (f : A → A) (xs : List A) (n : ℕ) → length xs ≤ n → map_first f n xs ≡ map f xs
  unfolding map_first
  map_first-end f [] zero h = refl
  map_first-end f [] (suc n) h = refl
  map_first-end f (x ∷ xs) zero h = absurd (not-suc-le-zero h)
  map_first-end f (x ∷ xs) (suc n) h = ap (λ (l : List A). f x ∷ l) (map_first-end f xs n (le_of_suc-le-suc h))

  -- ---- a function of numbers with another value at one number

  abbrev pub upd : (ℕ → A) → ℕ → A → ℕ → A
  upd f k v n = cond (eqb n k) v (f n)

  pub upd_same : (f : ℕ → A) (k : ℕ) (v : A) → upd f k v k ≡ v
  upd_same f k v = rw (eq-eqb k k refl)

  pub upd_other : (f : ℕ → A) (k : ℕ) (v : A) (n : ℕ) → eqb n k ≡ false → upd f k v n ≡ f n
  upd_other f k v n h = rw h
