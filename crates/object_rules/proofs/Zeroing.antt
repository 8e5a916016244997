-- Places that are all zero: by the bits of all of them, and where none is in use.
use Prim.Native.Nat.{ℕ, ◌+◌, ◌-◌, ◌*◌, ◌≤◌, ◌<◌, min}
use mathlib.Core.Path.{◌≡◌, refl, sym, ap, ◌∙◌}
use mathlib.Core.Bool.{Bool, true, false, ◌&&◌}
use mathlib.Core.List.{List, ◌++◌}
use native.Mathlib.Omega.{arith}
use lib.Bits.{bit_or, or_add_and, and_le_l, and_le_r, or_zero_l}
use lib.Dec.{eqb}
use lib.ListN.{length, get_or, take, drop, drop_of_length-le}
use Rattle.std.proofs.Common.{take_all, length-drop}
use borrow.Author.Tests.{eqb-true, eq-eqb}
use Rattle.lists.specs.Tests.{same_test, and_left, and_right, and_both}
use Rattle.lists.specs.Search.{all, drop_turn, all_cons, all_append}
use Rattle.wire.specs.Fields.{zeros}
use Rattle.rules_table.specs.declared.Object.{Object}
use Rattle.rules_table.specs.Good.{reserved_rest, allow_rest, no_device, no_list}
use Rattle.layout_objects.specs.Slots.{object_in}
use Rattle.layout_objects.proofs.Parts.{starts_part, lasts_part, froms_part, ends_part, starts-long, lasts-long, froms-long, ends-long}

-- no bit of either
bit_or-none : (a b : ℕ) → bit_or a b ≡ 0 → (a ≡ 0) × (b ≡ 0)
bit_or-none a b e = (omega (arith, e, or_add_and a b, and_le_l a b, and_le_r a b), omega (arith, e, or_add_and a b, and_le_l a b, and_le_r a b))

or_test : (a b : ℕ) → eqb (bit_or a b) 0 ≡ (eqb a 0 && eqb b 0)
or_test a b =
    same_test (eqb (bit_or a b) 0) (eqb a 0 && eqb b 0)
    (λ e. let z = bit_or-none a b (eqb-true (bit_or a b) 0 e) in and_both (eqb a 0) (eqb b 0) (eq-eqb a 0 z.0) (eq-eqb b 0 z.1))
    (λ e. eq-eqb (bit_or a b) 0 (ap (λ (x : ℕ). bit_or x b) (eqb-true a 0 (and_left (eqb a 0) (eqb b 0) e)) ∙ or_zero_l b ∙ eqb-true b 0
    (and_right (eqb a 0) (eqb b 0) e)))

and_group : (a b c : Bool) → ((a && b) && c) ≡ (a && (b && c))
and_group true b c = refl
and_group false b c = refl

right-true : (a : Bool) → (a && true) ≡ a
right-true true = refl
right-true false = refl

-- the bits before place i, and the places from i on
module _ (xs : List ℕ) (i bits : ℕ) {k : Bool} (v : (eqb bits 0 && zeros (drop i xs)) ≡ k) where
  pub bits_on : i < length xs → (eqb (bit_or bits (get_or xs i 0)) 0 && zeros (drop (i + 1) xs)) ≡ k
  unfolding zeros
  bits_on h =
      ap (λ (b : Bool). b && zeros (drop (i + 1) xs)) (or_test bits (get_or xs i 0))
      ∙ and_group (eqb bits 0) (eqb (get_or xs i 0) 0) (zeros (drop (i + 1) xs))
      ∙ ap (λ (b : Bool). eqb bits 0 && b) (sym (all_cons (λ b. eqb b 0) (get_or xs i 0) (drop (i + 1) xs)) ∙ ap zeros (sym (drop_turn xs 0 i h)))
      ∙ v

  pub bits_end : length xs ≤ i → eqb bits 0 ≡ k
  unfolding zeros all
  bits_end h = sym (ap (λ (ys : List ℕ). eqb bits 0 && zeros ys) (drop_of_length-le xs h) ∙ right-true (eqb bits 0)) ∙ v

-- where no range is in use, every place is unused
zeros-row : (xs ys : List ℕ) → zeros (xs ++ ys) ≡ (zeros xs && zeros ys)
unfolding zeros
zeros-row xs ys = all_append (λ b. eqb b 0) xs ys

pub no-device : (o : Object) (ws : List ℕ) (z : Bool) → ws ≡ o.reserved.starts ++ o.reserved.lasts → z ≡ zeros ws
    → o.bitmap ≡ 0 → o.reserved.count ≡ 0 → z ≡ no_device o
unfolding no_device reserved_rest
no-device o ws z e f b n = rw (f ∙ ap zeros e ∙ zeros-row o.reserved.starts o.reserved.lasts, b, n)

pub no-list : (o : Object) (ws : List ℕ) (z : Bool) → ws ≡ o.allow.starts ++ o.allow.lasts → z ≡ zeros ws
    → o.allow.count ≡ 0 → z ≡ no_list o
unfolding no_list allow_rest
no-list o ws z e f n = rw (f ∙ ap zeros e ∙ zeros-row o.allow.starts o.allow.lasts, n)

-- the words of a head that no range uses are those of the lists
module _ (h : List ℕ) (i : ℕ) (l : i < 32) where
  pub starts_rest : (n : ℕ) → n ≡ min (object_in h i).reserved.count 4 → (ws : List ℕ) → ws ≡ take (7 - (3 + n)) (drop (27 * i + 1 + (3 + n)) h) → length ws ≡ 7 - (3 + n)
      → zeros ws ≡ zeros (drop (min (object_in h i).reserved.count 4) (object_in h i).reserved.starts)
  starts_rest n e ws f m =
      let xs = (object_in h i).reserved.starts in
      let a : ws ≡ drop n xs = starts_part h i l ws _ _ n f m (omega arith) (omega (arith, e)) ∙ take_all (7 - (3 + n)) (drop n xs) (omega (arith, length-drop n xs, starts-long h i l)) in
      ap zeros a ∙ ap (λ (k : ℕ). zeros (drop k xs)) e

  pub lasts_rest : (n : ℕ) → n ≡ min (object_in h i).reserved.count 4 → (ws : List ℕ) → ws ≡ take (11 - (7 + n)) (drop (27 * i + 1 + (7 + n)) h) → length ws ≡ 11 - (7 + n)
      → zeros ws ≡ zeros (drop (min (object_in h i).reserved.count 4) (object_in h i).reserved.lasts)
  lasts_rest n e ws f m =
      let xs = (object_in h i).reserved.lasts in
      let a : ws ≡ drop n xs = lasts_part h i l ws _ _ n f m (omega arith) (omega (arith, e)) ∙ take_all (11 - (7 + n)) (drop n xs) (omega (arith, length-drop n xs, lasts-long h i l)) in
      ap zeros a ∙ ap (λ (k : ℕ). zeros (drop k xs)) e

  pub froms_rest : (n : ℕ) → n ≡ min (object_in h i).allow.count 8 → (ws : List ℕ) → ws ≡ take (19 - (11 + n)) (drop (27 * i + 1 + (11 + n)) h) → length ws ≡ 19 - (11 + n)
      → zeros ws ≡ zeros (drop (min (object_in h i).allow.count 8) (object_in h i).allow.starts)
  froms_rest n e ws f m =
      let xs = (object_in h i).allow.starts in
      let a : ws ≡ drop n xs = froms_part h i l ws _ _ n f m (omega arith) (omega (arith, e)) ∙ take_all (19 - (11 + n)) (drop n xs) (omega (arith, length-drop n xs, froms-long h i l)) in
      ap zeros a ∙ ap (λ (k : ℕ). zeros (drop k xs)) e

  pub ends_rest : (n : ℕ) → n ≡ min (object_in h i).allow.count 8 → (ws : List ℕ) → ws ≡ take (27 - (19 + n)) (drop (27 * i + 1 + (19 + n)) h) → length ws ≡ 27 - (19 + n)
      → zeros ws ≡ zeros (drop (min (object_in h i).allow.count 8) (object_in h i).allow.lasts)
  ends_rest n e ws f m =
      let xs = (object_in h i).allow.lasts in
      let a : ws ≡ drop n xs = ends_part h i l ws _ _ n f m (omega arith) (omega (arith, e)) ∙ take_all (27 - (19 + n)) (drop n xs) (omega (arith, length-drop n xs, ends-long h i l)) in
      ap zeros a ∙ ap (λ (k : ℕ). zeros (drop k xs)) e
