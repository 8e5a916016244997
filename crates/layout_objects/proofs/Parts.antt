-- Words in a row: an array that is filled with them, and the parts of an object that they are.
use Rattle.std.proofs.Common.{◌-◌, ◌++◌, min, ltb, ltb-true, ltb-false, subst, take_all, ◌≡◌, ◌+◌, ◌*◌, ◌≤◌, ◌<◌, ℕ, zero, suc, List, length, get_or, take, drop, arith, sym, ap, ◌∙◌}
use Rattle.std.proofs.Math.Path.{refl}
use Rattle.std.proofs.lemmas.List.{ext_get_or, get_or-take, get_or-drop, get_or_append_left, get_or-append_right, length-take, length-drop, length-append}
use Rattle.std.specs.Array.{IsFromFnResult, IsFromFnResultFrom}
use denote.Param.Members.{Mut, Called}
use Rattle.lists.specs.Tests.{by-test}
use Rattle.rangelists.specs.Listed.{places, reserved, allowed, ranges_in}
use Rattle.rangelists.proofs.Held.{places_first}
use Rattle.rules_table.specs.declared.Object.{Object}
use Rattle.rules_table.specs.Layout.{decoded}
use Rattle.rules_table.specs.Words.{low, high, four_at, eight_at}
use Rattle.layout_objects.specs.Slots.{object_in, object-words}

-- ---- an array that calls fill: a call at k, where P holds, gives word k of h, and P holds after it

module _ {F : Type 0} (g : Mut F (ℕ × Unit {0}) ℕ) (P : F → Type 0) (h : List ℕ)
    (call : (p q : F) (k y : ℕ) → P p → Called g p (k, tt) y q → (y ≡ get_or h k 0) × P q) where
  filled_from : (f : F) (ys : List ℕ) (i n : ℕ) → P f → IsFromFnResultFrom g f ys i n → (k : ℕ) → k < n → get_or ys (i + k) 0 ≡ get_or h (i + k) 0
  filled_from f ys i zero s e k l = absurd (omega arith)
  filled_from f ys i (suc n) s e zero l =
      let z : i + 0 ≡ i = omega arith in
      rw z (e.2.1 0 ∙ (call f e.0 i e.1 s e.3).0)
  filled_from f ys i (suc n) s e (suc k) l =
      let z : i + suc k ≡ i + 1 + k = omega arith in
      rw z (filled_from e.0 ys (i + 1) n (call f e.0 i e.1 s e.3).1 e.4 k (omega arith))

  pub filled : (f : F) (ys : List ℕ) (n : ℕ) → P f → IsFromFnResult g f ys n → length h ≡ n → ys ≡ h
  filled f ys n s e l =
      ext_get_or 0 ys h (e.long ∙ sym l)
      (λ k m. let z : 0 + k ≡ k = omega arith in rw z at (filled_from f ys 0 n s e.each k (omega (arith, e.long, m))))

-- ---- words in a row: xs are those of h from a on

pub record Lies (h : List ℕ) (a : ℕ) (xs : List ℕ) : Type 0 where
  pub each : (j : ℕ) → j < length xs → get_or xs j 0 ≡ get_or h (a + j) 0

module _ (h : List ℕ) (a : ℕ) where
  four_lie : Lies h a (four_at h a)
  four_lie = record { each = at }
    where
      at : (j : ℕ) → j < 4 → get_or (four_at h a) j 0 ≡ get_or h (a + j) 0
      at zero l = let z : a ≡ a + 0 = omega arith in ap (λ (n : ℕ). get_or h n 0) z
      at (suc zero) l = refl
      at (suc (suc zero)) l = refl
      at (suc (suc (suc zero))) l = refl
      at (suc (suc (suc (suc j)))) l = absurd (omega arith)

  -- two in a row
  lie_both : (xs ys : List ℕ) → Lies h a xs → Lies h (a + length xs) ys → Lies h a (xs ++ ys)
  lie_both xs ys x y = record {
    each = λ j l.
        by-test (ltb j (length xs))
        (λ t. let k = ltb-true j (length xs) t in get_or_append_left xs ys 0 j k ∙ x.each j k)
        (λ t. let k = ltb-false j (length xs) t in
        let z : a + length xs + (j - length xs) ≡ a + j = omega arith in
        get_or-append_right xs ys (length xs) j 0 refl k ∙ y.each (j - length xs) (omega (arith, length-append xs ys)) ∙ ap (λ (n : ℕ). get_or h n 0) z);
  }

  -- THE LAW: a part of h that is as long as it should be is a part of xs
  pub lying : (xs : List ℕ) → Lies h a xs → (ws : List ℕ) (b m k : ℕ) → ws ≡ take m (drop b h) → length ws ≡ m → b ≡ a + k → k + m ≤ length xs
      → ws ≡ take m (drop k xs)
  lying xs x ws b m k e n z l =
      ext_get_or 0 ws (take m (drop k xs)) (omega (arith, n, length-take m (drop k xs), length-drop k xs))
      (λ j i. let r : b + j ≡ a + (k + j) = omega arith in
      let f : j < m = omega (arith, n, i) in
      ap (λ (ys : List ℕ). get_or ys j 0) e ∙ get_or-take m (drop b h) j 0 f ∙ get_or-drop b h j 0 ∙ ap (λ (q : ℕ). get_or h q 0) r
      ∙ sym (get_or-take m (drop k xs) j 0 f ∙ get_or-drop k xs j 0 ∙ x.each (k + j) (omega (arith, l, f))))

-- ---- the object in slot i

eight_lie : (h : List ℕ) (a : ℕ) → Lies h a (eight_at h a)
eight_lie h a = record { each = at }
  where
    at : (j : ℕ) → j < 8 → get_or (eight_at h a) j 0 ≡ get_or h (a + j) 0
    at zero l = let z : a ≡ a + 0 = omega arith in ap (λ (n : ℕ). get_or h n 0) z
    at (suc zero) l = refl
    at (suc (suc zero)) l = refl
    at (suc (suc (suc zero))) l = refl
    at (suc (suc (suc (suc zero)))) l = refl
    at (suc (suc (suc (suc (suc zero))))) l = refl
    at (suc (suc (suc (suc (suc (suc zero)))))) l = refl
    at (suc (suc (suc (suc (suc (suc (suc zero))))))) l = refl
    at (suc (suc (suc (suc (suc (suc (suc (suc j)))))))) l = absurd (omega arith)

module _ (h : List ℕ) (i : ℕ) (l : i < 32) where
  -- its words one by one
  pub bitmap_word : get_or h (27 * i + 1 + 1) 0 ≡ (object_in h i).bitmap
  unfolding decoded
  bitmap_word = sym (ap (λ (o : Object). o.bitmap) (object-words h i l))

  pub reserves_word : low (get_or h (27 * i + 1 + 2) 0) ≡ (object_in h i).reserved.count
  unfolding decoded
  reserves_word = sym (ap (λ (o : Object). o.reserved.count) (object-words h i l))

  pub allows_word : high (get_or h (27 * i + 1 + 2) 0) ≡ (object_in h i).allow.count
  unfolding decoded
  allows_word = sym (ap (λ (o : Object). o.allow.count) (object-words h i l))

  -- its lists
  starts_lie : Lies h (27 * i + 1 + 3) (object_in h i).reserved.starts
  unfolding decoded
  starts_lie = subst (λ (o : Object). Lies h (27 * i + 1 + 3) o.reserved.starts) (sym (object-words h i l)) (four_lie h (27 * i + 1 + 3))

  lasts_lie : Lies h (27 * i + 1 + 7) (object_in h i).reserved.lasts
  unfolding decoded
  lasts_lie = subst (λ (o : Object). Lies h (27 * i + 1 + 7) o.reserved.lasts) (sym (object-words h i l)) (four_lie h (27 * i + 1 + 7))

  froms_lie : Lies h (27 * i + 1 + 11) (object_in h i).allow.starts
  unfolding decoded
  froms_lie = subst (λ (o : Object). Lies h (27 * i + 1 + 11) o.allow.starts) (sym (object-words h i l)) (eight_lie h (27 * i + 1 + 11))

  ends_lie : Lies h (27 * i + 1 + 19) (object_in h i).allow.lasts
  unfolding decoded
  ends_lie = subst (λ (o : Object). Lies h (27 * i + 1 + 19) o.allow.lasts) (sym (object-words h i l)) (eight_lie h (27 * i + 1 + 19))

  pub starts-long : length (object_in h i).reserved.starts ≡ 4
  unfolding decoded
  starts-long = ap (λ (o : Object). length o.reserved.starts) (object-words h i l)

  pub lasts-long : length (object_in h i).reserved.lasts ≡ 4
  unfolding decoded
  lasts-long = ap (λ (o : Object). length o.reserved.lasts) (object-words h i l)

  pub froms-long : length (object_in h i).allow.starts ≡ 8
  unfolding decoded
  froms-long = ap (λ (o : Object). length o.allow.starts) (object-words h i l)

  pub ends-long : length (object_in h i).allow.lasts ≡ 8
  unfolding decoded
  ends-long = ap (λ (o : Object). length o.allow.lasts) (object-words h i l)

  -- THE LAWS: parts of a head that are parts of its lists, as long as they should be
  module _ (ws : List ℕ) (b m k : ℕ) (e : ws ≡ take m (drop b h)) (n : length ws ≡ m) where
    pub starts_part : b ≡ 27 * i + 1 + 3 + k → k + m ≤ 4 → ws ≡ take m (drop k (object_in h i).reserved.starts)
    starts_part z f = lying h (27 * i + 1 + 3) (object_in h i).reserved.starts starts_lie ws b m k e n z (omega (arith, f, starts-long))

    pub lasts_part : b ≡ 27 * i + 1 + 7 + k → k + m ≤ 4 → ws ≡ take m (drop k (object_in h i).reserved.lasts)
    lasts_part z f = lying h (27 * i + 1 + 7) (object_in h i).reserved.lasts lasts_lie ws b m k e n z (omega (arith, f, lasts-long))

    pub froms_part : b ≡ 27 * i + 1 + 11 + k → k + m ≤ 8 → ws ≡ take m (drop k (object_in h i).allow.starts)
    froms_part z f = lying h (27 * i + 1 + 11) (object_in h i).allow.starts froms_lie ws b m k e n z (omega (arith, f, froms-long))

    pub ends_part : b ≡ 27 * i + 1 + 19 + k → k + m ≤ 8 → ws ≡ take m (drop k (object_in h i).allow.lasts)
    ends_part z f = lying h (27 * i + 1 + 19) (object_in h i).allow.lasts ends_lie ws b m k e n z (omega (arith, f, ends-long))

  -- starts and lasts at once
  pub reserved_part : (ws : List ℕ) → ws ≡ take 8 (drop (27 * i + 1 + 3) h) → length ws ≡ 8 → ws ≡ (object_in h i).reserved.starts ++ (object_in h i).reserved.lasts
  reserved_part ws e n =
      let xs = (object_in h i).reserved.starts in
      let ys = (object_in h i).reserved.lasts in
      let long : length (xs ++ ys) ≡ 8 = omega (arith, length-append xs ys, starts-long, lasts-long) in
      let z : 27 * i + 1 + 7 ≡ 27 * i + 1 + 3 + length xs = omega (arith, starts-long) in
      lying h (27 * i + 1 + 3) (xs ++ ys) (lie_both h (27 * i + 1 + 3) xs ys starts_lie (subst (λ (n : ℕ). Lies h n ys) z lasts_lie)) ws (27 * i + 1 + 3) 8 0 e n (omega arith) (omega (arith, long))
      ∙ take_all 8 (xs ++ ys) (omega (arith, long))

  pub allow_part : (ws : List ℕ) → ws ≡ take 16 (drop (27 * i + 1 + 11) h) → length ws ≡ 16 → ws ≡ (object_in h i).allow.starts ++ (object_in h i).allow.lasts
  allow_part ws e n =
      let xs = (object_in h i).allow.starts in
      let ys = (object_in h i).allow.lasts in
      let long : length (xs ++ ys) ≡ 16 = omega (arith, length-append xs ys, froms-long, ends-long) in
      let z : 27 * i + 1 + 19 ≡ 27 * i + 1 + 11 + length xs = omega (arith, froms-long) in
      lying h (27 * i + 1 + 11) (xs ++ ys) (lie_both h (27 * i + 1 + 11) xs ys froms_lie (subst (λ (n : ℕ). Lies h n ys) z ends_lie)) ws (27 * i + 1 + 11) 16 0 e n (omega arith) (omega (arith, long))
      ∙ take_all 16 (xs ++ ys) (omega (arith, long))

-- ---- the ranges in use

module _ (h : List ℕ) (i : ℕ) (l : i < 32) where
  pub reserved_used : (n : ℕ) → n ≡ min (object_in h i).reserved.count 4 → (ws vs : List ℕ)
      → ws ≡ take (3 + n - 3) (drop (27 * i + 1 + 3) h) → length ws ≡ 3 + n - 3 → vs ≡ take (7 + n - 7) (drop (27 * i + 1 + 7) h) → length vs ≡ 7 + n - 7
      → places ws vs ≡ reserved (object_in h i).reserved
  unfolding ranges_in
  reserved_used n e ws vs f k g m =
      let p : 3 + n - 3 ≡ n = omega arith in
      let q : 7 + n - 7 ≡ n = omega arith in
      let x : ws ≡ take n (object_in h i).reserved.starts = starts_part h i l ws _ n 0 (rw p at f) (k ∙ p) (omega arith) (omega (arith, e)) in
      let y : vs ≡ take n (object_in h i).reserved.lasts = lasts_part h i l vs _ n 0 (rw q at g) (m ∙ q) (omega arith) (omega (arith, e)) in
      rw (x, y, places_first n (object_in h i).reserved.starts (object_in h i).reserved.lasts, e)

  pub allow_used : (n : ℕ) → n ≡ min (object_in h i).allow.count 8 → (ws vs : List ℕ)
      → ws ≡ take (11 + n - 11) (drop (27 * i + 1 + 11) h) → length ws ≡ 11 + n - 11 → vs ≡ take (19 + n - 19) (drop (27 * i + 1 + 19) h) → length vs ≡ 19 + n - 19
      → places ws vs ≡ allowed (object_in h i).allow
  unfolding ranges_in
  allow_used n e ws vs f k g m =
      let p : 11 + n - 11 ≡ n = omega arith in
      let q : 19 + n - 19 ≡ n = omega arith in
      let x : ws ≡ take n (object_in h i).allow.starts = froms_part h i l ws _ n 0 (rw p at f) (k ∙ p) (omega arith) (omega (arith, e)) in
      let y : vs ≡ take n (object_in h i).allow.lasts = ends_part h i l vs _ n 0 (rw q at g) (m ∙ q) (omega arith) (omega (arith, e)) in
      rw (x, y, places_first n (object_in h i).allow.starts (object_in h i).allow.lasts, e)
