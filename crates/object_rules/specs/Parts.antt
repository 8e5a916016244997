-- The fields of the object in a slot, as words and parts of a head.
use Rattle.std.specs.Prelude.{ℕ, ◌+◌, ◌*◌, ◌-◌, ◌≤◌, ◌<◌, ◌≡◌, refl, get_or, drop}
use Rattle.std.proofs.Math.Path.{sym, ap}
use Rattle.std.proofs.Common.{◌∙◌, drop-drop, take-add}
use mathlib.Core.List.{List, ◌∷◌, ◌++◌}
use native.Mathlib.Omega.{arith}
use Rattle.std.proofs.Math.ListN.{length, take}
use Rattle.lists.specs.Search.{drop_turn}
use Rattle.rules_table.specs.declared.Object.{Object}
use Rattle.rules_table.specs.Records.{zero_object}
use Rattle.rules_table.specs.Layout.{decoded}
use Rattle.rules_table.specs.Words.{low, high, four_at, eight_at, objects_in}
use Rattle.layout_objects.specs.Slots.{object-words}

-- ---- words in a row

module _ (h : List ℕ) where
  turn : (a b : ℕ) → b ≡ a + 1 → a < length h → drop a h ≡ get_or h a 0 ∷ drop b h
  turn a b e l = drop_turn h 0 a l ∙ ap (λ (n : ℕ). get_or h a 0 ∷ drop n h) (sym e)

  four : (a : ℕ) → a + 4 ≤ length h → take 4 (drop a h) ≡ four_at h a
  four a l =
      rw (
        turn a (a + 1) refl (omega arith),
        turn (a + 1) (a + 2) (omega arith) (omega arith),
        turn (a + 2) (a + 3) (omega arith) (omega arith),
        turn (a + 3) (a + 4) (omega arith) (omega arith),
      ) refl

  eight : (a : ℕ) → a + 8 ≤ length h → take 8 (drop a h) ≡ eight_at h a
  eight a l =
      rw (
        turn a (a + 1) refl (omega arith),
        turn (a + 1) (a + 2) (omega arith) (omega arith),
        turn (a + 2) (a + 3) (omega arith) (omega arith),
        turn (a + 3) (a + 4) (omega arith) (omega arith),
        turn (a + 4) (a + 5) (omega arith) (omega arith),
        turn (a + 5) (a + 6) (omega arith) (omega arith),
        turn (a + 6) (a + 7) (omega arith) (omega arith),
        turn (a + 7) (a + 8) (omega arith) (omega arith),
      ) refl

  -- two parts in a row
  row : (n m a b : ℕ) → b ≡ a + n → take (n + m) (drop a h) ≡ take n (drop a h) ++ take m (drop b h)
  row n m a b e =
      take-add n m (drop a h)
      ∙ ap (λ (ws : List ℕ). take n (drop a h) ++ take m ws) (drop-drop n a h ∙ ap (λ (k : ℕ). drop k h) (sym e))

-- ---- the object in slot i

module _ (h : List ℕ) (i : ℕ) (l : i < 32) where
  -- its words one by one
  pub bitmap-word : (w : ℕ) → w ≡ get_or h (27 * i + 1 + 1) 0 → w ≡ (get_or (objects_in h) i zero_object).bitmap
  unfolding decoded
  bitmap-word w e = e ∙ sym (ap (λ (o : Object). o.bitmap) (object-words h i l))

  pub reserves-word : (n : ℕ) → n ≡ low (get_or h (27 * i + 1 + 2) 0) → n ≡ (get_or (objects_in h) i zero_object).reserved.count
  unfolding decoded
  reserves-word n e = e ∙ sym (ap (λ (o : Object). o.reserved.count) (object-words h i l))

  pub allows-word : (n : ℕ) → n ≡ high (get_or h (27 * i + 1 + 2) 0) → n ≡ (get_or (objects_in h) i zero_object).allow.count
  unfolding decoded
  allows-word n e = e ∙ sym (ap (λ (o : Object). o.allow.count) (object-words h i l))

  -- THE LAWS: the parts of a head from a to e that are its lists
  module _ (long : length h ≡ 865) (a e : ℕ) where
    pub starts-part : a ≡ 27 * i + 1 + 3 → e ≡ a + 4
        → (take (e - a) (drop a h) ≡ (get_or (objects_in h) i zero_object).reserved.starts) × (length (take (e - a) (drop a h)) ≡ 4)
    unfolding decoded
    starts-part p q =
        let n : e - a ≡ 4 = omega arith in
        let f : take (e - a) (drop a h) ≡ four_at h (27 * i + 1 + 3) = rw (n, p) (four h (27 * i + 1 + 3) (omega arith)) in
        (f ∙ sym (ap (λ (o : Object). o.reserved.starts) (object-words h i l)), ap length f)

    pub lasts-part : a ≡ 27 * i + 1 + 7 → e ≡ a + 4
        → (take (e - a) (drop a h) ≡ (get_or (objects_in h) i zero_object).reserved.lasts) × (length (take (e - a) (drop a h)) ≡ 4)
    unfolding decoded
    lasts-part p q =
        let n : e - a ≡ 4 = omega arith in
        let f : take (e - a) (drop a h) ≡ four_at h (27 * i + 1 + 7) = rw (n, p) (four h (27 * i + 1 + 7) (omega arith)) in
        (f ∙ sym (ap (λ (o : Object). o.reserved.lasts) (object-words h i l)), ap length f)

    pub froms-part : a ≡ 27 * i + 1 + 11 → e ≡ a + 8
        → (take (e - a) (drop a h) ≡ (get_or (objects_in h) i zero_object).allow.starts) × (length (take (e - a) (drop a h)) ≡ 8)
    unfolding decoded
    froms-part p q =
        let n : e - a ≡ 8 = omega arith in
        let f : take (e - a) (drop a h) ≡ eight_at h (27 * i + 1 + 11) = rw (n, p) (eight h (27 * i + 1 + 11) (omega arith)) in
        (f ∙ sym (ap (λ (o : Object). o.allow.starts) (object-words h i l)), ap length f)

    pub ends-part : a ≡ 27 * i + 1 + 19 → e ≡ a + 8
        → (take (e - a) (drop a h) ≡ (get_or (objects_in h) i zero_object).allow.lasts) × (length (take (e - a) (drop a h)) ≡ 8)
    unfolding decoded
    ends-part p q =
        let n : e - a ≡ 8 = omega arith in
        let f : take (e - a) (drop a h) ≡ eight_at h (27 * i + 1 + 19) = rw (n, p) (eight h (27 * i + 1 + 19) (omega arith)) in
        (f ∙ sym (ap (λ (o : Object). o.allow.lasts) (object-words h i l)), ap length f)

    -- two of its lists at once
    pub reserved-part : a ≡ 27 * i + 1 + 3 → e ≡ a + 8
        → take (e - a) (drop a h) ≡ (get_or (objects_in h) i zero_object).reserved.starts ++ (get_or (objects_in h) i zero_object).reserved.lasts
    unfolding decoded
    reserved-part p q =
        let n : e - a ≡ 8 = omega arith in
        rw (n, p)
        (row h 4 4 (27 * i + 1 + 3) (27 * i + 1 + 7) (omega arith)
        ∙ ap (λ (ws : List ℕ). ws ++ take 4 (drop (27 * i + 1 + 7) h)) (four h (27 * i + 1 + 3) (omega arith))
        ∙ ap (λ (ws : List ℕ). four_at h (27 * i + 1 + 3) ++ ws) (four h (27 * i + 1 + 7) (omega arith))
        ∙ sym (ap (λ (o : Object). o.reserved.starts ++ o.reserved.lasts) (object-words h i l)))

    pub allow-part : a ≡ 27 * i + 1 + 11 → e ≡ a + 16
        → take (e - a) (drop a h) ≡ (get_or (objects_in h) i zero_object).allow.starts ++ (get_or (objects_in h) i zero_object).allow.lasts
    unfolding decoded
    allow-part p q =
        let n : e - a ≡ 16 = omega arith in
        rw (n, p)
        (row h 8 8 (27 * i + 1 + 11) (27 * i + 1 + 19) (omega arith)
        ∙ ap (λ (ws : List ℕ). ws ++ take 8 (drop (27 * i + 1 + 19) h)) (eight h (27 * i + 1 + 11) (omega arith))
        ∙ ap (λ (ws : List ℕ). eight_at h (27 * i + 1 + 11) ++ ws) (eight h (27 * i + 1 + 19) (omega arith))
        ∙ sym (ap (λ (o : Object). o.allow.starts ++ o.allow.lasts) (object-words h i l)))
