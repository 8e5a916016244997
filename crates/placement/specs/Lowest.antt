-- `place_of` computes the lowest candidate. Below a candidate, each start that is none touches a range, and the start past that range is higher and still not past the candidate.
use Rattle.std.specs.Prelude.{ℕ, zero, suc, ◌+◌, ◌-◌, ◌≤◌, ◌<◌, min, ◌≡◌, Bool, true, false, not, ◌&&◌, cond, leb, ltb, Option, None, Some}
use Rattle.std.proofs.Common.{zero-le, sym, ◌∙◌}
use Rattle.std.proofs.Math.Path.{refl}
use mathlib.Core.List.{List, [], ◌∷◌, ◌++◌, map}
use native.Mathlib.Omega.{arith}
use borrow.Author.Tests.{leb-true, leb-false, le-leb, le-ltb, not-true}
use Rattle.lists.specs.Tests.{by-test, contrary, and_left, and_right, and_both, or_left, or_right, or_other}
use Rattle.lists.specs.Search.{any, any_append, any-nil, any-cons, find, find_none, find-some, find-some_any, find-any_true, find-cons_true, find-cons_false}
use Rattle.ranges.specs.declared.Range.{Range}
use Rattle.ranges.specs.Ranges.{share, shared_start, shared_last, inside, inside-from, inside-upto, passes, passes-false, last_of, span, span-some, U64MAX}
use Rattle.alignment.specs.Multiples.{multiple, round_up, Lowest, MultipleFrom, lowest_multiple, lowest-is}
use Rattle.placement.specs.Candidates.{Candidate, is_candidate, permits, starts, lower, lowest_of, place_of}

-- ---- from a place to a later one

module _ (n x y : ℕ) (h : x ≤ y) where
  pub ends-before : passes y n ≡ false → passes x n ≡ false
  unfolding passes
  ends-before p = le-ltb U64MAX (x + (n - 1)) (omega (arith, passes-false y n p))

  pub last-before : last_of x n ≤ last_of y n
  unfolding last_of
  last-before = omega arith

-- a window that holds the bytes from the later place on, and starts at or below the first
module _ (n y : ℕ) (w : Range) (e : inside (span y n) w ≡ true) where
  pub window_starts : w.start ≤ y
  unfolding span
  window_starts = inside-from (span y n) w e

  pub window_before : (x : ℕ) → x ≤ y → w.start ≤ x → inside (span x n) w ≡ true
  unfolding inside span
  window_before x h k =
      and_both (leb w.start x) (leb (last_of x n) w.last) (le-leb w.start x k) (le-leb (last_of x n) w.last (omega (arith, last-before n x y h, inside-upto (span y n) w e)))

-- a range that x touches reaches x
module _ (n x : ℕ) (q : Range) (e : share (span x n) q ≡ true) where
  pub touch_reaches : x ≤ q.last
  unfolding share shared_start shared_last span
  touch_reaches = let h = leb-true (shared_start (span x n) q) (shared_last (span x n) q) e in omega arith

  touch_starts : q.start ≤ last_of x n
  unfolding share shared_start shared_last span
  touch_starts = let h = leb-true (shared_start (span x n) q) (shared_last (span x n) q) e in omega arith

  touch_some : q.start ≤ q.last
  unfolding share shared_start shared_last span
  touch_some = let h = leb-true (shared_start (span x n) q) (shared_last (span x n) q) e in omega arith

  -- and it ends below every later place that does not touch it
  pub touch_ends : (y : ℕ) → x ≤ y → passes y n ≡ false → share (span y n) q ≡ false → q.last < y
  unfolding share shared_start shared_last span
  touch_ends y h p f =
      let l = leb-false (shared_start (span y n) q) (shared_last (span y n) q) f in
      let m = span-some y n (omega (arith, passes-false y n p)) in
      omega (arith, touch_starts, touch_some, last-before n x y h)

-- ---- the test and the record say the same

module _ (a n low : ℕ) (blocked allow : List Range) (x : ℕ) where
  pub is_candidate-is : is_candidate a n low blocked allow x ≡ true → Candidate a n low blocked allow x
  unfolding is_candidate
  is_candidate-is e =
      let m = and_right (multiple a x) _ e in
      let l = and_right (leb low x) _ m in
      let p = and_right (not (passes x n)) _ l in
      record {
        exact = and_left (multiple a x) _ e;
        from = leb-true low x (and_left (leb low x) _ m);
        ends = not-true (passes x n) (and_left (not (passes x n)) _ l);
        clear = not-true (any (share (span x n)) blocked) (and_left (not (any (share (span x n)) blocked)) _ p);
        permitted = and_right (not (any (share (span x n)) blocked)) _ p;
      }

  pub candidate_is : Candidate a n low blocked allow x → is_candidate a n low blocked allow x ≡ true
  unfolding is_candidate
  candidate_is c = rw (c.exact, le-leb low x c.from, c.ends, c.clear) c.permitted

-- ---- elements: any test that x passes is passed by some element

abbrev In : ℕ → List ℕ → Type 0
In x xs = (q : ℕ → Bool) → q x ≡ true → any q xs ≡ true

in_head : (x : ℕ) (xs : List ℕ) → In x (x ∷ xs)
in_head x xs q e = any-cons q x xs ∙ or_left (q x) (any q xs) e

in_tail : (x y : ℕ) (xs : List ℕ) → In x xs → In x (y ∷ xs)
in_tail x y xs h q e = any-cons q y xs ∙ or_right (q y) (any q xs) (h q e)

in_first : (x : ℕ) (xs ys : List ℕ) → In x xs → In x (xs ++ ys)
in_first x xs ys h q e = any_append q xs ys ∙ or_left (any q xs) (any q ys) (h q e)

In-second : (x : ℕ) (xs ys : List ℕ) → In x ys → In x (xs ++ ys)
In-second x xs ys h q e = any_append q xs ys ∙ or_right (any q xs) (any q ys) (h q e)

in_found : (p : Range → Bool) (g : Range → ℕ) (rs : List Range) (r : Range) → find p rs ≡ Some r → In (g r) (map g rs)
unfolding find
in_found p g [] r e q t = let z : ◌≡◌ {A = ℕ} 0 1 = cc in absurd (omega arith)
in_found p g (x ∷ rs) r e q t =
    by-test (p x)
    (λ w. let f = find-cons_true p x rs w in let same : x ≡ r = cc in rw same (in_head (g r) (map g rs) q t))
    (λ w. in_tail (g r) (g x) (map g rs) (in_found p g rs r (sym (find-cons_false p x rs w) ∙ e)) q t)

-- ---- the lowest of a list that passes: no element that passes is below it

module _ (p : ℕ → Bool) where
  up_to : ℕ → ℕ → Bool
  up_to n y = p y && leb y n

  up_to-of : (n y : ℕ) → p y ≡ true → y ≤ n → up_to n y ≡ true
  unfolding up_to
  up_to-of n y e h = and_both (p y) (leb y n) e (le-leb y n h)

  up_to-passes : (n y : ℕ) → up_to n y ≡ true → p y ≡ true
  unfolding up_to
  up_to-passes n y e = and_left (p y) (leb y n) e

  up_to-le : (n y : ℕ) → up_to n y ≡ true → y ≤ n
  unfolding up_to
  up_to-le n y e = leb-true y n (and_right (p y) (leb y n) e)

  abbrev LowestIn : List ℕ → Option ℕ → Type 0
  LowestIn xs (Some x) = (p x ≡ true) × ((n : ℕ) → any (up_to n) xs ≡ true → x ≤ n)
  LowestIn xs None = (n : ℕ) → any (up_to n) xs ≡ true → ⊥

  split : {C : Type 0} (n w : ℕ) (xs : List ℕ) → any (up_to n) (w ∷ xs) ≡ true → (up_to n w ≡ true → C) → (any (up_to n) xs ≡ true → C) → C
  split n w xs e f g = by-test (up_to n w) f (λ t. g (or_other (up_to n w) (any (up_to n) xs) (sym (any-cons (up_to n) w xs) ∙ e) t))

  step : (w : ℕ) (xs : List ℕ) (b : Bool) → p w ≡ b → (r : Option ℕ) → LowestIn xs r → LowestIn (w ∷ xs) (cond b (lower w r) r)
  step w xs false e None h = λ n t. split n w xs t (λ u. contrary (p w) (up_to-passes n w u) e) (λ u. h n u)
  step w xs false e (Some x) h = (h.0, λ n t. split n w xs t (λ u. contrary (p w) (up_to-passes n w u) e) (λ u. h.1 n u))
  step w xs true e None h = (e, λ n t. split n w xs t (λ u. up_to-le n w u) (λ u. absurd (h n u)))
  step w xs true e (Some x) h =
      by-test (leb w x)
      (λ q. let l = leb-true w x q in let m : min w x ≡ w = omega arith in rw m (e, λ n t. split n w xs t (λ u. up_to-le n w u) (λ u. omega (arith, h.1 n u))))
      (λ q. let l = leb-false w x q in let m : min w x ≡ x = omega arith in rw m (h.0, λ n t. split n w xs t (λ u. omega (arith, up_to-le n w u)) (λ u. h.1 n u)))

  lowest-in : (xs : List ℕ) → LowestIn xs (lowest_of p xs)
  unfolding lowest_of
  lowest-in [] = λ n t. contrary (any (up_to n) []) t (any-nil (up_to n))
  lowest-in (w ∷ xs) = step w xs (p w) refl (lowest_of p xs) (lowest-in xs)

-- ---- rounding up, below a multiple

record Rounded (a x y r : ℕ) : Type 0 where
  pub exact : multiple a r ≡ true
  pub from : x ≤ r
  pub upto : r ≤ y

rounded : (a x y : ℕ) → multiple a y ≡ true → x ≤ y → y < 0x1_0000_0000_0000_0000 → Rounded a x y (round_up a x)
unfolding lowest_multiple
rounded a x y e h b = go (multiple a (round_up a x) && ltb (round_up a x) 0x1_0000_0000_0000_0000) (lowest-is a x (omega arith))
  where
    here : MultipleFrom a x y
    here = record { exact = e; from = h; below = b }

    go : (t : Bool) → Lowest (MultipleFrom a x) (cond t (Some (round_up a x)) None) → Rounded a x y (round_up a x)
    go true l = record { exact = l.0.exact; from = l.0.from; upto = l.1 y here }
    go false l = absurd (l y here)

-- ---- what an allow list permits: everything, or what lies in one of its ranges

permits-cases : {C : Type 0} (qs : List Range) (r : Range) → permits qs r ≡ true → (((s : Range) → permits qs s ≡ true) → C) → ((w : Range) → find (inside r) qs ≡ Some w → C) → C
unfolding permits
permits-cases [] r e f g = f (λ s. refl)
permits-cases (q ∷ qs) r e f g = let w = find-any_true (inside r) (q ∷ qs) e in g w.0 w.1

permits-in : (qs : List Range) (p : Range → Bool) (w s : Range) → find p qs ≡ Some w → inside s w ≡ true → permits qs s ≡ true
unfolding permits
permits-in [] p w s e i = refl
permits-in (q ∷ qs) p w s e i =
    by-test (any (inside s) (q ∷ qs))
    (λ t. t)
    (λ t. contrary (inside s w) i (find-some_any p (inside s) (q ∷ qs) w e t))

-- ---- the climb to a candidate y: from a start s at or below it, some start is a candidate at or below it

module _ (a n low : ℕ) (blocked allow : List Range) (y : ℕ) (c : Candidate a n low blocked allow y) where
  below : y < 0x1_0000_0000_0000_0000
  below = omega (arith, passes-false y n c.ends)

  -- one of the starts is a candidate, and at most y
  abbrev Started : Type 0
  Started = any (up_to (is_candidate a n low blocked allow) y) (starts a low blocked allow) ≡ true

  in_low : In (round_up a low) (starts a low blocked allow)
  unfolding starts
  in_low = in_head (round_up a low) _

  in_allow : (p : Range → Bool) (w : Range) → find p allow ≡ Some w → In (round_up a w.start) (starts a low blocked allow)
  unfolding starts
  in_allow p w e = in_tail _ _ _ (in_first _ (map (λ (q : Range). round_up a q.start) allow) (map (λ (r : Range). round_up a (r.last + 1)) blocked) (in_found p (λ (q : Range). round_up a q.start) allow w e))

  in_past : (p : Range → Bool) (r : Range) → find p blocked ≡ Some r → In (round_up a (r.last + 1)) (starts a low blocked allow)
  unfolding starts
  in_past p r e = in_tail _ _ _ (In-second _ (map (λ (q : Range). round_up a q.start) allow) (map (λ (r : Range). round_up a (r.last + 1)) blocked) (in_found p (λ (r : Range). round_up a (r.last + 1)) blocked r e))

  -- from f on up to y every place is permitted
  module _ (f : ℕ) (ok : (z : ℕ) → f ≤ z → z ≤ y → permits allow (span z n) ≡ true) where
    climb : (fuel s : ℕ) → y < s + fuel → In s (starts a low blocked allow) → multiple a s ≡ true → low ≤ s → f ≤ s → s ≤ y → Started
    climb zero s h i m l k u = absurd (omega arith)
    climb (suc fuel) s h i m l k u = go (find (share (span s n)) blocked) refl (climb fuel)
      where
        go : (o : Option Range) → find (share (span s n)) blocked ≡ o → ((t : ℕ) → y < t + fuel → In t (starts a low blocked allow) → multiple a t ≡ true → low ≤ t → f ≤ t → t ≤ y → Started) → Started
        go None e rec =
            i (up_to (is_candidate a n low blocked allow) y)
            (up_to-of (is_candidate a n low blocked allow) y s
            (candidate_is a n low blocked allow s (record { exact = m; from = l; ends = ends-before n s y u c.ends; clear = find_none (share (span s n)) blocked e; permitted = ok s k u }))
            u)
        go (Some r) e rec =
            let t = find-some (share (span s n)) blocked r e in
            let v = touch_reaches n s r t in
            let w = touch_ends n s r t y u c.ends (find-some_any (share (span s n)) (share (span y n)) blocked r e c.clear) in
            let q = rounded a (r.last + 1) y c.exact (omega arith) below in
            rec (round_up a (r.last + 1)) (omega (arith, q.from)) (in_past (share (span s n)) r e) q.exact (omega (arith, q.from)) (omega (arith, q.from)) q.upto

    -- from a number whose multiple is a start
    climb-from : (s : ℕ) → low ≤ s → f ≤ s → s ≤ y → In (round_up a s) (starts a low blocked allow) → Started
    climb-from s l k u i =
        let q = rounded a s y c.exact u below in
        climb (suc y) (round_up a s) (omega (arith, q.from)) i q.exact (omega (arith, q.from)) (omega (arith, q.from)) q.upto

  some-start : Started
  some-start = permits-cases allow (span y n) c.permitted (λ all. climb-from 0 (λ z h k. all (span z n)) low (omega arith) zero-le c.from in_low) in_window-candidate
    where
      in_window-candidate : (w : Range) → find (inside (span y n)) allow ≡ Some w → Started
      in_window-candidate w e =
          let i = find-some (inside (span y n)) allow w e in
          let ok : (z : ℕ) → w.start ≤ z → z ≤ y → permits allow (span z n) ≡ true =
          λ z h k. permits-in allow (inside (span y n)) w (span z n) e (window_before n y w i z k h) in
          by-test (leb low w.start)
          (λ t. climb-from w.start ok w.start (leb-true low w.start t) (omega arith) (window_starts n y w i) (in_allow (inside (span y n)) w e))
          (λ t. climb-from w.start ok low (omega arith) (omega (arith, leb-false low w.start t)) c.from in_low)

-- THE LAW: it is the lowest candidate, or there is none. For every alignment: of 0 only 0 is a multiple
pub place-lowest : (a n low : ℕ) (blocked allow : List Range) → Lowest (Candidate a n low blocked allow) (place_of a n low blocked allow)
unfolding place_of
place-lowest a n low blocked allow = go (lowest_of (is_candidate a n low blocked allow) (starts a low blocked allow)) (lowest-in (is_candidate a n low blocked allow) (starts a low blocked allow))
  where
    go : (o : Option ℕ) → LowestIn (is_candidate a n low blocked allow) (starts a low blocked allow) o → Lowest (Candidate a n low blocked allow) o
    go (Some x) h = (is_candidate-is a n low blocked allow x h.0, λ y c. h.1 y (some-start a n low blocked allow y c))
    go None h = λ y c. h y (some-start a n low blocked allow y c)
