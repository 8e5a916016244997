-- `longestOf` computes the longest run. For a run from y on in a window, `place-lowest` gives a start at or below y that is a candidate for as many bytes: the run from there is as long.
use Prim.Native.Nat.{ℕ, ◌+◌, ◌-◌, ◌≤◌, ◌<◌, zero-le, min}
use Rattle.std.specs.Prelude.{◌≡◌, Bool, ◌&&◌, ltb, eqb, Option, None, Some}
use Rattle.std.proofs.Math.Path.{refl, subst}
use Rattle.std.proofs.Common.{sym, ap, ◌∙◌}
use Rattle.std.proofs.Math.Bool.{true, false, cond}
use mathlib.Core.List.{List, [], ◌∷◌, ◌++◌, map}
use native.Mathlib.Omega.{arith}
use Rattle.std.proofs.Math.Dec.{leb}
use borrow.Author.Tests.{leb-true, leb-false, le-leb, lt-leb, lt-ltb, le-ltb, ltb-true, ltb-false, eqb-true, eq-eqb}
use Rattle.lists.specs.Tests.{by-test, contrary, and_left, and_right, and_both, or_left, or_right, or_other, or_not_left, or_not_right, or_neither}
use Rattle.lists.specs.Search.{any, any-cons, any_none, any-mono}
use Rattle.lists.specs.Each.{Each, Each-imp}
use Rattle.lists.specs.Update.{any-map}
use Rattle.ranges.specs.declared.Range.{Range}
use Rattle.ranges.specs.Ranges.{U64MAX, range, share, shared_start, shared_last, inside, inside-from, inside-upto, passes, passes-false, last_of, last_of-max, span}
use Rattle.ranges.proofs.Spans.{span_last}
use Rattle.alignment.specs.Multiples.{multiple, round_up, Lowest, lowest_multiple}
use Rattle.placement.specs.Candidates.{permits, Candidate, is_candidate, starts, lower, lowest_of, place_of}
use Rattle.placement.specs.Lowest.{is_candidate-is, candidate_is, place-lowest}
use Rattle.runs.specs.declared.Run.{Run}
use Rattle.runs.specs.Runs.{run, Free, Longest, ahead, better, cut_at, free_to, up_to, run_at, run_from, over, past_range, in_window, windows, longest_of}

-- ---- the better of two is at least as good as each

-- r is as good as a run of l + 1 from y
abbrev Beats : Option Run → ℕ → ℕ → Type 0
Beats None y l = ⊥
Beats (Some x) y l = (l ≤ x.more) × (l ≡ x.more → x.start ≤ y)

ahead-true : (x k y l : ℕ) → ahead x k y l ≡ true → (l ≤ k) × (l ≡ k → x ≤ y)
unfolding ahead
ahead-true x k y l e =
    by-test (ltb l k)
    (λ t. let h = ltb-true l k t in (omega arith, λ q. omega arith))
    (λ t. let r = or_other (ltb l k) (eqb l k && leb x y) e t in let p = eqb-true l k (and_left (eqb l k) (leb x y) r) in let q = leb-true x y (and_right (eqb l k) (leb x y) r) in (omega arith, λ z. q))

ahead-false : (x k y l : ℕ) → ahead x k y l ≡ false → (k ≤ l) × (k ≡ l → y ≤ x)
unfolding ahead
ahead-false x k y l e =
    let h = ltb-false l k (or_not_left (ltb l k) (eqb l k && leb x y) e) in (
      h,
      λ q.
          by-test (leb x y)
          (λ t. contrary (eqb l k && leb x y) (and_both (eqb l k) (leb x y) (eq-eqb l k (sym q)) t) (or_not_right (ltb l k) (eqb l k && leb x y) e))
          (λ t. let m = leb-false x y t in omega arith),
    )

better-first : (r s : Option Run) (y l : ℕ) → Beats r y l → Beats (better r s) y l
better-first None s y l h = absurd h
better-first (Some x) None y l h = h
better-first (Some x) (Some z) y l h =
    by-test (ahead x.start x.more z.start z.more)
    (λ t. rw t h)
    (λ t. let f = ahead-false x.start x.more z.start z.more t in rw t (omega (arith, f.0, h.0), λ q. let a : x.more ≡ z.more = omega (arith, f.0, h.0, q) in let b : l ≡ x.more = omega arith in omega (arith, f.1 a, h.1 b)))

better-second : (r s : Option Run) (y l : ℕ) → Beats s y l → Beats (better r s) y l
better-second None s y l h = h
better-second (Some x) None y l h = absurd h
better-second (Some x) (Some z) y l h =
    by-test (ahead x.start x.more z.start z.more)
    (λ t. let f = ahead-true x.start x.more z.start z.more t in rw t (omega (arith, f.0, h.0), λ q. let a : z.more ≡ x.more = omega (arith, f.0, h.0, q) in let b : l ≡ z.more = omega arith in omega (arith, f.1 a, h.1 b)))
    (λ t. rw t h)

-- and it is one of the two
better-one : (P : Option Run → Type 0) (r s : Option Run) → P r → P s → P (better r s)
better-one P None s h k = k
better-one P (Some x) None h q = h
better-one P (Some x) (Some z) h q = by-test (ahead x.start x.more z.start z.more) (λ t. rw t h) (λ t. rw t q)

-- ---- one after another

module _ {A : Type 0} (g : Option Run → A → Option Run) where
  -- what is kept by each is kept by all
  over-keeps : (P : Option Run → Type 0) (Q : A → Type 0) (r : Option Run) (xs : List A) → ((r : Option Run) (x : A) → Q x → P r → P (g r x)) → Each Q xs → P r → P (over g r xs)
  unfolding over
  over-keeps P Q r [] f e h = h
  over-keeps P Q r (x ∷ xs) f e h = over-keeps P Q (g r x) xs f e.1 (f r x e.0 h)

  over-all : (P : Option Run → Type 0) (r : Option Run) (xs : List A) → ((r : Option Run) (x : A) → P r → P (g r x)) → P r → P (over g r xs)
  unfolding over
  over-all P r [] f h = h
  over-all P r (x ∷ xs) f h = over-all P (g r x) xs f (f r x h)

  -- what one brings and each keeps
  over-brings : (P : Option Run → Type 0) (q : A → Bool) (r : Option Run) (xs : List A) → ((r : Option Run) (x : A) → P r → P (g r x)) → ((r : Option Run) (x : A) → q x ≡ true → P (g r x)) → any q xs ≡ true → P (over g r xs)
  unfolding over any
  over-brings P q r [] f b e = contrary (any q []) e refl
  over-brings P q r (x ∷ xs) f b e =
      by-test (q x)
      (λ t. over-all P (g r x) xs f (b r x t))
      (λ t. over-brings P q (g r x) xs f b (or_other (q x) (any q xs) (sym (any-cons q x xs) ∙ e) t))

-- ---- where the free addresses from x on end

module _ (x e : ℕ) (q : Range) where
  cut_down : x ≤ e → share (range x x) q ≡ false → (x ≤ cut_at e x q) × (cut_at e x q ≤ e)
  unfolding cut_at
  cut_down h f =
      by-test (ltb x q.start && leb q.start q.last)
      (λ t. let a = ltb-true x q.start (and_left (ltb x q.start) (leb q.start q.last) t) in rw t (omega arith, omega arith))
      (λ t. rw t (h, omega arith))

  cut-clear : (l : ℕ) → share (range x x) q ≡ false → x ≤ l → l ≤ cut_at e x q → share (range x l) q ≡ false
  unfolding cut_at share shared_start shared_last
  cut-clear l f h k =
      let s = leb-false (shared_start (range x x) q) (shared_last (range x x) q) f in
      lt-leb (shared_start (range x l) q) (shared_last (range x l) q)
      (by-test (ltb x q.start)
      (λ t. by-test (leb q.start q.last)
      (λ u. let a = ltb-true x q.start t in let m : l ≤ min e (q.start - 1) = subst (λ (b : Bool). l ≤ cond b (min e (q.start - 1)) e) (and_both (ltb x q.start) (leb q.start q.last) t u) k in omega arith)
      (λ u. let a = leb-false q.start q.last u in omega arith))
      (λ t. let a = ltb-false x q.start t in omega arith))

  cut_keeps : (l : ℕ) → x ≤ l → l ≤ e → share (range x l) q ≡ false → (share (range x x) q ≡ false) × (l ≤ cut_at e x q)
  unfolding cut_at share shared_start shared_last
  cut_keeps l h k f =
      let s = leb-false (shared_start (range x l) q) (shared_last (range x l) q) f in (
        lt-leb (shared_start (range x x) q) (shared_last (range x x) q) (omega arith),
        by-test (ltb x q.start && leb q.start q.last)
            (λ t. let a = ltb-true x q.start (and_left (ltb x q.start) (leb q.start q.last) t) in let b = leb-true q.start q.last (and_right (ltb x q.start) (leb q.start q.last) t) in rw t (omega arith))
            (λ t. rw t k),
      )

-- up to z no address from x on is in a range
pub record FreeTo (x e : ℕ) (qs : List Range) (z : ℕ) : Type 0 where
  pub from : x ≤ z
  pub upto : z ≤ e
  pub clear : (l : ℕ) → x ≤ l → l ≤ z → any (share (range x l)) qs ≡ false

pub free-sound : (x e : ℕ) (qs : List Range) (z : ℕ) → x ≤ e → free_to e x qs ≡ Some z → FreeTo x e qs z
unfolding free_to any
free-sound x e [] z h q = let s : e ≡ z = cc in record { from = omega arith; upto = omega arith; clear = λ l a b. refl }
free-sound x e (q ∷ qs) z h f =
    by-test (share (range x x) q)
    (λ t. let g : None ≡ Some z = sym (rw t) ∙ f in let c : ◌≡◌ {A = ℕ} 0 1 = cc in absurd (omega arith))
    (λ t.
    let g : free_to (cut_at e x q) x qs ≡ Some z = sym (rw t) ∙ f in
    let d = cut_down x e q h t in
    let r = free-sound x (cut_at e x q) qs z d.0 g in
    record { from = r.from; upto = omega (arith, r.upto, d.1); clear = λ l a b. or_neither (share (range x l) q) (any (share (range x l)) qs) (cut-clear x e q l t a (omega (arith, r.upto))) (r.clear l a b) })

pub free-most : (x e : ℕ) (qs : List Range) (l : ℕ) → x ≤ l → l ≤ e → any (share (range x l)) qs ≡ false → (z : ℕ) × (free_to e x qs ≡ Some z) × (l ≤ z)
unfolding free_to any
free-most x e [] l h k f = (e, refl, k)
free-most x e (q ∷ qs) l h k f =
    let c = cut_keeps x e q l h k (or_not_left (share (range x l) q) (any (share (range x l)) qs) f) in
    let r = free-most x (cut_at e x q) qs l h c.1 (or_not_right (share (range x l) q) (any (share (range x l)) qs) f) in
    (r.0, rw c.0 r.1, r.2)

-- ---- the run from a start

pub multiple-at : (a u x : ℕ) → lowest_multiple a u ≡ Some x → (multiple a x ≡ true) × (x ≤ U64MAX)
unfolding lowest_multiple
multiple-at a u x e =
    by-test (multiple a (round_up a u) && ltb (round_up a u) 0x1_0000_0000_0000_0000)
    (λ t.
    let f : Some (round_up a u) ≡ Some x = sym (rw t) ∙ e in
    let s : round_up a u ≡ x = cc in
    let l = ltb-true (round_up a u) 0x1_0000_0000_0000_0000 (and_right (multiple a (round_up a u)) (ltb (round_up a u) 0x1_0000_0000_0000_0000) t) in
    (ap (multiple a) (sym s) ∙ and_left (multiple a (round_up a u)) (ltb (round_up a u) 0x1_0000_0000_0000_0000) t, omega arith))
    (λ t. let f : None ≡ Some x = sym (rw t) ∙ e in let z : ◌≡◌ {A = ℕ} 0 1 = cc in absurd (omega arith))

ends_of : (x n : ℕ) → x + (n - 1) ≤ U64MAX → passes x n ≡ false
unfolding passes
ends_of x n h = le-ltb U64MAX (x + (n - 1)) h

inside-range : (x l : ℕ) (w : Range) → w.start ≤ x → l ≤ w.last → inside (range x l) w ≡ true
unfolding inside
inside-range x l w h k = and_both (leb w.start x) (leb l w.last) (le-leb w.start x h) (le-leb l w.last k)

module _ (a low : ℕ) (blocked allow : List Range) where
  -- what is told is a run
  abbrev Sound : Option Run → Type 0
  Sound None = Unit {0}
  Sound (Some x) = Free a low blocked allow x.start (x.more + 1)

  -- what lies in the window is permitted
  abbrev Window : Range → Type 0
  Window w = (r : Range) → inside r w ≡ true → permits allow r ≡ true

  up_to-sound : (w : Range) → Window w → (x : ℕ) → multiple a x ≡ true → low ≤ x → x ≤ U64MAX → w.start ≤ x → x ≤ w.last → (s : Option ℕ) → free_to U64MAX x blocked ≡ s → Sound (up_to x w s)
  up_to-sound w p x m h b i j None f = tt
  up_to-sound w p x m h b i j (Some z) f =
      let r = free-sound x U64MAX blocked z b f in
      let k = min z w.last - x in
      let u : x + (k + 1 - 1) ≤ z = omega (arith, r.from) in
      let v : x + (k + 1 - 1) ≤ w.last = omega (arith, r.from) in
      let e = ends_of x (k + 1) (omega (arith, r.upto)) in
      let s : span x (k + 1) ≡ range x (x + (k + 1 - 1)) = span_last x (k + 1) e in
      record {
        some = omega arith;
        free = record {
          exact = m;
          from = h;
          ends = e;
          clear = rw s (r.clear (x + (k + 1 - 1)) (omega arith) u);
          permitted = rw s (p (range x (x + (k + 1 - 1))) (inside-range x (x + (k + 1 - 1)) w i v));
        };
      }

  run_at-sound : (w : Range) → Window w → (u : ℕ) (s : Option ℕ) → lowest_multiple a u ≡ s → Sound (run_at low blocked w s)
  run_at-sound w p u None e = tt
  run_at-sound w p u (Some x) e =
      by-test (leb low x && (leb w.start x && leb x w.last))
      (λ t.
      let m = multiple-at a u x e in
      let v = and_right (leb low x) (leb w.start x && leb x w.last) t in
      rw t
      (up_to-sound w p x m.0 (leb-true low x (and_left (leb low x) (leb w.start x && leb x w.last) t)) m.1
      (leb-true w.start x (and_left (leb w.start x) (leb x w.last) v)) (leb-true x w.last (and_right (leb w.start x) (leb x w.last) v)) (free_to U64MAX x blocked) refl))
      (λ t. rw t tt)

  run_sound : (w : Range) → Window w → (u : ℕ) → Sound (run_from a low blocked w u)
  unfolding run_from
  run_sound w p u = run_at-sound w p u (lowest_multiple a u) refl

  window_sound : (w : Range) → Window w → (r : Option Run) → Sound r → Sound (in_window a low blocked r w)
  unfolding in_window past_range
  window_sound w p r h =
      over-all (past_range a low blocked w) Sound (better (better r (run_from a low blocked w low)) (run_from a low blocked w w.start)) blocked
      (λ s q k. better-one Sound s (run_from a low blocked w (q.last + 1)) k (run_sound w p (q.last + 1)))
      (better-one Sound (better r (run_from a low blocked w low)) (run_from a low blocked w w.start) (better-one Sound r (run_from a low blocked w low) h (run_sound w p low)) (run_sound w p w.start))

in_each : (qs : List Range) → Each (λ (w : Range). (p : Range → Bool) → p w ≡ true → any p qs ≡ true) qs
in_each [] = tt
in_each (q ∷ qs) = (λ p e. any-cons p q qs ∙ or_left (p q) (any p qs) e, Each-imp _ _ qs (λ w h p e. any-cons p q qs ∙ or_right (p q) (any p qs) (h p e)) (in_each qs))

windows-each : (allow : List Range) → Each (λ (w : Range). (r : Range) → inside r w ≡ true → permits allow r ≡ true) (windows allow)
unfolding windows permits
windows-each [] = (λ r e. refl, tt)
windows-each (q ∷ qs) = Each-imp _ _ (q ∷ qs) (λ w h r e. h (inside r) e) (in_each (q ∷ qs))

longest_sound : (a low : ℕ) (blocked allow : List Range) → Sound a low blocked allow (longest_of a low blocked allow)
unfolding longest_of
longest_sound a low blocked allow =
    over-keeps (in_window a low blocked) (Sound a low blocked allow) (Window a low blocked allow) None (windows allow) (λ r w p h. window_sound a low blocked allow w p r h) (windows-each allow) tt

-- ---- no run is better

lower-cases : {C : Type 0} (y x : ℕ) (s : Option ℕ) → lower y s ≡ Some x → (y ≡ x → C) → (s ≡ Some x → C) → C
lower-cases y x None e f g = let z : y ≡ x = cc in f z
lower-cases y x (Some v) e f g =
    let z : min y v ≡ x = cc in
    by-test (leb y v) (λ t. let h = leb-true y v t in f (omega arith)) (λ t. let h = leb-false y v t in let k : v ≡ x = omega arith in g (ap Some k))

lowest-any : (p q : ℕ → Bool) (xs : List ℕ) (x : ℕ) → lowest_of p xs ≡ Some x → q x ≡ true → any q xs ≡ true
unfolding lowest_of
lowest-any p q [] x e t = let z : ◌≡◌ {A = ℕ} 0 1 = cc in absurd (omega arith)
lowest-any p q (y ∷ xs) x e t =
    let rec = lowest-any p q xs x in
    by-test (p y)
    (λ u. lower-cases y x (lowest_of p xs) (sym (rw u) ∙ e) (λ z. any-cons q y xs ∙ or_left (q y) (any q xs) (rw z t)) (λ z. any-cons q y xs ∙ or_right (q y) (any q xs) (rec z t)))
    (λ u. any-cons q y xs ∙ or_right (q y) (any q xs) (rec (sym (rw u) ∙ e) t))

permits-one : (w r : Range) → inside r w ≡ true → permits (w ∷ []) r ≡ true
unfolding permits any
permits-one w r e = or_left (inside r w) false e

permits-only : (w r : Range) → permits (w ∷ []) r ≡ true → inside r w ≡ true
unfolding permits any
permits-only w r e = by-test (inside r w) (λ t. t) (λ t. contrary false (or_other (inside r w) false e t) refl)

module _ (a n low : ℕ) (blocked : List Range) (y : ℕ) where
  -- x is a candidate in the window, at or below y
  suits : Range → ℕ → Bool
  suits w x = is_candidate a n low blocked (w ∷ []) x && leb x y

  some-suits : (w : Range) → Candidate a n low blocked (w ∷ []) y → any (suits w) (starts a low blocked (w ∷ [])) ≡ true
  unfolding suits place_of
  some-suits w c = go (lowest_of (is_candidate a n low blocked (w ∷ [])) (starts a low blocked (w ∷ []))) refl (place-lowest a n low blocked (w ∷ []))
    where
      go : (s : Option ℕ) → lowest_of (is_candidate a n low blocked (w ∷ [])) (starts a low blocked (w ∷ [])) ≡ s → Lowest (Candidate a n low blocked (w ∷ [])) s → any (suits w) (starts a low blocked (w ∷ [])) ≡ true
      go None e l = absurd (l y c)
      go (Some x) e l =
          lowest-any (is_candidate a n low blocked (w ∷ [])) (suits w) (starts a low blocked (w ∷ [])) x e
          (and_both (is_candidate a n low blocked (w ∷ []) x) (leb x y) (candidate_is a n low blocked (w ∷ []) x l.0) (le-leb x y (l.1 y c)))

  starts-rest : (w : Range) → suits w (round_up a low) ≡ false → suits w (round_up a w.start) ≡ false → any (suits w) (starts a low blocked (w ∷ [])) ≡ true
      → any (suits w) (map (λ (q : Range). round_up a (q.last + 1)) blocked) ≡ true
  unfolding starts any
  starts-rest w t v e = or_other (suits w (round_up a w.start)) _ (or_other (suits w (round_up a low)) _ e t) v

  -- the run from such a start is as good
  module _ (w : Range) (u : ℕ) (t : suits w (round_up a u) ≡ true) where
    here : Candidate a n low blocked (w ∷ []) (round_up a u)
    unfolding suits
    here = is_candidate-is a n low blocked (w ∷ []) (round_up a u) (and_left (is_candidate a n low blocked (w ∷ []) (round_up a u)) (leb (round_up a u) y) t)

    here-upto : round_up a u ≤ y
    unfolding suits
    here-upto = leb-true (round_up a u) y (and_right (is_candidate a n low blocked (w ∷ []) (round_up a u)) (leb (round_up a u) y) t)

    here-span : span (round_up a u) n ≡ range (round_up a u) (round_up a u + (n - 1))
    here-span = span_last (round_up a u) n here.ends

    here-inside : inside (range (round_up a u) (round_up a u + (n - 1))) w ≡ true
    here-inside = rw (← here-span) (permits-only w (span (round_up a u) n) here.permitted)

    here-at : lowest_multiple a u ≡ Some (round_up a u)
    unfolding lowest_multiple
    here-at = rw (here.exact, lt-ltb (round_up a u) 0x1_0000_0000_0000_0000 (omega (arith, passes-false (round_up a u) n here.ends)))

    here-first : (leb low (round_up a u) && (leb w.start (round_up a u) && leb (round_up a u) w.last)) ≡ true
    here-first =
        let i = inside-from (range (round_up a u) (round_up a u + (n - 1))) w here-inside in
        let j = inside-upto (range (round_up a u) (round_up a u + (n - 1))) w here-inside in
        rw (le-leb low (round_up a u) here.from, le-leb w.start (round_up a u) i, le-leb (round_up a u) w.last (omega arith))

    here-free : (z : ℕ) × (free_to U64MAX (round_up a u) blocked ≡ Some z) × (round_up a u + (n - 1) ≤ z)
    here-free =
        free-most (round_up a u) U64MAX blocked (round_up a u + (n - 1)) (omega arith) (passes-false (round_up a u) n here.ends) (rw (← here-span) here.clear)

    from-beats : Beats (run_from a low blocked w u) y (n - 1)
    unfolding run_from
    from-beats =
        let j = inside-upto (range (round_up a u) (round_up a u + (n - 1))) w here-inside in
        rw (here-at, here-first, here-free.1) (omega (arith, here-free.2), λ e. here-upto)

  window_keeps : (w : Range) (r : Option Run) → Beats r y (n - 1) → Beats (in_window a low blocked r w) y (n - 1)
  unfolding in_window past_range
  window_keeps w r h =
      over-all (past_range a low blocked w) (λ (s : Option Run). Beats s y (n - 1)) (better (better r (run_from a low blocked w low)) (run_from a low blocked w w.start)) blocked
      (λ s q k. better-first s (run_from a low blocked w (q.last + 1)) y (n - 1) k)
      (better-first (better r (run_from a low blocked w low)) (run_from a low blocked w w.start) y (n - 1) (better-first r (run_from a low blocked w low) y (n - 1) h))

  window_brings : (w : Range) (r : Option Run) → Candidate a n low blocked (w ∷ []) y → Beats (in_window a low blocked r w) y (n - 1)
  unfolding in_window past_range
  window_brings w r c =
      by-test (suits w (round_up a low))
      (λ t. all (better-first (better r (run_from a low blocked w low)) (run_from a low blocked w w.start) y (n - 1) (better-second r (run_from a low blocked w low) y (n - 1) (from-beats w low t))))
      (λ t.
      by-test (suits w (round_up a w.start))
      (λ v. all (better-second (better r (run_from a low blocked w low)) (run_from a low blocked w w.start) y (n - 1) (from-beats w w.start v)))
      (λ v.
      over-brings (past_range a low blocked w) (λ (s : Option Run). Beats s y (n - 1)) (λ (q : Range). suits w (round_up a (q.last + 1))) (better (better r (run_from a low blocked w low)) (run_from a low blocked w w.start)) blocked
      keep
      (λ s q e. better-second s (run_from a low blocked w (q.last + 1)) y (n - 1) (from-beats w (q.last + 1) e))
      (past t v)))
    where
      keep : (s : Option Run) (q : Range) → Beats s y (n - 1) → Beats (better s (run_from a low blocked w (q.last + 1))) y (n - 1)
      keep s q k = better-first s (run_from a low blocked w (q.last + 1)) y (n - 1) k

      all : Beats (better (better r (run_from a low blocked w low)) (run_from a low blocked w w.start)) y (n - 1) → Beats (over (past_range a low blocked w) (better (better r (run_from a low blocked w low)) (run_from a low blocked w w.start)) blocked) y (n - 1)
      all h = over-all (past_range a low blocked w) (λ (s : Option Run). Beats s y (n - 1)) (better (better r (run_from a low blocked w low)) (run_from a low blocked w w.start)) blocked keep h

      past : suits w (round_up a low) ≡ false → suits w (round_up a w.start) ≡ false → any (λ (q : Range). suits w (round_up a (q.last + 1))) blocked ≡ true
      past t v = sym (any-map (suits w) (λ (q : Range). round_up a (q.last + 1)) blocked) ∙ starts-rest w t v (some-suits w c)

  in_window-candidate : (allow : List Range) → Candidate a n low blocked allow y → (w : Range) → inside (span y n) w ≡ true → Candidate a n low blocked (w ∷ []) y
  in_window-candidate allow c w i = record { exact = c.exact; from = c.from; ends = c.ends; clear = c.clear; permitted = permits-one w (span y n) i }

  everywhere : inside (span y n) (range 0 U64MAX) ≡ true
  unfolding span
  everywhere = inside-range y (last_of y n) (range 0 U64MAX) zero-le (last_of-max y n)

  windows-any : (allow : List Range) → permits allow (span y n) ≡ true → any (inside (span y n)) (windows allow) ≡ true
  unfolding windows permits any
  windows-any [] e = or_left (inside (span y n) (range 0 U64MAX)) false everywhere
  windows-any (q ∷ qs) e = e

  longest_beats : (allow : List Range) → Candidate a n low blocked allow y → Beats (longest_of a low blocked allow) y (n - 1)
  unfolding longest_of
  longest_beats allow c =
      over-brings (in_window a low blocked) (λ (s : Option Run). Beats s y (n - 1)) (inside (span y n)) None (windows allow)
      (λ r w h. window_keeps w r h)
      (λ r w e. window_brings w r (in_window-candidate allow c w e))
      (windows-any allow c.permitted)

-- ---- THE LAW: it is the longest run, or there is none

pub longest_is : (a low : ℕ) (blocked allow : List Range) → Longest a low blocked allow (longest_of a low blocked allow)
longest_is a low blocked allow = go (longest_of a low blocked allow) (longest_sound a low blocked allow) (λ y n h. longest_beats a n low blocked y allow h.free)
  where
    go : (r : Option Run) → Sound a low blocked allow r → ((y n : ℕ) → Free a low blocked allow y n → Beats r y (n - 1)) → Longest a low blocked allow r
    go None s b = λ y n h. b y n h
    go (Some x) s b = record { run = s; most = λ y n h. omega (arith, h.some, (b y n h).0); least = λ y h. (b y (x.more + 1) h).1 (omega arith) }

module _ (a low : ℕ) (blocked allow : List Range) where
  -- the relation fixes the answer
  pub longest_unique : (r s : Option Run) → Longest a low blocked allow r → Longest a low blocked allow s → r ≡ s
  longest_unique None None h k = refl
  longest_unique None (Some y) h k = absurd (h y.start (y.more + 1) k.run)
  longest_unique (Some x) None h q = absurd (q x.start (x.more + 1) h.run)
  longest_unique (Some x) (Some y) h q =
      let e : x.more ≡ y.more = omega (arith, h.most y.start (y.more + 1) q.run, q.most x.start (x.more + 1) h.run) in
      let f : x.start ≡ y.start = omega (arith, h.least y.start (subst (λ (i : ℕ). Free a low blocked allow y.start (i + 1)) (sym e) q.run), q.least x.start (subst (λ (i : ℕ). Free a low blocked allow x.start (i + 1)) e h.run)) in
      ap (λ (k : ℕ). Some (run x.start k)) e ∙ ap (λ (s : ℕ). Some (run s y.more)) f

-- ---- a shorter run from the same start

module _ (a low : ℕ) (blocked : List Range) (x n m : ℕ) (h : n ≤ m) where
  shorter-last : last_of x n ≤ last_of x m
  unfolding last_of
  shorter-last = omega arith

  shorter-share : (q : Range) → share (span x n) q ≡ true → share (span x m) q ≡ true
  unfolding share shared_start shared_last span
  shorter-share q e =
      let h = leb-true (shared_start (span x n) q) (shared_last (span x n) q) e in
      le-leb (shared_start (span x m) q) (shared_last (span x m) q) (omega (arith, shorter-last))

  shorter-within : (w : Range) → inside (span x m) w ≡ true → inside (span x n) w ≡ true
  unfolding span
  shorter-within w e = inside-range x (last_of x n) w (inside-from (span x m) w e) (omega (arith, shorter-last, inside-upto (span x m) w e))

  shorter-permits : (allow : List Range) → permits allow (span x m) ≡ true → permits allow (span x n) ≡ true
  unfolding permits
  shorter-permits [] e = refl
  shorter-permits (q ∷ qs) e = any-mono (inside (span x m)) (inside (span x n)) (q ∷ qs) shorter-within e

  pub shorter : (allow : List Range) → Candidate a m low blocked allow x → Candidate a n low blocked allow x
  shorter allow c = record {
    exact = c.exact;
    from = c.from;
    ends = ends_of x n (omega (arith, passes-false x m c.ends));
    clear = any_none (share (span x n)) (share (span x m)) blocked shorter-share c.clear;
    permitted = shorter-permits allow c.permitted;
  }

-- ---- where n bytes have no place, every run is shorter: so the length of the longest fits

module _ (a low : ℕ) (blocked allow : List Range) where
  pub run-shorter : (n : ℕ) → place_of a n low blocked allow ≡ None → (x m : ℕ) → Free a low blocked allow x m → m < n
  run-shorter n e x m r =
      by-test (leb n m)
      (λ t. absurd (subst (λ (s : Option ℕ). Lowest (Candidate a n low blocked allow) s) e (place-lowest a n low blocked allow) x (shorter a low blocked x n m (leb-true n m t) allow r.free)))
      (λ t. leb-false n m t)

  -- none is told exactly if no multiple is free
  pub none_told : longest_of a low blocked allow ≡ None → (x : ℕ) → Candidate a 1 low blocked allow x → ⊥
  none_told e x c = subst (Longest a low blocked allow) e (longest_is a low blocked allow) x 1 (record { some = omega arith; free = c })

  pub none_free : ((x : ℕ) → Candidate a 1 low blocked allow x → ⊥) → longest_of a low blocked allow ≡ None
  none_free f = longest_unique a low blocked allow (longest_of a low blocked allow) None (longest_is a low blocked allow) (λ y n r. f y (shorter a low blocked y 1 n r.some allow r.free))

  -- what is told where n bytes have no place: a run of k + 1 < n
  pub told-shorter : (n x k : ℕ) → place_of a n low blocked allow ≡ None → longest_of a low blocked allow ≡ Some (run x k) → k + 1 < n
  told-shorter n x k p e = let t = subst (Longest a low blocked allow) e (longest_is a low blocked allow) in run-shorter n p x (k + 1) t.run

-- ---- two lists of blocked ranges, one after the other: reserved ranges, then mappings, with no list of both

abbrev pub onward : ℕ → List Range → Option ℕ → Option ℕ
onward x qs None = None
onward x qs (Some z) = free_to z x qs

pub free-append : (e x : ℕ) (qs ps : List Range) → free_to e x (qs ++ ps) ≡ onward x ps (free_to e x qs)
unfolding free_to
free-append e x [] ps = refl
free-append e x (q ∷ qs) ps = by-test (share (range x x) q) (λ t. rw t) (λ t. rw t (free-append (cut_at e x q) x qs ps))

pub over-append : {A : Type 0} (g : Option Run → A → Option Run) (r : Option Run) (xs ys : List A) → over g r (xs ++ ys) ≡ over g (over g r xs) ys
unfolding over
over-append g r [] ys = refl
over-append g r (x ∷ xs) ys = over-append g (g r x) xs ys
