-- UNMAP and DESTROY by the index: what a range removes stands in one run of the list (`without-run`), and what it cuts is told by the mapping before the run and by where the run ends (`cut-is`).
use Prim.Native.Nat.{ℕ, zero, suc, ◌+◌, ◌-◌, ◌≤◌, ◌<◌}
use Rattle.std.proofs.Math.Path.{◌≡◌, refl, sym, ap}
use Rattle.std.proofs.Common.{◌∙◌, arith, leb-true, le-leb, ltb-true, ltb-false, eqb-true, eq-eqb, ne_eqb}
use Rattle.std.specs.Prelude.{Bool, not, ◌&&◌, ◌||◌, leb, ltb, eqb, length, get_or, take}
use Rattle.std.proofs.Math.Bool.{true, false}
use mathlib.Core.List.{List, [], ◌∷◌, ◌++◌}
use Rattle.std.proofs.Math.ListN.{drop}
use Rattle.std.proofs.lemmas.Bool.{not-false}
use Rattle.lists.specs.Tests.{by-test, leb_iff, contrary, only_if, and_left, and_right, and_both, and_not_left, or_left, or_not_left, or_not_right}
use Rattle.lists.specs.Search.{any-or, any, all, all-at}
use Rattle.lists.specs.Sums.{sum_of, sum_of-cong, sum_of-add, sum_of-keep, count_of, count_of-any, count_of-length, keep}
use Rattle.lists.specs.Each.{Each, Each-of, Each-imp, Each-all}
use Rattle.lists.specs.Counting.{count_of-cons, count_of-none}
use Rattle.ranges.specs.declared.Range.{Range}
use Rattle.ranges.specs.Ranges.{U64MAX, range, inside, span, last_of}
use Rattle.sorted.specs.Sorted.{ordered_at, ordered-mono, count_past, count-upto, count-in, count-out, count_map, ordered-map, ordered, latest-prior, passing, prior, any-latest, take_keep, drop_keep, none_after, all_true, keep_same}
use Rattle.rules_table.specs.declared.Mapping.{Mapping}
use Rattle.rules_table.specs.Records.{zero_mapping, used, of_space, extent, touches, within, cut_by}
use Rattle.rules_index.specs.Index.{mapping_at, view, below}
use Rattle.rules_index.specs.Board.{without}
use Rattle.table.specs.Cleared.{within_all}
use Rattle.index.specs.Listing.{lex-elim, lex-less, lex-same, lex-not, Lists, lists-any}
use Rattle.index.specs.Touched.{end_last, before, before-space, before-end, before-ahead, sits, sits-some, up_to, up_to-space, up_to-from, up_to-of, ahead-up_to, until, touches-of, touches-space, touches-meet, free-touches, since, ahead-below}

-- ---- mappings that begin before an address

below-space : (s a : ℕ) (m : Mapping) → below s a m ≡ true → m.space ≤ s
unfolding below
below-space s a m e = lex-elim m.space (suc m.address) s a e (λ h. omega arith) (λ h k. omega arith)

below-from : (s a : ℕ) (m : Mapping) → below s a m ≡ true → m.space ≡ s → m.address < a
unfolding below
below-from s a m e q = lex-elim m.space (suc m.address) s a e (λ h. absurd (omega arith)) (λ h k. k)

-- one that does not: in a higher space, or in the same one at a or above it
not_below : (s a : ℕ) (m : Mapping) → below s a m ≡ false → (s ≤ m.space) × (m.space ≡ s → a ≤ m.address)
unfolding below
not_below s a m e = lex-elim s (suc a) m.space (suc m.address) (lex-not m.space (suc m.address) s a e) (λ h. (omega arith, λ q. absurd (omega arith))) (λ h k. (omega arith, λ q. omega arith))

below-up_to : (s a b : ℕ) (m : Mapping) → a ≤ b → below s a m ≡ true → up_to s b m ≡ true
unfolding below up_to
below-up_to s a b m h e = lex-elim m.space (suc m.address) s a e (λ k. lex-less m.space m.address s b k) (λ k l. lex-same m.space m.address s b k (omega arith))

-- ---- a run of a list in order

module _ {A : Type 0} (r : A → A → Bool) (p q : A → Bool) (pd : (x y : A) → r x y ≡ true → p y ≡ true → p x ≡ true) (qd : (x y : A) → r x y ≡ true → q y ≡ true → q x ≡ true) (pq : (x : A) → p x ≡ true → q x ≡ true) where
  keep-neither : (xs : List A) → any p xs ≡ false → keep (λ x. p x || not (q x)) xs ≡ keep (λ x. not (q x)) xs
  unfolding keep any
  keep-neither [] e = refl
  keep-neither (x ∷ xs) e = rw (or_not_left (p x) (any p xs) e, keep-neither xs (or_not_right (p x) (any p xs) e))

  pub keep_run : (xs : List A) → ordered r xs ≡ true → keep (λ x. p x || not (q x)) xs ≡ take (count_of p xs) xs ++ drop (count_of q xs) xs
  unfolding ordered keep any
  keep_run [] e = sym (ends (count_of p []) (count_of q []))
    where
      ends : (m n : ℕ) → ◌≡◌ {A = List A} (take m [] ++ drop n []) []
      ends zero zero = refl
      ends zero (suc n) = refl
      ends (suc m) zero = refl
      ends (suc m) (suc n) = refl
  keep_run (x ∷ xs) e =
      by-test (p x)
      (λ t.
      let u = pq x t in
      let c : count_of p (x ∷ xs) ≡ suc (count_of p xs) = rw (count_of-cons p x xs, t) (omega arith) in
      let d : count_of q (x ∷ xs) ≡ suc (count_of q xs) = rw (count_of-cons q x xs, u) (omega arith) in
      rw (c, d, t) (ap (λ (l : List A). x ∷ l) (keep_run xs (and_right (all (r x) xs) (ordered r xs) e))))
      (λ t.
      let no = none_after r p pd x xs (and_left (all (r x) xs) (ordered r xs) e) t in
      let c : count_of p (x ∷ xs) ≡ 0 = rw (count_of-cons p x xs, t, count_of-none p xs no) refl in
      let whole : any p (x ∷ xs) ≡ false = rw (t, no) refl in
      keep-neither (x ∷ xs) whole ∙ sym (drop_keep r q qd (x ∷ xs) e) ∙ rw c refl)

within-parts : (s : ℕ) (r : Range) (m : Mapping) → within s r m ≡ true → (m.space ≡ s) × (r.start ≤ m.address) × (last_of m.address m.length ≤ r.last)
unfolding within of_space inside extent span
within-parts s r m e =
    let i = and_right (eqb m.space s) (leb r.start m.address && leb (last_of m.address m.length) r.last) e in (
      eqb-true m.space s (and_left (eqb m.space s) (leb r.start m.address && leb (last_of m.address m.length) r.last) e),
      leb-true r.start m.address (and_left (leb r.start m.address) (leb (last_of m.address m.length) r.last) i),
      leb-true (last_of m.address m.length) r.last (and_right (leb r.start m.address) (leb (last_of m.address m.length) r.last) i),
    )

within_of : (s : ℕ) (r : Range) (m : Mapping) → m.space ≡ s → r.start ≤ m.address → last_of m.address m.length ≤ r.last → within s r m ≡ true
unfolding within of_space inside extent span
within_of s r m q a b =
    and_both (eqb m.space s) (leb r.start m.address && leb (last_of m.address m.length) r.last) (eq-eqb m.space s q)
    (and_both (leb r.start m.address) (leb (last_of m.address m.length) r.last) (le-leb r.start m.address a) (le-leb (last_of m.address m.length) r.last b))

any_same : {A : Type 0} (p q : A → Bool) (xs : List A) → Each (λ x. p x ≡ q x) xs → any p xs ≡ any q xs
unfolding any
any_same p q [] h = refl
any_same p q (x ∷ xs) h = rw (h.0, any_same p q xs h.1)

-- ---- the run

-- m begins before the range, or lies wholly inside it
unfoldable pub runs_to : ℕ → Range → Mapping → Bool
runs_to s r m = below s r.start m || within s r m

-- how many do: the place behind the last one that lies inside
unfoldable pub run_end : List Mapping → ℕ → Range → ℕ
run_end ls s r = count_of (runs_to s r) ls

module _ (s : ℕ) (r : Range) (m : Mapping) where
  low-outside : below s r.start m ≡ true → within s r m ≡ false
  low-outside b = by-test (within s r m) (λ e. let p = within-parts s r m e in absurd (omega (arith, p.1, below-from s r.start m b p.0))) (λ e. e)

  low-runs : below s r.start m ≡ true → runs_to s r m ≡ true
  unfolding runs_to
  low-runs b = or_left (below s r.start m) (within s r m) b

  -- one that does not begin before the range
  high-runs : below s r.start m ≡ false → runs_to s r m ≡ within s r m
  unfolding runs_to
  high-runs b = rw b refl

  within-up_to : sits m ≡ true → within s r m ≡ true → up_to s r.last m ≡ true
  within-up_to g e = let p = within-parts s r m e in up_to-of s r.last m p.0 (omega (arith, p.2, sits-some m g))

  -- before the run or in it: one of the two
  runs-split : (n : ℕ) → only_if (runs_to s r m) n ≡ only_if (below s r.start m) n + only_if (within s r m) n
  runs-split n =
      by-test (below s r.start m)
      (λ b. rw (low-runs b, b, low-outside b) (omega arith))
      (λ b. rw (high-runs b, b) (omega arith))

  low_or : not (within s r m) ≡ (below s r.start m || not (runs_to s r m))
  low_or = by-test (below s r.start m) (λ b. rw (b, low-outside b) refl) (λ b. rw (b, high-runs b) refl)

-- in order, and the later of the two sits
unfoldable stands : Mapping → Mapping → Bool
stands x y = before x y && sits y

module _ (x y : Mapping) (e : stands x y ≡ true) where
  stands-before : before x y ≡ true
  unfolding stands
  stands-before = and_left (before x y) (sits y) e

  stands-sits : sits y ≡ true
  unfolding stands
  stands-sits = and_right (before x y) (sits y) e

  -- whatever stands before one that does, does
  stands-below : (s a : ℕ) → below s a y ≡ true → below s a x ≡ true
  stands-below s a = ahead-below s a x y (before-ahead x y stands-before)

  stands-up_to : (s a : ℕ) → up_to s a y ≡ true → up_to s a x ≡ true
  stands-up_to s a = ahead-up_to s a x y (before-ahead x y stands-before)

  -- one that does not begin before the range, with one behind it that begins in the range
  stands-within : (s : ℕ) (r : Range) → y.space ≤ s → (y.space ≡ s → y.address ≤ r.last) → below s r.start x ≡ false → within s r x ≡ true
  stands-within s r h k b =
      let nb = not_below s r.start x b in
      let sx : x.space ≡ s = omega (arith, nb.0, before-space x y stands-before) in
      let sy : y.space ≡ s = omega (arith, sx, before-space x y stands-before) in
      within_of s r x sx (nb.1 sx) (omega (arith, end_last x, before-end x y stands-before (sx ∙ sym sy), k sy))

  stands-runs : (s : ℕ) (r : Range) → runs_to s r y ≡ true → runs_to s r x ≡ true
  stands-runs s r f =
      by-test (below s r.start x)
      (λ b. low-runs s r x b)
      (λ b.
      let by : below s r.start y ≡ false = by-test (below s r.start y) (λ t. contrary (below s r.start x) (stands-below s r.start t) b) (λ t. t) in
      let p = within-parts s r y (sym (high-runs s r y by) ∙ f) in
      high-runs s r x b ∙ stands-within s r (omega (arith, p.0)) (λ q. omega (arith, p.2, sits-some y stands-sits)) b)

module _ (ls : List Mapping) (s : ℕ) (r : Range) where
  -- what is inside stands behind those that begin before the range, up to the end of the run
  pub run-sum : (w : Mapping → ℕ) → sum_of (λ m. only_if (runs_to s r m) (w m)) ls ≡ sum_of (λ m. only_if (below s r.start m) (w m)) ls + sum_of (λ m. only_if (within s r m) (w m)) ls
  run-sum w =
      sum_of-cong (λ m. only_if (runs_to s r m) (w m)) (λ m. only_if (below s r.start m) (w m) + only_if (within s r m) (w m)) ls (Each-of _ ls (λ m. runs-split s r m (w m)))
      ∙ sum_of-add (λ m. only_if (below s r.start m) (w m)) (λ m. only_if (within s r m) (w m)) ls

  pub run-count : run_end ls s r ≡ since ls s r.start + count_of (within s r) ls
  unfolding run_end since count_of
  run-count = run-sum (λ m. 1)

  module _ (g : all sits ls ≡ true) (o : ordered before ls ≡ true) where
    so : ordered stands ls ≡ true
    unfolding stands
    so = ordered-mono sits before stands ls (λ x y p q b. and_both (before x y) (sits y) b q) g o

    -- the places up to the run and in it, and their bytes or whatever they weigh
    pub run-weigh : (w : Mapping → ℕ) → sum_of w (take (run_end ls s r) ls) ≡ sum_of w (take (since ls s r.start) ls) + sum_of (λ m. only_if (within s r m) (w m)) ls
    unfolding run_end since
    run-weigh w =
        rw (take_keep stands (runs_to s r) (λ x y e. stands-runs x y e s r) ls so, take_keep stands (below s r.start) (λ x y e. stands-below x y e s r.start) ls so, sum_of-keep w (runs_to s r) ls, sum_of-keep w (below s r.start) ls)
        (run-sum w)

    -- one place
    module _ (k : ℕ) (h : k < length ls) where
      abbrev here : Mapping
      here = get_or ls k zero_mapping

      run_past : runs_to s r here ≡ true → k < run_end ls s r
      unfolding run_end
      run_past = count_past stands (runs_to s r) (λ x y e. stands-runs x y e s r) ls zero_mapping k so h

      run-upto : runs_to s r here ≡ false → run_end ls s r ≤ k
      unfolding run_end
      run-upto = count-upto stands (runs_to s r) (λ x y e. stands-runs x y e s r) ls zero_mapping k so h

      low-from : since ls s r.start ≤ k → below s r.start here ≡ false
      unfolding since
      low-from l = count-out stands (below s r.start) (λ x y e. stands-below x y e s r.start) ls zero_mapping k so l h

      up_to-past : until ls s r.last ≤ k → up_to s r.last here ≡ false
      unfolding until
      up_to-past l = count-out stands (up_to s r.last) (λ x y e. stands-up_to x y e s r.last) ls zero_mapping k so l h

      -- behind those that begin by the end of the range none lies inside
      runs_past : since ls s r.start ≤ k → until ls s r.last ≤ k → runs_to s r here ≡ false
      runs_past a b =
          high-runs s r here (low-from a)
          ∙ by-test (within s r here) (λ t. contrary (up_to s r.last here) (within-up_to s r here (all-at sits ls zero_mapping g k h) t) (up_to-past b)) (λ t. t)

    low-in : (k : ℕ) → k < since ls s r.start → below s r.start (get_or ls k zero_mapping) ≡ true
    unfolding since
    low-in k h = count-in stands (below s r.start) (λ x y e. stands-below x y e s r.start) ls zero_mapping k so h

    up_to-in : (k : ℕ) → k < until ls s r.last → up_to s r.last (get_or ls k zero_mapping) ≡ true
    unfolding until
    up_to-in k h = count-in stands (up_to s r.last) (λ x y e. stands-up_to x y e s r.last) ls zero_mapping k so h

    until-length : until ls s r.last ≤ length ls
    unfolding until
    until-length = count_of-length (up_to s r.last) ls

    run_length : run_end ls s r ≤ length ls
    unfolding run_end
    run_length = count_of-length (runs_to s r) ls

    -- from the place of the first that begins in the range on, nothing runs past `until`
    run-most : (k : ℕ) → since ls s r.start ≤ k → until ls s r.last ≤ k → run_end ls s r ≤ k
    run-most k a b =
        by-test (ltb k (length ls))
        (λ t. let h = ltb-true k (length ls) t in run-upto k h (runs_past k h a b))
        (λ t. omega (arith, ltb-false k (length ls) t, run_length))

    -- none begins in the range: none lies inside
    pub run_none : until ls s r.last ≤ since ls s r.start → run_end ls s r ≡ since ls s r.start
    run_none h = omega (arith, run-count, run-most (since ls s r.start) (omega arith) h)

    module _ (h : since ls s r.start < until ls s r.last) where
      abbrev final : Mapping
      final = get_or ls (until ls s r.last - 1) zero_mapping

      final-in : until ls s r.last - 1 < length ls
      final-in = omega (arith, until-length)

      final-runs : runs_to s r final ≡ within s r final
      final-runs = high-runs s r final (low-from (until ls s r.last - 1) final-in (omega arith))

      -- the last that begins in the range lies inside: so do all that begin in it
      pub run-whole : within s r final ≡ true → run_end ls s r ≡ until ls s r.last
      run-whole w = omega (arith, run_past (until ls s r.last - 1) final-in (final-runs ∙ w), run-most (until ls s r.last) (omega arith) (omega arith))

      -- else it alone does not
      pub run-cut : within s r final ≡ false → run_end ls s r ≡ until ls s r.last - 1
      run-cut w =
          let most = run-upto (until ls s r.last - 1) final-in (final-runs ∙ w) in
          by-test (ltb (since ls s r.start) (until ls s r.last - 1))
          (λ t.
          let l = ltb-true (since ls s r.start) (until ls s r.last - 1) t in
          let k = until ls s r.last - 2 in
          let j : suc k ≡ until ls s r.last - 1 = omega (arith, l) in
          let st : stands (get_or ls k zero_mapping) final ≡ true = rw (← j) (ordered_at stands ls zero_mapping k (suc k) so (omega arith) (omega (arith, j, final-in))) in
          let u = up_to-in (until ls s r.last - 1) (omega (arith, h)) in
          let b = low-from k (omega (arith, j, final-in)) (omega (arith, l, j)) in
          let i = stands-within (get_or ls k zero_mapping) final st s r (up_to-space s r.last final u) (up_to-from s r.last final u) b in
          omega (arith, most, j, run_past k (omega (arith, j, final-in)) (high-runs s r (get_or ls k zero_mapping) b ∙ i)))
          (λ t. omega (arith, most, run-count, ltb-false (since ls s r.start) (until ls s r.last - 1) t))

-- the numbers of what is left: those before the run and those behind it
pub without-run : (xs : List ℕ) (ms : List Mapping) (s : ℕ) (r : Range) → all sits (view xs ms) ≡ true → ordered before (view xs ms) ≡ true
    → without (within s r) xs ms ≡ take (since (view xs ms) s r.start) xs ++ drop (run_end (view xs ms) s r) xs
unfolding without view since run_end
without-run xs ms s r g o =
    let f = mapping_at ms in
    keep_same (λ k. not (within s r (f k))) (λ k. below s r.start (f k) || not (runs_to s r (f k))) xs (Each-of _ xs (λ k. low_or s r (f k)))
    ∙ keep_run (λ j k. stands (f j) (f k)) (λ k. below s r.start (f k)) (λ k. runs_to s r (f k))
    (λ j k e. stands-below (f j) (f k) e s r.start) (λ j k e. stands-runs (f j) (f k) e s r) (λ k b. low-runs s r (f k) b)
    xs (ordered-map stands f xs (so (view xs ms) s r g o))
    ∙ rw (count_map (below s r.start) f xs, count_map (runs_to s r) f xs)

-- all of a space are those inside all addresses
pub without-space : (xs : List ℕ) (ms : List Mapping) (s : ℕ) → without (of_space s) xs ms ≡ without (within s (range 0 U64MAX)) xs ms
unfolding without
without-space xs ms s =
    keep_same (λ k. not (of_space s (mapping_at ms k))) (λ k. not (within s (range 0 U64MAX) (mapping_at ms k))) xs
    (Each-of _ xs (λ k. ap (λ (b : Bool). not b) (sym (within_all s (mapping_at ms k)))))

-- ---- what is cut

-- it reaches in from before the range
unfoldable pub reaches_in : ℕ → Range → Mapping → Bool
reaches_in s r m = touches s r m && below s r.start m

-- it begins in the range and does not lie inside
unfoldable reaches_out : ℕ → Range → Mapping → Bool
reaches_out s r m = up_to s r.last m && not (runs_to s r m)

free-cut : (s : ℕ) (r : Range) → 0 < s → (m : Mapping) → used m ≡ false → cut_by s r m ≡ false
unfolding cut_by
free-cut s r h m u = rw (free-touches s r h m u) refl

pub free-within : (s : ℕ) (r : Range) → 0 < s → (m : Mapping) → used m ≡ false → within s r m ≡ false
unfolding within of_space used
free-within s r h m u = let z = eqb-true m.space 0 (not-false (eqb m.space 0) u) in and_not_left (eqb m.space s) (inside (extent m) r) (ne_eqb m.space s (λ q. omega (arith, q, z, h)))

module _ (s : ℕ) (r : Range) (m : Mapping) where
  -- a mapping that is touched and does not lie inside is cut
  cut_of : (touches s r m && not (within s r m)) ≡ cut_by s r m
  unfolding cut_by touches within
  cut_of = by-test (of_space s m) (λ e. rw e) (λ e. rw e)

  in_touches : reaches_in s r m ≡ true → touches s r m ≡ true
  unfolding reaches_in
  in_touches e = and_left (touches s r m) (below s r.start m) e

  in_narrow : reaches_in s r m ≡ true → below s r.start m ≡ true
  unfolding reaches_in
  in_narrow e = and_right (touches s r m) (below s r.start m) e

  -- at one that begins before the range the touch tells
  in_low : below s r.start m ≡ true → reaches_in s r m ≡ touches s r m
  unfolding reaches_in
  in_low b = rw b (by-test (touches s r m) (λ t. rw t refl) (λ t. rw t refl))

  out_touches : sits m ≡ true → up_to s r.last m ≡ true → below s r.start m ≡ false → touches s r m ≡ true
  out_touches g u b =
      let nb = not_below s r.start m b in
      let q : m.space ≡ s = omega (arith, nb.0, up_to-space s r.last m u) in
      let l = up_to-from s r.last m u q in
      touches-of s r m q (omega (arith, nb.1 q, l)) (sits-some m g) (omega (arith, nb.1 q, sits-some m g)) l

  cut-either : sits m ≡ true → cut_by s r m ≡ (reaches_in s r m || reaches_out s r m)
  unfolding reaches_in reaches_out
  cut-either g =
      sym cut_of
      ∙ by-test (below s r.start m)
      (λ b. rw (b, low-outside s r m b, low-runs s r m b) (by-test (touches s r m) (λ t. rw t refl) (λ t. rw t (by-test (up_to s r.last m) (λ u. rw u refl) (λ u. rw u refl)))))
      (λ b. rw (b, high-runs s r m b) (by-test (up_to s r.last m)
      (λ u. rw (u, out_touches g u b) refl)
      (λ u. rw (u, untouched u) refl)))
    where
      untouched : up_to s r.last m ≡ false → touches s r m ≡ false
      untouched u = by-test (touches s r m) (λ t. contrary (up_to s r.last m) (up_to-of s r.last m (touches-space s r m t) (touches-meet s r m t).1) u) (λ t. t)

  out_split : sits m ≡ true → r.start ≤ r.last → only_if (up_to s r.last m) 1 ≡ only_if (runs_to s r m) 1 + only_if (reaches_out s r m) 1
  unfolding reaches_out
  out_split g h =
      by-test (runs_to s r m)
      (λ t. rw (t, runs-up_to t) refl)
      (λ t. rw t (by-test (up_to s r.last m) (λ u. rw u refl) (λ u. rw u refl)))
    where
      runs-up_to : runs_to s r m ≡ true → up_to s r.last m ≡ true
      runs-up_to t = by-test (below s r.start m) (λ b. below-up_to s r.start r.last m h b) (λ b. within-up_to s r m g (sym (high-runs s r m b) ∙ t))

-- of two that begin before the range, the earlier ends before the later begins
in_onward : (s : ℕ) (r : Range) (x y : Mapping) → true ≡ true → before x y ≡ true → below s r.start y ≡ true → reaches_in s r x ≡ true → reaches_in s r y ≡ true
in_onward s r x y u b q t =
    let sx = touches-space s r x (in_touches s r x t) in
    let sy : y.space ≡ s = omega (arith, before-space x y b, below-space s r.start y q, sx) in
    absurd (omega (arith, before-end x y b (sx ∙ sym sy), end_last x, (touches-meet s r x (in_touches s r x t)).0, below-from s r.start y q sy))

-- UNMAP's 2: the last mapping that begins before the range touches it, or the run ends before the last one that begins in the range
unfoldable pub cut_in : List Mapping → ℕ → Range → Bool
cut_in ls s r = passing (touches s r) (prior zero_mapping ls (since ls s r.start)) || ltb (run_end ls s r) (until ls s r.last)

module _ (ls : List Mapping) (s : ℕ) (r : Range) (g : all sits ls ≡ true) (o : ordered before ls ≡ true) where
  cut_low : any (reaches_in s r) ls ≡ passing (touches s r) (prior zero_mapping ls (since ls s r.start))
  unfolding since
  cut_low =
      any-latest before (reaches_in s r) (below s r.start) (λ m. true) (in_narrow s r) (in_onward s r) ls (all_true ls) o
      ∙ ap (passing (reaches_in s r)) (latest-prior before (below s r.start) (λ x y b. ahead-below s r.start x y (before-ahead x y b)) ls zero_mapping o)
      ∙ go (count_of (below s r.start) ls) (λ k h. low-in ls s r g o k h)
    where
      go : (n : ℕ) → ((k : ℕ) → k < n → below s r.start (get_or ls k zero_mapping) ≡ true) → passing (reaches_in s r) (prior zero_mapping ls n) ≡ passing (touches s r) (prior zero_mapping ls n)
      go zero f = refl
      go (suc k) f = in_low s r (get_or ls k zero_mapping) (f k (omega arith))

  cut_high : r.start ≤ r.last → any (reaches_out s r) ls ≡ ltb (run_end ls s r) (until ls s r.last)
  unfolding until run_end count_of
  cut_high h =
      sym (count_of-any (reaches_out s r) ls)
      ∙ (let c : count_of (up_to s r.last) ls ≡ count_of (runs_to s r) ls + count_of (reaches_out s r) ls =
      sum_of-cong (λ m. only_if (up_to s r.last m) 1) (λ m. only_if (runs_to s r m) 1 + only_if (reaches_out s r m) 1) ls (Each-imp (λ m. sits m ≡ true) _ ls (λ m p. out_split s r m p h) (Each-all sits ls g))
      ∙ sum_of-add (λ m. only_if (runs_to s r m) 1) (λ m. only_if (reaches_out s r m) 1) ls in
      leb_iff 1 (count_of (reaches_out s r) ls) (suc (count_of (runs_to s r) ls)) (count_of (up_to s r.last) ls) (λ k. omega (arith, c)) (λ k. omega (arith, c)))

  pub cut-here : r.start ≤ r.last → any (cut_by s r) ls ≡ cut_in ls s r
  unfolding cut_in
  cut-here h =
      any_same (cut_by s r) (λ m. reaches_in s r m || reaches_out s r m) ls (Each-imp (λ m. sits m ≡ true) _ ls (cut-either s r) (Each-all sits ls g))
      ∙ any-or (reaches_in s r) (reaches_out s r) ls
      ∙ rw (cut_low, cut_high h)

pub cut-is : (xs : List ℕ) (ms : List Mapping) (s : ℕ) (r : Range) → Lists xs ms → all sits (view xs ms) ≡ true → ordered before (view xs ms) ≡ true → 0 < s → r.start ≤ r.last
    → any (cut_by s r) ms ≡ cut_in (view xs ms) s r
cut-is xs ms s r l g o h k = sym (lists-any xs ms l (cut_by s r) (free-cut s r h)) ∙ cut-here (view xs ms) s r g o k
