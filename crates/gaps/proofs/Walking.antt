-- The walk: no candidate lies below the address reached, and each mapping and each reserved range is left behind once.
use Rattle.std.specs.Prelude.{Option, None, Some}
use Prim.Native.Nat.{ℕ, zero, suc, ◌+◌, ◌-◌, ◌≤◌, ◌<◌, max}
use mathlib.Core.Path.{◌≡◌, refl, sym, ap, subst, ◌∙◌}
use mathlib.Core.Bool.{Bool, true, false, not, ◌||◌}
use mathlib.Core.List.{List, [], ◌∷◌}
use native.Mathlib.Omega.{arith}
use lib.Dec.{leb, ltb, eqb}
use lib.ListN.{length, get_or, take, drop, length-take}
use borrow.Author.Tests.{leb-true, leb-false, le-leb, ltb-true, ltb-false, lt-ltb, eqb-true, eqb-false, eq-eqb, ne_eqb, not-true, not-false}
use Rattle.lists.specs.Tests.{by-test, contrary, and_left, and_right, and_both, or_not_left, or_not_right, or_neither}
use Rattle.lists.specs.Search.{any, any-false_at, all-at, drop_turn}
use Rattle.lists.specs.Each.{Each-slots, any-Each_false}
use Rattle.lists.specs.Sums.{count_of, count_of-length}
use Rattle.lists.specs.Counting.{count_of-cons, count_of-none}
use Rattle.ranges.specs.declared.Range.{Range}
use Rattle.ranges.specs.Ranges.{U64MAX, share, shared_start, shared_last, inside, passes, passes-false, last_of, span, span-some}
use Rattle.alignment.specs.Multiples.{multiple, Lowest, lowest-unique, MultipleFrom, lowest_multiple, lowest-is}
use Rattle.placement.specs.Candidates.{Candidate, place_of}
use Rattle.placement.specs.Lowest.{ends-before, window_starts, window_before, place-lowest}
use Rattle.placement.specs.Jumps.{past_of, jumps_to, ending, Free, Onward, Swept, room_at}
use Rattle.placement.specs.Sweeping.{ending-most, jumps_one}
use Rattle.placement.specs.Passes.{ending-later, swept-one, never-one}
use Rattle.rules_table.specs.declared.Object.{Object}
use Rattle.rules_table.specs.declared.Mapping.{Mapping}
use Rattle.rules_table.specs.Records.{zero_mapping, used, of_space, extent, touches}
use Rattle.rules_table.specs.Spaces.{reserved_of}
use Rattle.rules_calls.specs.Landing.{blocked_in}
use Rattle.rules_index.specs.Index.{view}
use Rattle.sorted.specs.Sorted.{ordered, ordered_at}
use Rattle.index.specs.Listing.{length-view, Lists, view-used, lists-count}
use Rattle.index.specs.Touched.{end_of, end_from, end_last, before, before-space, before-end, sits, sits-some, touches-space, touches-meet}
use Rattle.index_search.specs.Indexed.{Indexed}
use Rattle.gaps.specs.Blocked.{any-blocked, blocked_length, permits-one, permits-only, gap_is}
use Rattle.gaps.specs.Steps.{begins_by, meets, Stands, Stepped, StepBy}

-- ---- room for the bytes

module _ (n x : ℕ) (w : Range) (e : room_at n x w ≡ true) where
  room-ends : passes x n ≡ false
  unfolding room_at
  room-ends = not-true (passes x n) (and_left (not (passes x n)) (inside (span x n) w) e)

  room-window : inside (span x n) w ≡ true
  unfolding room_at
  room-window = and_right (not (passes x n)) (inside (span x n) w) e

-- as the walk asks it
pub room_fits : (n x : ℕ) (w : Range) (b : Bool) → b ≡ room_at n x w → not b ≡ false → x + (n - 1) ≤ U64MAX
room_fits n x w b e f = passes-false x n (room-ends n x w (sym e ∙ not-false b f))

room_of : (n x : ℕ) (w : Range) → passes x n ≡ false → inside (span x n) w ≡ true → room_at n x w ≡ true
unfolding room_at
room_of n x w e f = rw (e, f)

-- ---- the mapping at a place

count-drop : {A : Type 0} (p : A → Bool) (k : ℕ) (xs : List A) → count_of p (drop k xs) ≤ count_of p xs
count-drop p zero xs = omega arith
count-drop p (suc k) [] = omega arith
count-drop p (suc k) (x ∷ xs) = omega (arith, count-drop p k xs, count_of-cons p x xs)

module _ (s x : ℕ) (m : Mapping) where
  begins-space : begins_by s x m ≡ true → m.space ≡ s
  unfolding begins_by of_space
  begins-space e = eqb-true m.space s (and_left (eqb m.space s) (leb m.address x) e)

  begins-from : begins_by s x m ≡ true → m.address ≤ x
  unfolding begins_by
  begins-from e = leb-true m.address x (and_right (of_space s m) (leb m.address x) e)

  begins-of : m.space ≡ s → m.address ≤ x → begins_by s x m ≡ true
  unfolding begins_by of_space
  begins-of e h = and_both (eqb m.space s) (leb m.address x) (eq-eqb m.space s e) (le-leb m.address x h)

module _ (ls : List Mapping) (k s x : ℕ) where
  meets-place : meets ls k s x ≡ true → k < length ls
  unfolding meets
  meets-place e = ltb-true k (length ls) (and_left (ltb k (length ls)) (begins_by s x (get_or ls k zero_mapping)) e)

  meets-begins : meets ls k s x ≡ true → begins_by s x (get_or ls k zero_mapping) ≡ true
  unfolding meets
  meets-begins e = and_right (ltb k (length ls)) (begins_by s x (get_or ls k zero_mapping)) e

  meets-not : k < length ls → meets ls k s x ≡ false → begins_by s x (get_or ls k zero_mapping) ≡ false
  unfolding meets
  meets-not h e = sym (rw (lt-ltb k (length ls) h)) ∙ e

-- ---- where the walk stands

module _ (s : ℕ) (ls : List Mapping) (o : ordered before ls ≡ true) (x n k : ℕ) (v : Stands ls s x k) (e : meets ls k s (last_of x n) ≡ false) where
  -- no mapping is met at k: none of the space from k on begins by the end
  later : (j : ℕ) → k ≤ j → j < length ls → (get_or ls j zero_mapping).space ≡ s → (get_or ls j zero_mapping).address ≤ last_of x n → ⊥
  later j h l q d =
      let no = meets-not ls k s (last_of x n) (omega arith) e in
      by-test (eqb j k)
      (λ t. contrary (begins_by s (last_of x n) (get_or ls k zero_mapping)) (rw (← eqb-true j k t) (begins-of s (last_of x n) (get_or ls j zero_mapping) q d)) no)
      (λ t.
      let b = ordered_at before ls zero_mapping k j o (omega (arith, eqb-false j k t)) l in
      let same : (get_or ls k zero_mapping).space ≡ s = omega (arith, before-space (get_or ls k zero_mapping) (get_or ls j zero_mapping) b, v.onwards k (omega arith) (omega arith), q) in
      contrary (begins_by s (last_of x n) (get_or ls k zero_mapping))
      (begins-of s (last_of x n) (get_or ls k zero_mapping) same (omega (arith, before-end (get_or ls k zero_mapping) (get_or ls j zero_mapping) b (same ∙ sym q), end_from (get_or ls k zero_mapping), d))) no)

  untouched : any (touches s (span x n)) ls ≡ false
  unfolding span
  untouched = any-Each_false (touches s (span x n)) ls (Each-slots (λ m. touches s (span x n) m ≡ false) ls zero_mapping one)
    where
      one : (j : ℕ) → j < length ls → touches s (span x n) (get_or ls j zero_mapping) ≡ false
      one j h =
          let m = get_or ls j zero_mapping in
          by-test (touches s (span x n) m)
          (λ t.
          let q = touches-space s (span x n) m t in
          let r = touches-meet s (span x n) m t in
          by-test (ltb j k)
          (λ u. absurd (omega (arith, v.behind j (ltb-true j k u) h q, end_last m, r.0)))
          (λ u. absurd (later j (ltb-false j k u) h q r.1)))
          (λ t. t)

-- of two ranges that hold an address, the second begins by the end of the first and does not share: it ends before
not_sharing : (x n : ℕ) (m : Mapping) → x ≤ last_of x n → m.address ≤ last_of m.address m.length → m.address ≤ last_of x n → share (span x n) (extent m) ≡ false
    → last_of m.address m.length < x
unfolding share shared_start shared_last extent span
not_sharing x n m a b c e = let h = leb-false (shared_start (span x n) (extent m)) (shared_last (span x n) (extent m)) e in omega arith

-- a jump past one range leaves it behind
one-behind : (a n x y : ℕ) (q : Range) → Onward a n (q ∷ []) x y (jumps_to x y) → (x ≡ y → ⊥) → q.last < y
unfolding ending
one-behind a n x y q v h =
    by-test (leb y q.last)
    (λ t.
    let c : count_of (λ (r : Range). leb y r.last) (q ∷ []) ≡ 1 + count_of (λ (r : Range). leb y r.last) [] = count_of-cons (λ (r : Range). leb y r.last) q [] ∙ rw t refl in
    absurd (omega (arith, v.fewer, jumps_one x y h, c, count_of-length (λ (r : Range). leb x r.last) (q ∷ []))))
    (λ t. leb-false y q.last t)

-- ---- the bound

seen_most : (xs : List ℕ) (ms : List Mapping) → Lists xs ms → (s : ℕ) → count_of (of_space s) (view xs ms) ≤ count_of (of_space s) ms
unfolding of_space used
seen_most xs ms l s =
    by-test (eqb s 0)
    (λ t.
    let z = eqb-true s 0 t in
    let none : any (of_space s) (view xs ms) ≡ false =
    any-Each_false (of_space s) (view xs ms) (Each-slots (λ m. of_space s m ≡ false) (view xs ms) zero_mapping
    (λ k h. ne_eqb (get_or (view xs ms) k zero_mapping).space s
    (λ q. eqb-false (get_or (view xs ms) k zero_mapping).space 0 (not-true _ (view-used xs ms l k (omega (arith, h, length-view xs ms)))) (q ∙ z)))) in
    omega (arith, count_of-none (of_space s) (view xs ms) none))
    (λ t. omega (arith, lists-count xs ms l (of_space s) (λ m u. ne_eqb m.space s (λ q. eqb-false s 0 t (sym q ∙ eqb-true m.space 0 (not-false _ u))))))

-- ---- the walk

-- after so many jumps it stands at address x and place k: x is a multiple from low and the window's start on, and no candidate is below it
pub record Walk (a size low s : ℕ) (os : List Object) (ls : List Mapping) (w : Range) (x k jumps : ℕ) : Type 0 where
  pub exact : multiple a x ≡ true
  pub from : low ≤ x
  pub starts : w.start ≤ x
  pub below : x < 0x1_0000_0000_0000_0000
  pub least : (z : ℕ) → Candidate a size low (blocked_in os ls s) (w ∷ []) z → x ≤ z
  pub stands : Stands ls s x k
  pub few : jumps + (ending x (reserved_of os s) + count_of (of_space s) (drop k ls)) ≤ length (reserved_of os s) + count_of (of_space s) ls

module _ (a size low s : ℕ) (os : List Object) (w : Range) (n : ℕ) (ix : List ℕ) (ms : List Mapping) (g : Indexed n ix ms) where
  abbrev ls : List Mapping
  ls = view (take n ix) ms

  -- as the contract has it
  abbrev pub Answer : Option ℕ → ℕ → Type 0
  Answer spot jumps = (0 < s → spot ≡ place_of a size low (blocked_in os ms s) (w ∷ [])) × (jumps ≤ length (blocked_in os ms s))

  answer : (spot : Option ℕ) (jumps : ℕ) → Lowest (Candidate a size low (blocked_in os ls s) (w ∷ [])) spot → jumps ≤ length (reserved_of os s) + count_of (of_space s) ls → Answer spot jumps
  answer spot jumps l h = (
    λ p. lowest-unique _ spot _ l (place-lowest a size low (blocked_in os ls s) (w ∷ [])) ∙ sym (gap_is a size low (w ∷ []) os s p (take n ix) ms g.lists),
    omega (arith, h, blocked_length os ms s, seen_most (take n ix) ms g.lists s),
  )

  module _ (z : ℕ) (c : Candidate a size low (blocked_in os ls s) (w ∷ []) z) where
    candidate_window : inside (span z size) w ≡ true
    candidate_window = permits-only w (span z size) c.permitted

    touches_none : (any (share (span z size)) (reserved_of os s) || any (touches s (span z size)) ls) ≡ false
    touches_none = sym (any-blocked os ls s (span z size)) ∙ c.clear

    candidate_reserved : Free a size (reserved_of os s) z
    candidate_reserved = record { exact = c.exact; ends = c.ends; clear = or_not_left (any (share (span z size)) (reserved_of os s)) (any (touches s (span z size)) ls) touches_none }

    -- it touches no mapping of the space
    candidate_mapped : (k : ℕ) → k < length ls → (get_or ls k zero_mapping).space ≡ s → Free a size (extent (get_or ls k zero_mapping) ∷ []) z
    unfolding any touches of_space
    candidate_mapped k h q = record {
      exact = c.exact;
      ends = c.ends;
      clear =
          let t = any-false_at (touches s (span z size)) ls zero_mapping k h (or_not_right (any (share (span z size)) (reserved_of os s)) (any (touches s (span z size)) ls) touches_none) in
          or_neither (share (span z size) (extent (get_or ls k zero_mapping))) false (sym (rw (eq-eqb (get_or ls k zero_mapping).space s q)) ∙ t) refl;
    }

  -- ---- the start: the first multiple from low and the window's start on

  module _ (from : ℕ) (spot : Option ℕ) (b : from < 0x1_0000_0000_0000_0000) (f : from ≡ max low w.start) (e : spot ≡ lowest_multiple a from) where
    candidate_multiple : (z : ℕ) → Candidate a size low (blocked_in os ls s) (w ∷ []) z → MultipleFrom a from z
    candidate_multiple z c = record {
      exact = c.exact;
      from = omega (arith, c.from, window_starts size z w (candidate_window z c));
      below = omega (arith, passes-false z size c.ends);
    }

    first : (r : Option ℕ) → spot ≡ r → Lowest (MultipleFrom a from) r
    first r q = subst (Lowest (MultipleFrom a from)) (sym e ∙ q) (lowest-is a from b)

    pub walk_none : spot ≡ None → Answer None 0
    walk_none q = answer None 0 (λ z c. first None q z (candidate_multiple z c)) (omega arith)

    pub walk_start : (x k : ℕ) → spot ≡ Some x → Stands ls s x k → Walk a size low s os ls w x k 0
    walk_start x k q h =
        let l = first (Some x) q in
        record {
          exact = l.0.exact;
          from = omega (arith, l.0.from);
          starts = omega (arith, l.0.from);
          below = l.0.below;
          least = λ z c. l.1 z (candidate_multiple z c);
          stands = h;
          few = omega (arith, count-drop (of_space s) k ls, ending-most x (reserved_of os s));
        }

  module _ (x k jumps : ℕ) (v : Walk a size low s os ls w x k jumps) where
    -- no room at x, and so none above it
    pub walk_full : (b : Bool) → b ≡ room_at size x w → not b ≡ true → Answer None jumps
    walk_full b e f =
        answer None jumps
        (λ z c.
        let h = v.least z c in
        contrary (room_at size x w) (room_of size x w (ends-before size x z h c.ends) (window_before size z w (candidate_window z c) x h v.starts)) (sym e ∙ not-true b f))
        (omega (arith, v.few))

    -- past ranges that no candidate touches
    walk_past : (qs : List Range) → ((z : ℕ) → Candidate a size low (blocked_in os ls s) (w ∷ []) z → Free a size qs z) → (y j place more : ℕ) → Onward a size qs x y j → Stands ls s y place
        → more + (ending y (reserved_of os s) + count_of (of_space s) (drop place ls)) ≤ length (reserved_of os s) + count_of (of_space s) ls → Walk a size low s os ls w y place more
    walk_past qs free y j place more q h l = record {
      exact = q.exact v.exact;
      from = omega (arith, v.from, q.from);
      starts = omega (arith, v.starts, q.from);
      below = q.below;
      least = λ z c. q.least z (free z c) (v.least z c);
      stands = h;
      few = l;
    }

    -- ---- the bytes from x on meet the mapping at k

    module _ (e : meets ls k s (last_of x size) ≡ true) where
      abbrev met : Mapping
      met = get_or ls k zero_mapping

      met-place : k < length ls
      met-place = meets-place ls k s (last_of x size) e

      met-space : met.space ≡ s
      met-space = begins-space s (last_of x size) met (meets-begins ls k s (last_of x size) e)

      met-free : (z : ℕ) → Candidate a size low (blocked_in os ls s) (w ∷ []) z → Free a size (extent met ∷ []) z
      met-free z c = candidate_mapped z c k met-place met-space

      met-count : count_of (of_space s) (drop k ls) ≡ 1 + count_of (of_space s) (drop (k + 1) ls)
      unfolding of_space
      met-count = ap (count_of (of_space s)) (drop_turn ls zero_mapping k met-place) ∙ count_of-cons (of_space s) met (drop (k + 1) ls) ∙ rw (eq-eqb met.space s met-space) refl

      met-few : jumps + 1 + (ending x (reserved_of os s) + count_of (of_space s) (drop (k + 1) ls)) ≤ length (reserved_of os s) + count_of (of_space s) ls
      met-few = omega (arith, v.few, met-count)

      module _ (y : ℕ) (p : Some y ≡ past_of a size x (extent met)) where
        met-swept : Swept a size (extent met ∷ []) x (Some y) (jumps_to x y)
        met-swept = swept-one a size x (extent met) (Some y) v.below p y refl

        -- it is left behind
        met-end : end_of met < y
        unfolding end_of extent span any
        met-end =
            let sit = sits-some met (all-at sits ls zero_mapping g.sit k met-place) in
            by-test (eqb x y)
            (λ t.
            let q = eqb-true x y t in
            let no = or_not_left (share (span x size) (extent met)) false (met-swept.1 (sym q)) in
            omega (arith, sit, q, not_sharing x size met (span-some x size (omega (arith, v.below))) sit (begins-from s (last_of x size) met (meets-begins ls k s (last_of x size) e)) no))
            (λ t. omega (arith, sit, one-behind a size x y (extent met) met-swept.0 (eqb-false x y t)))

        met-stands : Stands ls s y (k + 1)
        met-stands = record {
          behind = λ j i l d.
              by-test (eqb j k)
              (λ u. rw (eqb-true j k u) met-end)
              (λ u. omega (arith, v.stands.behind j (omega (arith, eqb-false j k u)) l d, met-swept.0.from));
          onwards = λ j i l. v.stands.onwards j (omega arith) l;
        }

        met-on : Walk a size low s os ls w y (k + 1) (jumps + 1)
        met-on = walk_past (extent met ∷ []) met-free y (jumps_to x y) (k + 1) (jumps + 1) met-swept.0 met-stands (omega (arith, met-few, ending-later x y (reserved_of os s) met-swept.0.from))

      met-never : None ≡ past_of a size x (extent met) → (z : ℕ) → Candidate a size low (blocked_in os ls s) (w ∷ []) z → ⊥
      met-never p z c = (never-one a size x (extent met) None p refl).none z (met-free z c) (v.least z c)

    -- ---- a step, as the code makes it

    module _ (spot : Option ℕ) (place j : ℕ) (p : Stepped a size s ls (reserved_of os s) x k spot place j) where
      pub walk_sum : jumps + j ≤ length (reserved_of os s) + count_of (of_space s) ls
      walk_sum = go (meets ls k s (last_of x size)) refl p
        where
          swept : (r : Option ℕ) → Swept a size (reserved_of os s) x r j → jumps + j ≤ length (reserved_of os s) + count_of (of_space s) ls
          swept None q = omega (arith, q.fewer, v.few)
          swept (Some y) q = omega (arith, q.0.fewer, v.few)

          go : (b : Bool) → meets ls k s (last_of x size) ≡ b → StepBy b a size ls (reserved_of os s) x k spot place j → jumps + j ≤ length (reserved_of os s) + count_of (of_space s) ls
          go true m q = omega (arith, q.2, met-few m)
          go false m q = swept spot q.0

      pub walk_never : spot ≡ None → Answer None (jumps + j)
      walk_never e = answer None (jumps + j) (go (meets ls k s (last_of x size)) refl p) walk_sum
        where
          go : (b : Bool) → meets ls k s (last_of x size) ≡ b → StepBy b a size ls (reserved_of os s) x k spot place j → (z : ℕ) → Candidate a size low (blocked_in os ls s) (w ∷ []) z → ⊥
          go true m q z c = met-never m (sym e ∙ q.0) z c
          go false m q z c = let r = subst (λ (t : Option ℕ). Swept a size (reserved_of os s) x t j) e q.0 in r.none z (candidate_reserved z c) (v.least z c)

      module _ (y : ℕ) (e : spot ≡ Some y) where
        pub walk_on : Walk a size low s os ls w y place (jumps + j)
        walk_on = go (meets ls k s (last_of x size)) refl p
          where
            go : (b : Bool) → meets ls k s (last_of x size) ≡ b → StepBy b a size ls (reserved_of os s) x k spot place j → Walk a size low s os ls w y place (jumps + j)
            go true m q = rw (q.1, q.2) (met-on m y (sym e ∙ q.0))
            go false m q =
                let r = subst (λ (t : Option ℕ). Swept a size (reserved_of os s) x t j) e q.0 in
                rw q.1 (walk_past (reserved_of os s) candidate_reserved y j k (jumps + j) r.0
                (record { behind = λ i h l d. omega (arith, v.stands.behind i h l d, r.0.from); onwards = v.stands.onwards })
                (omega (arith, v.few, r.0.fewer)))

        -- nothing moved, and there is room
        pub walk_found : (b : Bool) → b ≡ room_at size x w → not b ≡ false → y ≡ x → place ≡ k → Answer (Some x) (jumps + j)
        walk_found b f h i l = answer (Some x) (jumps + j) (go (meets ls k s (last_of x size)) refl p, v.least) walk_sum
          where
            room : room_at size x w ≡ true
            room = sym f ∙ not-false b h

            go : (b : Bool) → meets ls k s (last_of x size) ≡ b → StepBy b a size ls (reserved_of os s) x k spot place j → Candidate a size low (blocked_in os ls s) (w ∷ []) x
            go true m q = absurd (omega (arith, q.1, l))
            go false m q =
                let r = subst (λ (t : Option ℕ). Swept a size (reserved_of os s) x t j) e q.0 in
                record {
                  exact = v.exact;
                  from = v.from;
                  ends = room-ends size x w room;
                  clear = any-blocked os ls s (span x size) ∙ or_neither (any (share (span x size)) (reserved_of os s)) (any (touches s (span x size)) ls) (r.1 i) (untouched s ls g.apart x size k v.stands m);
                  permitted = permits-one w (span x size) (room-window size x w room);
                }

        -- something moved: the walk comes nearer to its end
        pub walk_less : (y ≡ x → place ≡ k → ⊥) → (n - place) + (0x1_0000_0000_0000_0000 - y) < (n - k) + (0x1_0000_0000_0000_0000 - x)
        walk_less ne = go (meets ls k s (last_of x size)) refl p
          where
            top : length ls ≡ n
            top = length-view (take n ix) ms ∙ length-take n ix ∙ omega (arith, g.most, g.long)

            go : (b : Bool) → meets ls k s (last_of x size) ≡ b → StepBy b a size ls (reserved_of os s) x k spot place j → (n - place) + (0x1_0000_0000_0000_0000 - y) < (n - k) + (0x1_0000_0000_0000_0000 - x)
            go true m q = omega (arith, q.1, met-place m, top, (met-swept m y (sym e ∙ q.0)).0.from)
            go false m q =
                let r = subst (λ (t : Option ℕ). Swept a size (reserved_of os s) x t j) e q.0 in
                let d : y ≡ x → ⊥ = λ i. ne i q.1 in
                omega (arith, q.1, r.0.from, r.0.below, d)
