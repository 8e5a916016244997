-- What a list by space and address, in which each mapping ends before the next of its space begins, tells from one place: whether a range touches a mapping of the space
-- (`touched-is`), and which mapping holds it whole (`held-is`). Such a list is had exactly where no two mappings of a space share an address.
use Rattle.std.specs.Prelude.{ℕ, suc, ◌≤◌, ◌<◌, min, max, ◌≡◌, refl, Bool, false, ◌&&◌, cond, List, leb, ltb, get_or, Option, None, Some}
use Rattle.std.proofs.Common.{sym, ◌∙◌}
use Rattle.std.proofs.Math.Path.{ap}
use Rattle.std.proofs.Math.Bool.{true, not}
use native.Mathlib.Omega.{arith}
use Rattle.std.proofs.Math.Dec.{eqb}
use borrow.Author.Tests.{leb-true, leb-false, le-leb, ltb-true, ltb-false, eqb-true, eq-eqb, ne_eqb, not-true, not-false}
use Rattle.lists.specs.Tests.{by-test, and_left, and_right, and_both, and_not_left}
use Rattle.lists.specs.Search.{any, all, find, find-any_false}
use Rattle.lists.specs.Pairs.{clashes}
use Rattle.lists.specs.Sums.{count_of, find-only}
use Rattle.ranges.specs.declared.Range.{Range}
use Rattle.ranges.specs.Ranges.{U64MAX, holds, holds-from, holds-upto, share, shared_start, shared_last, inside, inside-from, inside-upto, span, span-some, last_of}
use Rattle.sorted.specs.Sorted.{ordered, all_true, linked, linked-is, latest, latest-place, latest-prior, passing, prior, any-latest, ordered-once, ordered-clear, ordered-mono}
use Rattle.rules_table.specs.declared.Mapping.{Mapping}
use Rattle.rules_table.specs.Records.{zero_mapping, used, of_space, extent, touches, covers}
use Rattle.rules_table.specs.Good.{together, apart}
use Rattle.rules_calls.specs.Copy.{is_source, source_of}
use Rattle.rules_calls.specs.Reach.{around}
use Rattle.rules_index.specs.Index.{lex, ahead, below, mapping_at, view}
use Rattle.table.specs.Sound.{apart-once, once-apart}
use Rattle.index.specs.Listing.{lex-elim, lex-less, lex-same, length-view, get_d_view, Lists, lists-used, lists-count, lists-any, used-place}

-- the last address of a mapping, and its first where it has none
unfoldable pub end_of : Mapping → ℕ
end_of m = max m.address (last_of m.address m.length)

-- m ends before n begins: in a lower space, or in the same one
unfoldable pub before : Mapping → Mapping → Bool
before m n = lex m.space (suc (end_of m)) n.space n.address

module _ (x y : Mapping) (e : before x y ≡ true) where
  pub before-space : x.space ≤ y.space
  unfolding before
  before-space = lex-elim x.space (suc (end_of x)) y.space y.address e (λ h. omega arith) (λ h k. omega arith)

  pub before-end : x.space ≡ y.space → end_of x < y.address
  unfolding before
  before-end s = lex-elim x.space (suc (end_of x)) y.space y.address e (λ h. absurd (omega arith)) (λ h k. omega arith)

pub end_from : (m : Mapping) → m.address ≤ end_of m
unfolding end_of
end_from m = omega arith

pub end_last : (m : Mapping) → last_of m.address m.length ≤ end_of m
unfolding end_of
end_last m = omega arith

before_of : (x y : Mapping) → x.space ≤ y.space → (x.space ≡ y.space → end_of x < y.address) → before x y ≡ true
unfolding before
before_of x y s f =
    by-test (ltb x.space y.space)
    (λ t. lex-less x.space (suc (end_of x)) y.space y.address (ltb-true x.space y.space t))
    (λ t. let q : x.space ≡ y.space = omega (arith, ltb-false x.space y.space t) in lex-same x.space (suc (end_of x)) y.space y.address q (f q))

pub before-trans : (x y z : Mapping) → before x y ≡ true → before y z ≡ true → before x z ≡ true
before-trans x y z e f =
    before_of x z (omega (arith, before-space x y e, before-space y z f))
    (λ s. let a = before-end x y e (omega (arith, before-space x y e, before-space y z f)) in let b = before-end y z f (omega (arith, before-space x y e, before-space y z f)) in omega (arith, end_from y))

-- neighbours are enough
pub before-linked : (ms : List Mapping) → linked before ms ≡ ordered before ms
before-linked ms = linked-is before before-trans ms

pub before-ahead : (x y : Mapping) → before x y ≡ true → ahead x y ≡ true
unfolding before below
before-ahead x y e =
    lex-elim x.space (suc (end_of x)) y.space y.address e
    (λ h. lex-less x.space (suc x.address) y.space y.address h)
    (λ h k. lex-same x.space (suc x.address) y.space y.address h (omega (arith, end_from x)))

-- a used record whose first address is one
unfoldable pub sits : Mapping → Bool
sits m = used m && leb m.address U64MAX

pub sits-used : (m : Mapping) → sits m ≡ true → used m ≡ true
unfolding sits
sits-used m e = and_left (used m) (leb m.address U64MAX) e

pub sits-some : (m : Mapping) → sits m ≡ true → m.address ≤ last_of m.address m.length
unfolding sits
sits-some m e = span-some m.address m.length (leb-true m.address U64MAX (and_right (used m) (leb m.address U64MAX) e))

-- ---- no two share an address

pub free-covers : (s a : ℕ) (m : Mapping) → used m ≡ false → covers s a m ≡ false
unfolding covers
free-covers s a m u = rw u refl

covers-space : (s a : ℕ) (m : Mapping) → covers s a m ≡ true → m.space ≡ s
unfolding covers of_space
covers-space s a m e = eqb-true m.space s (and_left (eqb m.space s) (holds (extent m) a) (and_right (used m) (eqb m.space s && holds (extent m) a) e))

covers-holds : (s a : ℕ) (m : Mapping) → covers s a m ≡ true → (m.address ≤ a) × (a ≤ last_of m.address m.length)
unfolding covers extent span
covers-holds s a m e = let h = and_right (of_space s m) (holds (extent m) a) (and_right (used m) (of_space s m && holds (extent m) a) e) in (holds-from (extent m) a h, holds-upto (extent m) a h)

before-once : (s a : ℕ) (x y : Mapping) → before x y ≡ true → covers s a x ≡ true → covers s a y ≡ true → ⊥
before-once s a x y e f g =
    let q : x.space ≡ y.space = covers-space s a x f ∙ sym (covers-space s a y g) in
    let p = covers-holds s a x f in let r = covers-holds s a y g in
    omega (arith, before-end x y e q, end_last x, p.1, r.0)

-- in order, and not together: the one ends before the other
clear-before : (x y : Mapping) → sits x ≡ true → sits y ≡ true → ahead x y ≡ true → together x y ≡ false → before x y ≡ true
unfolding below together extent span share shared_start shared_last end_of
clear-before x y p q e f =
    lex-elim x.space (suc x.address) y.space y.address e
    (λ h. before_of x y (omega arith) (λ s. absurd (omega arith)))
    (λ h k.
    let lx = last_of x.address x.length in
    let ly = last_of y.address y.length in
    let no : leb (max x.address y.address) (min lx ly) ≡ false = sym (rw (sits-used x p, eq-eqb x.space y.space h)) ∙ f in
    let n = leb-false (max x.address y.address) (min lx ly) no in
    before_of x y (omega arith) (λ s. omega (arith, sits-some x p, sits-some y q)))

module _ (xs : List ℕ) (ms : List Mapping) (l : Lists xs ms) where
  pub before-apart : ordered before (view xs ms) ≡ true → apart ms ≡ true
  before-apart e = once-apart ms (λ s a. omega (arith, lists-count xs ms l (covers s a) (free-covers s a), ordered-once before (covers s a) (before-once s a) (view xs ms) e))

  pub apart-before : all sits (view xs ms) ≡ true → apart ms ≡ true → ordered before (view xs ms) ≡ true
  unfolding apart
  apart-before g e =
      let a : apart (view xs ms) ≡ true = once-apart (view xs ms) (λ s a. omega (arith, lists-count xs ms l (covers s a) (free-covers s a), apart-once ms e s a)) in
      ordered-mono sits (λ x y. ahead x y && not (together x y)) before (view xs ms) step g (ordered-clear ahead together (view xs ms) l.order (not-true (clashes together (view xs ms)) a))
    where
      step : (x y : Mapping) → sits x ≡ true → sits y ≡ true → (ahead x y && not (together x y)) ≡ true → before x y ≡ true
      step x y p q f = clear-before x y p q (and_left (ahead x y) (not (together x y)) f) (not-true (together x y) (and_right (ahead x y) (not (together x y)) f))

-- ---- a search from one place

-- m begins at or before address x of space s
unfoldable pub up_to : ℕ → ℕ → Mapping → Bool
up_to s x m = lex m.space m.address s x

-- whatever stands before one that does, does
pub ahead-up_to : (s a : ℕ) (x y : Mapping) → ahead x y ≡ true → up_to s a y ≡ true → up_to s a x ≡ true
unfolding below up_to
ahead-up_to s a x y e f =
    lex-elim x.space (suc x.address) y.space y.address e
    (λ h. lex-elim y.space y.address s a f (λ k. lex-less x.space x.address s a (omega arith)) (λ k m. lex-less x.space x.address s a (omega arith)))
    (λ h g. lex-elim y.space y.address s a f (λ k. lex-less x.space x.address s a (omega arith)) (λ k m. lex-same x.space x.address s a (h ∙ k) (omega arith)))

pub up_to-space : (s a : ℕ) (m : Mapping) → up_to s a m ≡ true → m.space ≤ s
unfolding up_to
up_to-space s a m e = lex-elim m.space m.address s a e (λ h. omega arith) (λ h k. omega arith)

pub up_to-from : (s a : ℕ) (m : Mapping) → up_to s a m ≡ true → m.space ≡ s → m.address ≤ a
unfolding up_to
up_to-from s a m e q = lex-elim m.space m.address s a e (λ h. absurd (omega arith)) (λ h k. k)

pub up_to-of : (s a : ℕ) (m : Mapping) → m.space ≡ s → m.address ≤ a → up_to s a m ≡ true
unfolding up_to
up_to-of s a m q h = lex-same m.space m.address s a q h

-- how many begin at or before it: the place where a search goes in
unfoldable pub until : List Mapping → ℕ → ℕ → ℕ
until ls s x = count_of (up_to s x) ls

-- how many begin before it
unfoldable pub since : List Mapping → ℕ → ℕ → ℕ
since ls s x = count_of (below s x) ls

pub ahead-below : (s a : ℕ) (x y : Mapping) → ahead x y ≡ true → below s a y ≡ true → below s a x ≡ true
unfolding below
ahead-below s a x y e f =
    lex-elim x.space (suc x.address) y.space y.address e
    (λ h. lex-elim y.space (suc y.address) s a f (λ k. lex-less x.space (suc x.address) s a (omega arith)) (λ k m. lex-less x.space (suc x.address) s a (omega arith)))
    (λ h g. lex-elim y.space (suc y.address) s a f (λ k. lex-less x.space (suc x.address) s a (omega arith)) (λ k m. lex-same x.space (suc x.address) s a (h ∙ k) (omega arith)))

-- the range touches the last mapping that begins at or before its end
unfoldable pub touched_in : List Mapping → ℕ → Range → Bool
touched_in ls s r = passing (touches s r) (prior zero_mapping ls (until ls s r.last))

module _ (s : ℕ) (r : Range) (m : Mapping) where
  pub touches-space : touches s r m ≡ true → m.space ≡ s
  unfolding touches of_space
  touches-space e = eqb-true m.space s (and_left (eqb m.space s) (share r (extent m)) e)

  pub touches-meet : touches s r m ≡ true → (r.start ≤ last_of m.address m.length) × (m.address ≤ r.last) × (r.start ≤ r.last)
  unfolding touches share shared_start shared_last extent span
  touches-meet e = let h = leb-true (shared_start r (extent m)) (shared_last r (extent m)) (and_right (of_space s m) (share r (extent m)) e) in (omega arith, omega arith, omega arith)

  pub touches-of : m.space ≡ s → r.start ≤ r.last → m.address ≤ last_of m.address m.length → r.start ≤ last_of m.address m.length → m.address ≤ r.last → touches s r m ≡ true
  unfolding touches share shared_start shared_last extent span of_space
  touches-of q a b c d = and_both (of_space s m) (share r (extent m)) (eq-eqb m.space s q) (le-leb (shared_start r (extent m)) (shared_last r (extent m)) (omega arith))

-- THE LEMMA, over the list alone
pub touched-here : (ls : List Mapping) (s : ℕ) (r : Range) → all sits ls ≡ true → ordered before ls ≡ true → any (touches s r) ls ≡ touched_in ls s r
unfolding touched_in until
touched-here ls s r g e =
    any-latest before (touches s r) (up_to s r.last) sits narrow onward ls g e
    ∙ ap (passing (touches s r)) (latest-prior before (up_to s r.last) (λ x y b. ahead-up_to s r.last x y (before-ahead x y b)) ls zero_mapping e)
  where
    narrow : (x : Mapping) → touches s r x ≡ true → up_to s r.last x ≡ true
    narrow x t = up_to-of s r.last x (touches-space s r x t) (touches-meet s r x t).1

    onward : (x y : Mapping) → sits y ≡ true → before x y ≡ true → up_to s r.last y ≡ true → touches s r x ≡ true → touches s r y ≡ true
    onward x y u b q t =
        let sx = touches-space s r x t in
        let sy : y.space ≡ s = omega (arith, before-space x y b, up_to-space s r.last y q, sx) in
        let m = touches-meet s r x t in
        let b2 = before-end x y b (sx ∙ sym sy) in
        touches-of s r y sy m.2 (sits-some y u) (omega (arith, m.0, end_last x, b2, sits-some y u)) (up_to-from s r.last y q sy)

-- and so of the records
pub free-touches : (s : ℕ) (r : Range) → 0 < s → (m : Mapping) → used m ≡ false → touches s r m ≡ false
unfolding touches of_space used
free-touches s r h m u = let z = eqb-true m.space 0 (not-false (eqb m.space 0) u) in and_not_left (eqb m.space s) (share r (extent m)) (ne_eqb m.space s (λ q. omega (arith, q, z, h)))

pub touched-is : (xs : List ℕ) (ms : List Mapping) (s : ℕ) (r : Range) → Lists xs ms → all sits (view xs ms) ≡ true → ordered before (view xs ms) ≡ true → 0 < s
    → any (touches s r) ms ≡ touched_in (view xs ms) s r
touched-is xs ms s r l g e h = sym (lists-any xs ms l (touches s r) (free-touches s r h)) ∙ touched-here (view xs ms) s r g e

-- ---- where at most one mapping passes a test

abbrev pub only_the : {A : Type 0} → (A → Bool) → Option A → Option A
only_the p None = None
only_the p (Some a) = cond (p a) (Some a) None

pub record_at-is : (ms : List Mapping) (k : ℕ) → mapping_at ms (suc k) ≡ get_or ms k zero_mapping
unfolding mapping_at
record_at-is ms k = refl

-- THE LEMMA for a test that passes only mappings that begin at or before address x of space s, and none with another such mapping behind it
module _ (xs : List ℕ) (ms : List Mapping) (s x : ℕ) (t : Mapping → Bool) (l : Lists xs ms) (e : ordered before (view xs ms) ≡ true)
    (free : (m : Mapping) → used m ≡ false → t m ≡ false) (narrow : (m : Mapping) → t m ≡ true → up_to s x m ≡ true)
    (alone : (m n : Mapping) → before m n ≡ true → t m ≡ true → up_to s x n ≡ true → ⊥) where
  alone-once : count_of t ms ≤ 1
  alone-once = omega (arith, lists-count xs ms l t free, ordered-once before t (λ m n b p q. alone m n b p (narrow n q)) (view xs ms) e)

  -- by the last one in the list
  alone-any : any t ms ≡ passing t (latest (up_to s x) (view xs ms))
  alone-any =
      sym (lists-any xs ms l t free)
      ∙ any-latest before t (up_to s x) (λ m. true) narrow (λ m n u b q p. absurd (alone m n b p q)) (view xs ms) (all_true (view xs ms)) e

  alone-latest : find t ms ≡ only_the t (latest (up_to s x) (view xs ms))
  alone-latest = go (latest (up_to s x) (view xs ms)) refl
    where
      go : (o : Option Mapping) → latest (up_to s x) (view xs ms) ≡ o → find t ms ≡ only_the t o
      go None f = find-any_false t ms (alone-any ∙ ap (passing t) f)
      go (Some y) f =
          by-test (t y)
          (λ p.
          let pl = latest-place (up_to s x) (view xs ms) zero_mapping y f in
          let k = get_or xs pl.0 0 in
          let yk : y ≡ mapping_at ms k = pl.2 ∙ get_d_view xs ms pl.0 in
          let up = used-place ms k (lists-used xs ms l pl.0 (omega (arith, pl.1, length-view xs ms))) in
          let yg : y ≡ get_or ms up.0 zero_mapping = yk ∙ ap (mapping_at ms) up.1 ∙ record_at-is ms up.0 in
          rw p (find-only t t (λ m q. q) ms zero_mapping alone-once up.0 up.2 (rw (← yg) p) ∙ ap Some (sym yg)))
          (λ p. rw p (find-any_false t ms (alone-any ∙ ap (passing t) f ∙ p)))

  pub alone-is : find t ms ≡ only_the t (prior zero_mapping (view xs ms) (until (view xs ms) s x))
  unfolding until
  alone-is = alone-latest ∙ ap (only_the t) (latest-prior before (up_to s x) (λ m n b. ahead-up_to s x m n (before-ahead m n b)) (view xs ms) zero_mapping e)

-- ---- the mapping that holds a range whole

unfoldable pub wraps : ℕ → Range → Mapping → Bool
wraps s r m = of_space s m && inside r (extent m)

-- the last mapping that begins at or before the start of the range, if it holds the range
unfoldable pub held_in : List Mapping → ℕ → Range → Option Mapping
held_in ls s r = only_the (wraps s r) (prior zero_mapping ls (until ls s r.start))

module _ (s : ℕ) (r : Range) (m : Mapping) (e : wraps s r m ≡ true) where
  wraps-space : m.space ≡ s
  unfolding wraps of_space
  wraps-space = eqb-true m.space s (and_left (eqb m.space s) (inside r (extent m)) e)

  wraps-from : m.address ≤ r.start
  unfolding wraps extent span
  wraps-from = inside-from r (extent m) (and_right (of_space s m) (inside r (extent m)) e)

  wraps-upto : r.last ≤ last_of m.address m.length
  unfolding wraps extent span
  wraps-upto = inside-upto r (extent m) (and_right (of_space s m) (inside r (extent m)) e)

pub free-wraps : (s : ℕ) (r : Range) → 0 < s → (m : Mapping) → used m ≡ false → wraps s r m ≡ false
unfolding wraps of_space used
free-wraps s r h m u = let z = eqb-true m.space 0 (not-false (eqb m.space 0) u) in and_not_left (eqb m.space s) (inside r (extent m)) (ne_eqb m.space s (λ q. omega (arith, q, z, h)))

-- reach: the mapping that holds the interval
pub held-is : (xs : List ℕ) (ms : List Mapping) (s : ℕ) (r : Range) → Lists xs ms → ordered before (view xs ms) ≡ true → 0 < s → r.start ≤ r.last → around ms s r ≡ held_in (view xs ms) s r
unfolding around held_in wraps
held-is xs ms s r l e h some-address =
    alone-is xs ms s r.start (wraps s r) l e (free-wraps s r h)
    (λ m t. up_to-of s r.start m (wraps-space s r m t) (wraps-from s r m t))
    (λ m n b t q.
    let sn : n.space ≡ s = omega (arith, before-space m n b, up_to-space s r.start n q, wraps-space s r m t) in
    omega (arith, before-end m n b (wraps-space s r m t ∙ sym sn), end_last m, wraps-upto s r m t, up_to-from s r.start n q sn, some-address))

-- ---- the source of a COPY

module _ (s a n : ℕ) (m : Mapping) (e : is_source s a n m ≡ true) where
  source-space : m.space ≡ s
  unfolding is_source of_space
  source-space = eqb-true m.space s (and_left (eqb m.space s) (eqb m.address a && eqb m.length n) e)

  source-from : m.address ≡ a
  unfolding is_source of_space
  source-from = eqb-true m.address a (and_left (eqb m.address a) (eqb m.length n) (and_right (eqb m.space s) (eqb m.address a && eqb m.length n) e))

pub free_source : (s a n : ℕ) → 0 < s → (m : Mapping) → used m ≡ false → is_source s a n m ≡ false
unfolding is_source of_space used
free_source s a n h m u = let z = eqb-true m.space 0 (not-false (eqb m.space 0) u) in and_not_left (eqb m.space s) (eqb m.address a && eqb m.length n) (ne_eqb m.space s (λ q. omega (arith, q, z, h)))

-- the last mapping that begins at or before the address, if it is the one named
pub source_is : (xs : List ℕ) (ms : List Mapping) (s a n : ℕ) → Lists xs ms → ordered before (view xs ms) ≡ true → 0 < s
    → source_of ms s a n ≡ only_the (is_source s a n) (prior zero_mapping (view xs ms) (until (view xs ms) s a))
unfolding source_of
source_is xs ms s a n l e h =
    alone-is xs ms s a (is_source s a n) l e (free_source s a n h)
    (λ m t. up_to-of s a m (source-space s a n m t) (omega (arith, source-from s a n m t)))
    (λ m k b t q.
    let sk : k.space ≡ s = omega (arith, before-space m k b, up_to-space s a k q, source-space s a n m t) in
    omega (arith, before-end m k b (source-space s a n m t ∙ sym sk), end_from m, source-from s a n m t, up_to-from s a k q sk))
