-- The pass over the records that marks the first record of each backing.
use Rattle.std.specs.Prelude.{Option, None, Some}
use Rattle.std.proofs.Common.{◌≡◌, ℕ, ◌+◌, ◌-◌, ◌*◌, ◌^◌, ◌<◌, ◌≤◌, min, Bool, true, false, cond, not, eqb, List, [], ◌∷◌, ◌++◌, length, get_or, take, set, replicate, sym, refl, ap, ◌∙◌, arith, length-set, length-take, take_all, get_or-set_other, get_or-take, get_or-set_same, ne_eqb, eqb-true}
use lib.ListN.{length-replicate, get_or-replicate}
use borrow.Author.Tests.{eqb-false}
use Rattle.lists.specs.Tests.{by-test, contrary, only_if, or_neither, and_not_right}
use Rattle.lists.specs.Search.{any, any-slot, all, all_nil, seek, seek-none, seek-any_false, seek-some_lt, seek-cons_true}
use Rattle.lists.specs.Sums.{count_of, count_of-length, sum_of-cons, sum_of-nil, sum_of-append}
use Rattle.lists.specs.Counting.{count_of-nil}
use Rattle.lists.specs.Pairs.{clashes, clashes-nil}
use Rattle.rules_table.specs.declared.Mapping.{Mapping}
use Rattle.rules_table.specs.Records.{used, zero_mapping}
use Rattle.rules_table.specs.Charge.{backs, charge}
use Rattle.table.specs.Charged.{backs-of}
use Rattle.rules_table.specs.Good.{differ, backings_agree}
use Rattle.records.specs.Alone.{numbered, numbered-used, numbered-most}
use Rattle.lists.specs.Ends.{take_turn, all-turn, seek-append_some, seek-append_none, seek-append_other, clashes-append, clashes-at}
use Rattle.records.specs.Charging.{differ_self, agree-first, agree-none, differ-parts, charge-nil, charge-append, leader_place, mark_after, added_by}
use Rattle.layout_mappings.specs.Words.{is_empty}
use Rattle.check_mappings.specs.Told.{mark_of}
use Rattle.check_mappings.proofs.Emptying.{empty-released, empty-backing, empty-numbered}

-- one more record of a backing has the mark that stands, or the first
mark_own : (p : Mapping → Bool) (xs : List Mapping) (a : Mapping) → p a ≡ true → mark_after (mark_of (seek p 0 xs)) (length xs) ≡ mark_of (seek p 0 (xs ++ a ∷ []))
unfolding mark_after
mark_own p xs a e = go (seek p 0 xs) refl
  where
    go : (o : Option ℕ) → seek p 0 xs ≡ o → mark_after (mark_of (seek p 0 xs)) (length xs) ≡ mark_of (seek p 0 (xs ++ a ∷ []))
    go None f = rw (f, seek-append_none p 0 xs (a ∷ []) (seek-none p 0 xs f), seek-cons_true p (0 + length xs) a [] e) (omega arith)
    go (Some k) f = rw (f, seek-append_some p 0 xs (a ∷ []) k f, ne_eqb (k + 1) 0 (λ z. omega (arith, z)))

-- one more record is counted where it passes
count-one : (p : Mapping → Bool) (xs : List Mapping) (m : Mapping) (b : Bool) → p m ≡ b → count_of p (xs ++ m ∷ []) ≡ count_of p xs + only_if b 1
unfolding count_of
count-one p xs m b e = sum_of-append (λ x. only_if (p x) 1) xs (m ∷ []) ∙ rw (sum_of-cons (λ x. only_if (p x) 1) m [], sum_of-nil (λ x. only_if (p x) 1), e) (omega arith)

-- after i records: their backings have numbers, the marks of the backings, how many are in use, the pages of the backings that have a mark, and that no two records differ
pub record Seen (ms : List Mapping) (i count sum : ℕ) (marks : List ℕ) : Type 0 where
  pub many : length ms ≡ 128
  pub upto : i ≤ 128
  pub room : length marks ≡ 129
  pub numbers : all numbered (take i ms) ≡ true
  pub marked : (b : ℕ) → 1 ≤ b → b ≤ 128 → get_or marks b 0 ≡ mark_of (seek (backs b) 0 (take i ms))
  pub agree : clashes differ (take i ms) ≡ false
  pub counts : count ≡ count_of used (take i ms)
  pub total : sum ≡ charge (take i ms)
  pub small : sum ≤ i * 2 ^ 53

pub seen_start : (ms : List Mapping) → length ms ≡ 128 → Seen ms 0 0 0 (replicate 129 0)
unfolding seek
seen_start ms h = record {
  many = h;
  upto = omega arith;
  room = length-replicate {A = ℕ} 129 0;
  numbers = all_nil numbered;
  marked = λ b f l. get_or-replicate {A = ℕ} 129 b 0 0 (omega arith);
  agree = clashes-nil differ;
  counts = sym (count_of-nil used);
  total = sym charge-nil;
  small = omega arith;
}

-- no more than the records seen
pub seen_few : (ms : List Mapping) (i count sum : ℕ) (marks : List ℕ) → Seen ms i count sum marks → count ≤ i
seen_few ms i count sum marks s = omega (arith, s.counts, count_of-length used (take i ms), length-take i ms)

-- after all of them
module _ (ms : List Mapping) (i count sum : ℕ) (marks : List ℕ) (s : Seen ms i count sum marks) (h : 128 ≤ i) where
  whole : take i ms ≡ ms
  whole = take_all i ms (omega (arith, s.many))

  pub seen-agree : backings_agree ms ≡ true
  unfolding backings_agree
  seen-agree = rw (sym (ap (clashes differ) whole) ∙ s.agree)

  pub seen-count : count ≡ count_of used ms
  seen-count = s.counts ∙ ap (count_of used) whole

  pub seen-charge : sum ≡ charge ms
  seen-charge = s.total ∙ ap charge whole

  pub seen-firsts : (b : ℕ) → 1 ≤ b → b ≤ 128 → get_or marks b 0 ≡ mark_of (seek (backs b) 0 ms)
  seen-firsts b f l = s.marked b f l ∙ ap (λ (l : List Mapping). mark_of (seek (backs b) 0 l)) whole

-- the record at place i, the mark of its backing, and the first record that has it
abbrev pub here : List Mapping → ℕ → Mapping
here ms i = get_or ms i zero_mapping

abbrev pub mark_here : List Mapping → List ℕ → ℕ → ℕ
mark_here ms marks i = get_or marks (here ms i).backing 0

abbrev pub leader : List Mapping → List ℕ → ℕ → Mapping
leader ms marks i = get_or ms (leader_place (mark_here ms marks i) i) zero_mapping

-- one turn
module _ (ms : List Mapping) (i count sum : ℕ) (marks : List ℕ) (s : Seen ms i count sum marks) (h : i < 128) (num : numbered (here ms i) ≡ true) (u : used (here ms i) ≡ true) where
  pub backing-most : (here ms i).backing ≤ 128
  backing-most = numbered-most (here ms i) num

  seen-mark : mark_here ms marks i ≡ mark_of (seek (backs (here ms i).backing) 0 (take i ms))
  seen-mark = s.marked (here ms i).backing (numbered-used (here ms i) num u).0 backing-most

  length_seen : length (take i ms) ≡ i
  length_seen = length-take i ms ∙ (let e : min i (length ms) ≡ i = omega (arith, s.many) in e)

  -- the first record of the backing is among those seen, or is this one
  pub leader-most : leader_place (mark_here ms marks i) i ≤ i
  unfolding leader_place
  leader-most = rw seen-mark (go (seek (backs (here ms i).backing) 0 (take i ms)) refl)
    where
      go : (o : Option ℕ) → seek (backs (here ms i).backing) 0 (take i ms) ≡ o → cond (eqb (mark_of o) 0) i (mark_of o - 1) ≤ i
      go None e = omega arith
      go (Some k) e = rw (ne_eqb (k + 1) 0 (λ z. omega (arith, z))) (omega (arith, (seek-some_lt (backs (here ms i).backing) 0 (take i ms) k e).1, length_seen))

  -- what was asked of the record at place k, in the words of the definition
  asked : (k : ℕ) (r t : Bool) → k ≡ leader_place (mark_here ms marks i) i → r ≡ differ (get_or ms k zero_mapping) (here ms i) → r ≡ t → differ (leader ms marks i) (here ms i) ≡ t
  asked k r t e f g = ap (λ (n : ℕ). differ (get_or ms n zero_mapping) (here ms i)) (sym e) ∙ sym f ∙ g

  pub seen-disagree : (k : ℕ) (r : Bool) → k ≡ leader_place (mark_here ms marks i) i → r ≡ differ (get_or ms k zero_mapping) (here ms i) → r ≡ true → backings_agree ms ≡ false
  unfolding backings_agree
  seen-disagree k r e f g =
      by-test (eqb (leader_place (mark_here ms marks i) i) i)
      (λ t. contrary (differ (here ms i) (here ms i)) (sym (ap (λ (n : ℕ). differ (get_or ms n zero_mapping) (here ms i)) (eqb-true (leader_place (mark_here ms marks i) i) i t)) ∙ asked k r true e f g) (differ_self (here ms i)))
      (λ t. rw (clashes-at differ ms zero_mapping (leader_place (mark_here ms marks i) i) i (omega (arith, leader-most, eqb-false (leader_place (mark_here ms marks i) i) i t)) (omega (arith, s.many)) (asked k r true e f g)))

  -- no mark: no record seen has the backing
  mark_none : eqb (mark_here ms marks i) 0 ≡ not (any (backs (here ms i).backing) (take i ms))
  mark_none = rw seen-mark (go (seek (backs (here ms i).backing) 0 (take i ms)) refl)
    where
      go : (o : Option ℕ) → seek (backs (here ms i).backing) 0 (take i ms) ≡ o → eqb (mark_of o) 0 ≡ not (any (backs (here ms i).backing) (take i ms))
      go None e = rw (seek-none (backs (here ms i).backing) 0 (take i ms) e)
      go (Some k) e =
          by-test (any (backs (here ms i).backing) (take i ms))
          (λ t. rw t (ne_eqb (k + 1) 0 (λ z. omega (arith, z))))
          (λ t. let f = seek-any_false (backs (here ms i).backing) 0 (take i ms) t in let z : ◌≡◌ {A = ℕ} 0 1 = cc in absurd (omega arith))

  none_differ : differ (leader ms marks i) (here ms i) ≡ false → any (λ y. differ y (here ms i)) (take i ms) ≡ false
  unfolding leader_place
  none_differ d = go (seek (backs (here ms i).backing) 0 (take i ms)) refl (sym (rw seen-mark) ∙ d)
    where
      go : (o : Option ℕ) → seek (backs (here ms i).backing) 0 (take i ms) ≡ o → differ (get_or ms (cond (eqb (mark_of (seek (backs (here ms i).backing) 0 (take i ms))) 0) i (mark_of (seek (backs (here ms i).backing) 0 (take i ms)) - 1)) zero_mapping) (here ms i) ≡ false → any (λ y. differ y (here ms i)) (take i ms) ≡ false
      go None e f = agree-none (take i ms) (here ms i) (seek-none (backs (here ms i).backing) 0 (take i ms) e)
      go (Some k) e f =
          let l : k < i = omega (arith, (seek-some_lt (backs (here ms i).backing) 0 (take i ms) k e).1, length_seen) in
          let z : k + 1 - 1 ≡ k = omega arith in
          agree-first (take i ms) s.numbers (here ms i) k s.agree e
          (rw (get_or-take i ms k zero_mapping l) (sym (rw (e, ne_eqb (k + 1) 0 (λ q. omega (arith, q)), z)) ∙ f))

  turn : take (i + 1) ms ≡ take i ms ++ here ms i ∷ []
  turn = take_turn ms zero_mapping i (omega (arith, s.many))

  -- the marks with one more record
  marks-on : (next : ℕ) → next ≡ mark_after (mark_here ms marks i) i → (b : ℕ) → 1 ≤ b → b ≤ 128
      → get_or (set marks (here ms i).backing next) b 0 ≡ mark_of (seek (backs b) 0 (take (i + 1) ms))
  unfolding backs
  marks-on next e b f l =
      by-test (eqb (here ms i).backing b)
      (λ t. let q : (here ms i).backing ≡ b = eqb-true (here ms i).backing b t in rw (← q) own)
      (λ t. rw turn
      (get_or-set_other marks (here ms i).backing b next 0 (λ q. eqb-false (here ms i).backing b t (sym q))
      ∙ s.marked b f l
      ∙ ap mark_of (sym (seek-append_other (backs b) 0 (take i ms) (here ms i) t))))
    where
      own : get_or (set marks (here ms i).backing next) (here ms i).backing 0 ≡ mark_of (seek (backs (here ms i).backing) 0 (take (i + 1) ms))
      own =
          rw turn
          (get_or-set_same marks (here ms i).backing next 0 (omega (arith, s.room, backing-most))
          ∙ e
          ∙ ap (λ (n : ℕ). mark_after n i) seen-mark
          ∙ ap (mark_after (mark_of (seek (backs (here ms i).backing) 0 (take i ms)))) (sym length_seen)
          ∙ mark_own (backs (here ms i).backing) (take i ms) (here ms i) (backs-of (here ms i).backing (here ms i) refl))

  pub seen-on : (k next added : ℕ) (r : Bool) → k ≡ leader_place (mark_here ms marks i) i → r ≡ differ (get_or ms k zero_mapping) (here ms i) → r ≡ false
      → added ≡ added_by (mark_here ms marks i) (here ms i) → added ≤ 2 ^ 53
      → next ≡ mark_after (mark_here ms marks i) i
      → Seen ms (i + 1) (count + 1) (sum + added) (set marks (here ms i).backing next)
  unfolding added_by
  seen-on k next added r p q d e f g = record {
    many = s.many;
    upto = omega arith;
    room = length-set marks (here ms i).backing next ∙ s.room;
    numbers = all-turn numbered ms zero_mapping i (omega (arith, s.many)) s.numbers num;
    marked = marks-on next g;
    agree = rw (turn, clashes-append differ (take i ms) (here ms i)) (or_neither (clashes differ (take i ms)) (any (λ y. differ y (here ms i)) (take i ms)) s.agree (none_differ (asked k r false p q d)));
    counts = rw turn (omega (arith, s.counts, count-one used (take i ms) (here ms i) true u));
    total = rw (turn, charge-append (take i ms) (here ms i) num, ← mark_none, ← e, ← s.total);
    small = omega (arith, s.small);
  }

-- ---- a record that is passed over

-- a released record differs from none
none-released : (ms : List Mapping) (m : Mapping) → used m ≡ false → any (λ y. differ y m) ms ≡ false
none-released ms m e =
    by-test (any (λ y. differ y m) ms)
    (λ t. let w = any-slot (λ y. differ y m) ms zero_mapping t in contrary (used m) (differ-parts (get_or ms w.0 zero_mapping) m w.2).1 e)
    (λ t. t)

other-backing : (m : Mapping) (b : ℕ) → m.backing ≡ 0 → 1 ≤ b → backs b m ≡ false
unfolding backs
other-backing m b e h = ne_eqb m.backing b (λ z. omega (arith, e, z))

module _ (ms : List Mapping) (i count sum : ℕ) (marks : List ℕ) (s : Seen ms i count sum marks) (h : i < 128) (e : is_empty (here ms i) ≡ true) where
  next : take (i + 1) ms ≡ take i ms ++ here ms i ∷ []
  next = take_turn ms zero_mapping i (omega (arith, s.many))

  -- the marks and the sum stand
  pub seen_skip : Seen ms (i + 1) count sum marks
  seen_skip = record {
    many = s.many;
    upto = omega arith;
    room = s.room;
    numbers = all-turn numbered ms zero_mapping i (omega (arith, s.many)) s.numbers (empty-numbered (here ms i) e);
    marked = λ b f l. rw next (s.marked b f l ∙ ap mark_of (sym (seek-append_other (backs b) 0 (take i ms) (here ms i) (other-backing (here ms i) b (empty-backing (here ms i) e) f))));
    agree = rw (next, clashes-append differ (take i ms) (here ms i)) (or_neither (clashes differ (take i ms)) (any (λ y. differ y (here ms i)) (take i ms)) s.agree (none-released (take i ms) (here ms i) (empty-released (here ms i) e)));
    counts = rw next (omega (arith, s.counts, count-one used (take i ms) (here ms i) false (empty-released (here ms i) e)));
    total = rw (next, charge-append (take i ms) (here ms i) (empty-numbered (here ms i) e), empty-released (here ms i) e, and_not_right (not (any (backs (here ms i).backing) (take i ms))) false refl) (omega (arith, s.total));
    small = omega (arith, s.small);
  }
