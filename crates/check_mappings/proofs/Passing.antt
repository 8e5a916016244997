-- One pass over the records in use: what was seen before place i and what is left from i on answer for the whole.
use Rattle.std.proofs.Common.{◌≡◌, ℕ, zero, suc, ◌+◌, ◌-◌, ◌^◌, ◌<◌, ◌≤◌, Bool, true, false, List, length, get_or, drop, set, replicate, sym, refl, ap, ◌∙◌, arith}
use lib.ListN.{length-replicate}
use Rattle.lists.specs.Tests.{and_both, and_not_left, and_not_right}
use Rattle.lists.specs.Search.{all, all-failed, all-on, all_end}
use Rattle.rules_table.specs.declared.Mapping.{Mapping}
use Rattle.rules_table.specs.Records.{zero_mapping, used}
use Rattle.rules_table.specs.Good.{differ, backings_agree}
use Rattle.records.specs.Alone.{numbered, numbered_of, sound}
use Rattle.records.specs.Charging.{leader_place, mark_after, added_by}
use Rattle.layout_mappings.specs.Words.{is_empty}
use Rattle.check_mappings.specs.Next.{Next}
use Rattle.check_mappings.specs.Told.{page_of, alone_by, agreed, Told}
use Rattle.check_mappings.proofs.Emptying.{empty-alone, full-used, full-sound}
use Rattle.check_mappings.proofs.Marking.{Seen, here, mark_here, seen_start, seen-agree, seen-count, seen-charge, seen-firsts, backing-most, leader-most, seen-disagree, seen-on, seen_skip}
use Rattle.check_mappings.proofs.Ruling.{Right, sound-right}
use Rattle.check_mappings.proofs.Straying.{page-named}

-- before record i
pub record Passing (pages : List ℕ) (ms : List Mapping) (i count charge : ℕ) (marks : List ℕ) : Type 0 where
  pub spaces : length pages ≡ 33
  pub alone : all (alone_by pages) (drop i ms) ≡ all (alone_by pages) ms
  pub seen : Seen ms i count charge marks

-- before a record that holds something
pub record Visiting (pages : List ℕ) (ms : List Mapping) (i count charge : ℕ) (marks : List ℕ) : Type 0 where
  pub passing : Passing pages ms i count charge marks
  pub full : i < length ms → is_empty (here ms i) ≡ false

passing-start : (pages : List ℕ) (ms : List Mapping) → length pages ≡ 33 → length ms ≡ 128 → Passing pages ms 0 0 0 (replicate 129 0)
passing-start pages ms n m = record {
  spaces = n;
  alone = refl;
  seen = seen_start ms m;
}

pub marks-long : (marks : List ℕ) → marks ≡ replicate 129 0 → length marks ≡ 129
marks-long marks e = ap (λ (l : List ℕ). length l) e ∙ length-replicate {A = ℕ} 129 0

-- ---- empty records are passed over

module _ (pages : List ℕ) (ms : List Mapping) (count charge : ℕ) (marks : List ℕ) where
  passing-skip : (i : ℕ) → Passing pages ms i count charge marks → i < 128 → is_empty (here ms i) ≡ true → Passing pages ms (i + 1) count charge marks
  passing-skip i v h e = record {
    spaces = v.spaces;
    alone = all-on (alone_by pages) ms i v.alone zero_mapping (omega (arith, v.seen.many)) (empty-alone (here ms i) e (get_or pages (here ms i).space 0));
    seen = seen_skip ms i count charge marks v.seen h e;
  }

  passing-skips : (n i : ℕ) → Passing pages ms i count charge marks → i + n ≤ 128 → ((k : ℕ) → i ≤ k → k < i + n → is_empty (here ms k) ≡ true) → Passing pages ms (i + n) count charge marks
  passing-skips zero i v h e = let z : i + 0 ≡ i = omega arith in rw z v
  passing-skips (suc n) i v h e =
      let z : i + suc n ≡ i + 1 + n = omega arith in
      rw z (passing-skips n (i + 1) (passing-skip i v (omega arith) (e i (omega arith) (omega arith))) (omega arith) (λ k a b. e k (omega arith) (omega arith)))

  passing-next : (i j : ℕ) → Passing pages ms i count charge marks → Next ms i j → Passing pages ms j count charge marks
  passing-next i j v x =
      let z : j ≡ i + (j - i) = omega (arith, x.from) in
      rw z (passing-skips (j - i) i v (omega (arith, x.from, x.upto, v.seen.many)) (λ k a b. x.empty k a (omega (arith, b, x.from))))

  visiting_next : (i j : ℕ) → Passing pages ms i count charge marks → Next ms i j → Visiting pages ms j count charge marks
  visiting_next i j v x = record {
    passing = passing-next i j v x;
    full = x.full;
  }

pub visiting_start : (pages : List ℕ) (ms : List Mapping) (marks : List ℕ) (i : ℕ) → length pages ≡ 33 → length ms ≡ 128 → marks ≡ replicate 129 0 → Next ms 0 i → Visiting pages ms i 0 0 marks
visiting_start pages ms marks i n m z x = rw z (visiting_next pages ms 0 0 (replicate 129 0) 0 i (passing-start pages ms n m) x)

-- ---- the records in use

module _ (pages : List ℕ) (ms : List Mapping) (i count charge : ℕ) (marks : List ℕ) (w : Visiting pages ms i count charge marks) where
  v : Passing pages ms i count charge marks
  v = w.passing

  -- one turn: the record, and whether it keeps its rules
  module _ (m : Mapping) (r : Bool) (less : i < 128) (em : m ≡ here ms i) (er : r ≡ sound (page_of pages m.space) m) where
    inside : i < length ms
    inside = omega (arith, v.seen.many)

    told : (t : Bool) → r ≡ t → alone_by pages (here ms i) ≡ t
    told t e =
        ap (alone_by pages) (sym em)
        ∙ sym (full-sound pages m (ap is_empty em ∙ w.full inside))
        ∙ sym er ∙ e

    pub visiting_failed : r ≡ false → agreed pages ms ≡ false
    visiting_failed e =
        and_not_left (all (alone_by pages) ms) (backings_agree ms) (sym (all-failed (alone_by pages) ms i v.alone zero_mapping inside (told false e)))

    module _ (ok : r ≡ true) where
      num : numbered (here ms i) ≡ true
      num = numbered_of (get_or pages (here ms i).space 0) (here ms i) (told true ok)

      live : used (here ms i) ≡ true
      live = full-used (get_or pages (here ms i).space 0) (here ms i) (w.full inside) (told true ok)

      -- its numbers
      pub visiting_right : Right (page_of pages m.space) m
      visiting_right = sound-right (page_of pages m.space) m (sym er ∙ ok)

      pub visiting_space : 0 < m.space
      visiting_space = page-named pages m.space visiting_right.some

      pub visiting_backing : m.backing ≤ 128
      visiting_backing = rw em (backing-most ms i count charge marks v.seen less num live)

      pub visiting_leader : leader_place (get_or marks m.backing 0) i ≤ i
      visiting_leader = rw em (leader-most ms i count charge marks v.seen less num live)

      -- whether it differs from the first of its backing
      module _ (d : Bool) (ed : m ≡ here ms i → d ≡ differ (get_or ms (leader_place (get_or marks m.backing 0) i) zero_mapping) m) where
        apart : d ≡ differ (get_or ms (leader_place (mark_here ms marks i) i) zero_mapping) (here ms i)
        apart = ed em ∙ ap (λ (x : Mapping). differ (get_or ms (leader_place (get_or marks x.backing 0) i) zero_mapping) x) em

        pub visiting_differ : d ≡ true → agreed pages ms ≡ false
        visiting_differ e =
            and_not_right (all (alone_by pages) ms) (backings_agree ms) (seen-disagree ms i count charge marks v.seen less num live (leader_place (mark_here ms marks i) i) d refl apart e)

        pub visiting_on : d ≡ false → (more added next : ℕ) → more ≡ count + 1
            → added ≡ added_by (get_or marks m.backing 0) m → added ≤ 2 ^ 53 → next ≡ mark_after (get_or marks m.backing 0) i
            → (n : ℕ) → Next ms (i + 1) n
            → Visiting pages ms n more (charge + added) (set marks m.backing next)
        visiting_on e more added next eu ea small en n x =
            visiting_next pages ms more (charge + added) (set marks m.backing next) (i + 1) n
            record {
              spaces = v.spaces;
              alone = all-on (alone_by pages) ms i v.alone zero_mapping inside (told true ok);
              seen = rw (eu, em) (seen-on ms i count charge marks v.seen less num live (leader_place (mark_here ms marks i) i) next added d refl apart e (ea ∙ ap (λ (x : Mapping). added_by (get_or marks x.backing 0) x) em) small (en ∙ ap (λ (x : Mapping). mark_after (get_or marks x.backing 0) i) em));
            }
            x

  pub visiting_end : 128 ≤ i → Told pages ms record { used = count; charge = charge } marks
  visiting_end l = record {
    good = and_both (all (alone_by pages) ms) (backings_agree ms) (sym (all_end (alone_by pages) ms i v.alone (omega (arith, v.seen.many)))) (seen-agree ms i count charge marks v.seen l);
    used = seen-count ms i count charge marks v.seen l;
    charge = seen-charge ms i count charge marks v.seen l;
    firsts = seen-firsts ms i count charge marks v.seen l;
  }
