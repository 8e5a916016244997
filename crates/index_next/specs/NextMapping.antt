-- Next in plain terms, for any records (`next-number-is`).
use Prim.Native.Nat.{ℕ, zero, suc, ◌+◌, ◌≤◌, ◌<◌}
use Rattle.std.specs.Prelude.{◌≡◌, ◌&&◌, ◌||◌, List, eqb, length, Option, None, Some}
use Rattle.std.proofs.Math.Path.{refl, ap}
use Rattle.std.proofs.Common.{sym, ◌∙◌}
use Rattle.std.proofs.Math.Bool.{true, false, not}
use native.Mathlib.Omega.{arith}
use Rattle.std.proofs.Math.Dec.{leb, ltb}
use Rattle.std.proofs.Math.ListN.{get_or}
use borrow.Author.Tests.{leb-true, le-leb, ltb-true, ltb-false, eqb-true, eq-eqb, ne_eqb}
use Rattle.lists.specs.Tests.{by-test, contrary, and_left, and_right, and_both, or_left, or_right, or_other}
use Rattle.lists.specs.Search.{any, all, seek, any_at, any-slot, all-at, seek-none, seek-some_lt, seek-some_at}
use Rattle.lists.specs.Each.{Each-imp, Each-any_false, all-Each}
use Rattle.ranges.specs.Ranges.{last_of}
use Rattle.rules_table.specs.declared.Mapping.{Mapping}
use Rattle.rules_table.specs.Records.{zero_mapping, used, of_space}
use Rattle.rules_calls.specs.Edits.{number_in}
use Rattle.rules_calls.specs.Next.{ends_from, is_next, next_number}
use Rattle.rules_index.specs.Index.{mapping_at}
use Rattle.index.specs.Listing.{used-place}
use Rattle.index.specs.Touched.{record_at-is}

module _ (s a : ℕ) (m : Mapping) where
  pub ends-space : ends_from s a m ≡ true → m.space ≡ s
  unfolding ends_from of_space
  ends-space e = eqb-true m.space s (and_left (eqb m.space s) (leb a (last_of m.address m.length)) e)

  pub ends_last : ends_from s a m ≡ true → a ≤ last_of m.address m.length
  unfolding ends_from
  ends_last e = leb-true a (last_of m.address m.length) (and_right (of_space s m) (leb a (last_of m.address m.length)) e)

  pub ends_of : m.space ≡ s → a ≤ last_of m.address m.length → ends_from s a m ≡ true
  unfolding ends_from of_space
  ends_of q h = and_both (eqb m.space s) (leb a (last_of m.address m.length)) (eq-eqb m.space s q) (le-leb a (last_of m.address m.length) h)

  pub ends-used : 0 < s → ends_from s a m ≡ true → used m ≡ true
  unfolding used
  ends-used h e = rw (ne_eqb m.space 0 (λ q. omega (arith, q, ends-space e, h))) refl

-- r is the number of a mapping of space s that ends at or after address a, and no such mapping has a lower address; r is 0 exactly if there is none
pub record NextMapping (ms : List Mapping) (s a r : ℕ) : Type 0 where
  pub most : r ≤ length ms
  pub found : 0 < r → ((mapping_at ms r).space ≡ s) × (a ≤ last_of (mapping_at ms r).address (mapping_at ms r).length)
  pub lowest : 0 < r → (q : ℕ) → (mapping_at ms q).space ≡ s → a ≤ last_of (mapping_at ms q).address (mapping_at ms q).length → (mapping_at ms r).address ≤ (mapping_at ms q).address
  pub never : r ≡ 0 → (q : ℕ) → (mapping_at ms q).space ≡ s → a ≤ last_of (mapping_at ms q).address (mapping_at ms q).length → ⊥

module _ (ms : List Mapping) (s a : ℕ) (h : 0 < s) where
  -- a mapping of the space has a slot
  ends-slot : (q : ℕ) → ends_from s a (mapping_at ms q) ≡ true → (k : ℕ) × (k < length ms) × (mapping_at ms q ≡ get_or ms k zero_mapping)
  ends-slot q t = let w = used-place ms q (ends-used s a (mapping_at ms q) h t) in (w.0, w.2, ap (mapping_at ms) w.1 ∙ record_at-is ms w.0)

  next-lowest : (m : Mapping) → is_next s a ms m ≡ true → (q : ℕ) → ends_from s a (mapping_at ms q) ≡ true → m.address ≤ (mapping_at ms q).address
  unfolding is_next
  next-lowest m t q u =
      let w = ends-slot q u in
      let n = get_or ms w.0 zero_mapping in
      let f = all-at (λ n. not (ends_from s a n) || leb m.address n.address) ms zero_mapping (and_right (ends_from s a m) (all (λ n. not (ends_from s a n) || leb m.address n.address) ms) t) w.0 w.1 in
      rw w.2 (leb-true m.address n.address (or_other (not (ends_from s a n)) (leb m.address n.address) f (rw (← w.2, u) refl)))

  next-ends : (m : Mapping) → is_next s a ms m ≡ true → ends_from s a m ≡ true
  unfolding is_next
  next-ends m t = and_left (ends_from s a m) (all (λ n. not (ends_from s a n) || leb m.address n.address) ms) t

  next_of : (m : Mapping) → ends_from s a m ≡ true → any (λ n. ends_from s a n && ltb n.address m.address) ms ≡ false → is_next s a ms m ≡ true
  unfolding is_next
  next_of m t u =
      and_both (ends_from s a m) (all (λ n. not (ends_from s a n) || leb m.address n.address) ms) t
      (all-Each (λ n. not (ends_from s a n) || leb m.address n.address) ms
      (Each-imp (λ n. (ends_from s a n && ltb n.address m.address) ≡ false) (λ n. (not (ends_from s a n) || leb m.address n.address) ≡ true) ms one
      (Each-any_false (λ n. ends_from s a n && ltb n.address m.address) ms u)))
    where
      one : (n : Mapping) → (ends_from s a n && ltb n.address m.address) ≡ false → (not (ends_from s a n) || leb m.address n.address) ≡ true
      one n f =
          by-test (ends_from s a n)
          (λ k. or_right (not (ends_from s a n)) (leb m.address n.address) (le-leb m.address n.address (ltb-false n.address m.address (sym (rw k) ∙ f))))
          (λ k. or_left (not (ends_from s a n)) (leb m.address n.address) (rw k refl))

  -- where a mapping ends at or after the address, one of them has the lowest address: it, or one that is lower
  next-some : (b i : ℕ) → i < length ms → ends_from s a (get_or ms i zero_mapping) ≡ true → (get_or ms i zero_mapping).address < b → any (is_next s a ms) ms ≡ true
  next-some zero i k t c = absurd (omega (arith, c))
  next-some (suc b) i k t c =
      let m = get_or ms i zero_mapping in
      by-test (any (λ n. ends_from s a n && ltb n.address m.address) ms)
      (λ u.
      let w = any-slot (λ n. ends_from s a n && ltb n.address m.address) ms zero_mapping u in
      let n = get_or ms w.0 zero_mapping in
      next-some b w.0 w.1 (and_left (ends_from s a n) (ltb n.address m.address) w.2) (omega (arith, c, ltb-true n.address m.address (and_right (ends_from s a n) (ltb n.address m.address) w.2))))
      (λ u. any_at (is_next s a ms) ms zero_mapping i k (next_of m t u))

  -- THE LAW
  pub next_number-is : NextMapping ms s a (next_number ms s a)
  unfolding next_number
  next_number-is = go (seek (is_next s a ms) 1 ms) refl
    where
      go : (o : Option ℕ) → seek (is_next s a ms) 1 ms ≡ o → NextMapping ms s a (number_in o)
      go None f = record {
        most = omega arith;
        found = λ k. absurd (omega (arith, k));
        lowest = λ k. absurd (omega (arith, k));
        never = λ e q u v. let w = ends-slot q (ends_of s a (mapping_at ms q) u v) in
            contrary (any (is_next s a ms) ms) (next-some (suc (get_or ms w.0 zero_mapping).address) w.0 w.1 (rw (← w.2) (ends_of s a (mapping_at ms q) u v)) (omega arith)) (seek-none (is_next s a ms) 1 ms f);
      }
      go (Some zero) f = absurd (omega (arith, (seek-some_lt (is_next s a ms) 1 ms 0 f).0))
      go (Some (suc i)) f =
          let y : suc i ≡ 1 + i = omega arith in
          let t : is_next s a ms (mapping_at ms (suc i)) ≡ true = rw (record_at-is ms i) (seek-some_at (is_next s a ms) 1 ms zero_mapping i (f ∙ ap Some y)) in
          let m = mapping_at ms (suc i) in
          record {
            most = omega (arith, (seek-some_lt (is_next s a ms) 1 ms (suc i) f).1);
            found = λ k. (ends-space s a m (next-ends m t), ends_last s a m (next-ends m t));
            lowest = λ k q u v. next-lowest m t q (ends_of s a (mapping_at ms q) u v);
            never = λ e. absurd (omega (arith, e));
          }
