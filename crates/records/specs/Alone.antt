-- One record by itself, by cases: released or in use.
use Rattle.std.specs.Prelude.{ℕ, ◌≤◌, min, ◌≡◌, Bool, true, false, not, ◌&&◌, ◌||◌, cond, List, leb, eqb, length, get_or}
use Rattle.std.proofs.Common.{sym, ◌∙◌, arith, eqb-true, leb-true, leb-false}
use Rattle.std.proofs.Math.ListN.{get_or-eq_default}
use Rattle.lists.specs.Tests.{by-test, and_left, and_right, only_if}
use Rattle.rules_table.specs.declared.Mapping.{Mapping}
use Rattle.rules_table.specs.Records.{used, can_write}
use Rattle.rules_table.specs.Good.{when_used, length_fits, rights_fit, ends_fit, aligned_to, mapping_zero}
use Rattle.table.specs.Checked.{record_alone}

-- what a released record must be beside its space
unfoldable pub zero_fields : Mapping → Bool
zero_fields m = eqb m.rights 0 && (eqb m.founder 0 && (eqb m.backing 0 && (eqb m.address 0 && (eqb m.length 0 && eqb m.memory 0))))

-- a mapping that writes has a writeable founder
unfoldable pub founded : Mapping → Bool
founded m = leb m.founder 1 && (not (can_write m) || eqb m.founder 1)

unfoldable pub is_number : ℕ → Bool
is_number b = leb 1 b && leb b 128

-- what a record in use must be
unfoldable pub sound : ℕ → Mapping → Bool
sound page m = not (eqb page 0) && (length_fits m && (rights_fit m && (ends_fit m && (aligned_to page m && (founded m && is_number m.backing)))))

module _ (page : ℕ) (m : Mapping) where
  pub alone-released : used m ≡ false → record_alone page m ≡ zero_fields m
  unfolding record_alone mapping_zero when_used zero_fields
  alone-released e = rw e (by-test (zero_fields m) (λ z. rw z) (λ z. rw z))

  pub alone-used : used m ≡ true → record_alone page m ≡ sound page m
  unfolding record_alone mapping_zero when_used sound founded is_number
  alone-used e = rw e

-- the number of a backing: 1 to 128 in use, 0 where released
unfoldable pub numbered : Mapping → Bool
numbered m = cond (used m) (leb 1 m.backing && leb m.backing 128) (eqb m.backing 0)

pub numbered-used : (m : Mapping) → numbered m ≡ true → used m ≡ true → (1 ≤ m.backing) × (m.backing ≤ 128)
unfolding numbered
numbered-used m e u = both (sym (rw u) ∙ e)
  where
    both : (leb 1 m.backing && leb m.backing 128) ≡ true → (1 ≤ m.backing) × (m.backing ≤ 128)
    both t = (leb-true 1 m.backing (and_left (leb 1 m.backing) (leb m.backing 128) t), leb-true m.backing 128 (and_right (leb 1 m.backing) (leb m.backing 128) t))

pub numbered-released : (m : Mapping) → numbered m ≡ true → used m ≡ false → m.backing ≡ 0
unfolding numbered
numbered-released m e u = eqb-true m.backing 0 (sym (rw u) ∙ e)

pub numbered-most : (m : Mapping) → numbered m ≡ true → m.backing ≤ 128
numbered-most m e = by-test (used m) (λ u. (numbered-used m e u).1) (λ u. omega (arith, numbered-released m e u))

-- a record with a backing is in use
pub numbered-backed : (m : Mapping) → numbered m ≡ true → 1 ≤ m.backing → used m ≡ true
numbered-backed m e h = by-test (used m) (λ u. u) (λ u. absurd (omega (arith, numbered-released m e u)))

sound-number : (page : ℕ) (m : Mapping) → sound page m ≡ true → (leb 1 m.backing && leb m.backing 128) ≡ true
unfolding sound is_number
sound-number page m e = search (and_right) depth 8

zero_number : (m : Mapping) → zero_fields m ≡ true → eqb m.backing 0 ≡ true
unfolding zero_fields
zero_number m e = search (and_left, and_right) depth 8

-- a record that keeps its rules has such a number
pub numbered_of : (page : ℕ) (m : Mapping) → record_alone page m ≡ true → numbered m ≡ true
unfolding numbered
numbered_of page m e =
    by-test (used m)
    (λ u. rw u (sound-number page m (sym (alone-used page m u) ∙ e)))
    (λ u. rw u (zero_number m (sym (alone-released page m u) ∙ e)))

-- the page that was read for space s, or 0 for an id above 32
unfoldable pub page_read : ℕ → ℕ → ℕ
page_read s page = only_if (leb s 32) page

-- the page of an id, read at a place that the list has
pub page-at : (pages : List ℕ) (s : ℕ) → length pages ≡ 33 → page_read s (get_or pages (min s 32) 0) ≡ get_or pages s 0
unfolding page_read
page-at pages s h =
    by-test (leb s 32)
    (λ e. let z : min s 32 ≡ s = omega (arith, leb-true s 32 e) in rw (e, z))
    (λ e. rw e (sym (get_or-eq_default pages 0 {n = s} (omega (arith, leb-false s 32 e)))))
