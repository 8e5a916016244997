-- The slot of a device, and one turn of the pass that asks the pages.
use Prim.Native.Nat.{ℕ, ◌+◌, ◌≤◌, ◌<◌, max}
use mathlib.Core.Path.{◌≡◌, sym, ap, ◌∙◌}
use mathlib.Core.Bool.{true}
use mathlib.Core.List.{List}
use native.Mathlib.Omega.{arith}
use lib.Dec.{ltb, eqb}
use lib.ListN.{length, get_or, set, drop, replicate, get_or-replicate, drop_of_length-le, get_or-eq_default}
use lib.Seq.{get_or-set_same, get_or-set_other}
use borrow.Author.Tests.{ltb-true, ltb-false, eqb-true, eqb-false}
use Rattle.lists.specs.Tests.{by-test}
use Rattle.lists.specs.Search.{drop_turn}
use Rattle.rules_table.specs.declared.Object.{Object}
use Rattle.rules_table.specs.Records.{zero_object, free_object}
use Rattle.table.specs.Checked.{objects_ok}
use Rattle.check_objects.specs.Pages.{Pages, slot_of, ask_of, asks, asked, asked-page, page_at-past}

-- before object i: what a slot has, and what the objects from i on ask of it, come to what all ask
pub record Kept (os : List Object) (i : ℕ) (pages : List ℕ) : Type 0 where
  pub slots : (s : ℕ) → s < 33 → max (get_or pages s 0) (asked s (i + 1) (drop i os)) ≡ asked s 1 os

pub kept-start : (os : List Object) → Kept os 0 (replicate 33 0)
kept-start os = record { slots = λ s h. omega (arith, get_or-replicate {A = ℕ} 33 s 0 0 h) }

asked-turn : (os : List Object) (i s : ℕ) → i < length os
    → asked s (i + 1) (drop i os) ≡ max (asks s (i + 1) (get_or os i zero_object)) (asked s (i + 1 + 1) (drop (i + 1) os))
unfolding asked
asked-turn os i s h = ap (asked s (i + 1)) (drop_turn os zero_object i h)

module _ (os : List Object) (i : ℕ) (pages : List ℕ) (many : length pages ≡ 33) (v : Kept os i pages) where
  -- what object i asks goes into its slot alone
  turned : (s p t : ℕ) → s ≡ slot_of (i + 1) (get_or os i zero_object).kind → s < 33 → p ≡ ask_of (get_or os i zero_object).bitmap (get_or os i zero_object).kind
      → get_or (set pages s (max (get_or pages s 0) p)) t 0 ≡ max (get_or pages t 0) (asks t (i + 1) (get_or os i zero_object))
  unfolding asks
  turned s p t e h f =
      by-test (eqb s t)
      (λ q. let g : s ≡ t = eqb-true s t q in
      rw (← e, ← f, q, ← g) (get_or-set_same pages s (max (get_or pages s 0) p) 0 (omega arith)))
      (λ q. rw (← e, ← f, q) (get_or-set_other pages s t (max (get_or pages s 0) p) 0 (λ g. eqb-false s t q (sym g))
      ∙ (let z : get_or pages t 0 ≡ max (get_or pages t 0) 0 = omega arith in z)))

  pub kept_on : (s p q : ℕ) → i < length os → s ≡ slot_of (i + 1) (get_or os i zero_object).kind → s < 33
      → p ≡ ask_of (get_or os i zero_object).bitmap (get_or os i zero_object).kind
      → q ≡ max (get_or pages s 0) p → Kept os (i + 1) (set pages s q)
  kept_on s p q l e h f g = rw g (record { slots = λ t b. omega (arith, turned s p t e h f, asked-turn os i t l, v.slots t b) })

  -- a released object asks nothing
  pub kept-skip : i < length os → get_or os i zero_object ≡ free_object → Kept os (i + 1) pages
  unfolding asks
  kept-skip l e = record {
    slots = λ t b.
        let z : asks t (i + 1) (get_or os i zero_object) ≡ 0 = rw e (by-test (eqb 0 t) (λ q. rw q) (λ q. rw q)) in
        omega (arith, z, asked-turn os i t l, v.slots t b);
  }

  -- after the last object
  pub kept-end : length os ≡ 32 → length os ≤ i → objects_ok os ≡ true → Pages os pages
  unfolding asked
  kept-end m l good =
      record {
        many = many;
        page = λ s.
            by-test (ltb s 33)
            (λ t. let b = ltb-true s 33 t in omega (arith, ap (asked s (i + 1)) (drop_of_length-le os l), v.slots s b, asked-page os m good s b))
            (λ t. let b = ltb-false s 33 t in get_or-eq_default pages 0 (omega arith) ∙ sym (page_at-past os s (omega arith)));
      }
