-- What one place of the index tells.
use Prim.Native.Nat.{ℕ, ◌-◌, ◌≤◌, ◌<◌}
use mathlib.Core.Path.{◌≡◌, refl, sym, ap, ◌∙◌}
use mathlib.Core.Bool.{Bool, true}
use mathlib.Core.List.{List, []}
use native.Mathlib.Omega.{arith}
use lib.ListN.{get_or, take, length-take, get_or-eq_default}
use lib.Seq.{get_or-take}
use Rattle.lists.specs.Tests.{only_if}
use Rattle.rules_table.specs.declared.Mapping.{Mapping}
use Rattle.rules_calls.specs.Next.{ends_from, next_number}
use Rattle.rules_index.specs.Index.{mapping_at, view}
use Rattle.index.specs.Listing.{get_d_view}
use Rattle.index.specs.Touched.{until}
use Rattle.layout_mappings.specs.Words.{record_of, records_of, records-at}
use Rattle.index_search.specs.Indexed.{Indexed, begins, entered, view-at}
use Rattle.index_next.specs.NextPlace.{told, no-ends, told-first, told-second}

-- nothing from place n on
pub told-past : (n : ℕ) (ix : List ℕ) (ms : List Mapping) (s a k : ℕ) → n ≤ k → 0 < s → 0 ≡ told (take n ix) ms s a k
unfolding told
told-past n ix ms s a k b h =
    let z : get_or (take n ix) k 0 ≡ 0 = get_or-eq_default (take n ix) 0 (omega (arith, b, length-take n ix)) in
    rw (z, no-ends ms s a h) refl

-- before it the number there, by the record in its slot
pub told_here : (n : ℕ) (ix : List ℕ) (ws : List (List ℕ)) → Indexed n ix (records_of ws) → (s a k : ℕ) → k < n → (i : ℕ) → i ≡ get_or ix k 0 - 1
    → (r b : Bool) → r ≡ ends_from s a (record_of (get_or ws i [])) → r ≡ b → only_if b (get_or ix k 0) ≡ told (take n ix) (records_of ws) s a k
unfolding told
told_here n ix ws g s a k h i q r b e f =
    let same : mapping_at (records_of ws) (get_or (take n ix) k 0) ≡ record_of (get_or ws (get_or ix k 0 - 1) []) = sym (get_d_view (take n ix) (records_of ws) k) ∙ view-at n ix ws g k h ∙ records-at ws (get_or ix k 0 - 1) in
    rw (← f, e, q, same, get_or-take n ix k 0 h)

-- two places tell the next mapping: p before the place k where the search goes in, and k
module _ (n : ℕ) (ix : List ℕ) (ms : List Mapping) (g : Indexed n ix ms) (s a : ℕ) (h : 0 < s) (k : ℕ) (e : k ≡ entered true (view (take n ix) ms) s a) (p : ℕ) (f : p ≡ k - 1) where
  goes_in : k ≡ until (view (take n ix) ms) s a
  unfolding entered begins until
  goes_in = e

  pub next-first : (r : ℕ) → r ≡ told (take n ix) ms s a p → (r ≡ 0 → ⊥) → r ≡ next_number ms s a
  next-first r q z = q ∙ told-first (take n ix) ms s a g.lists g.apart h p (f ∙ ap (λ (k : ℕ). k - 1) goes_in) (λ y. z (q ∙ y))

  pub next-second : (r : ℕ) → r ≡ told (take n ix) ms s a p → r ≡ 0 → told (take n ix) ms s a k ≡ next_number ms s a
  next-second r q z = told-second (take n ix) ms s a g.lists g.apart h g.sit p k (f ∙ ap (λ (k : ℕ). k - 1) goes_in) goes_in (sym q ∙ z)
