-- The charge as a sum over backing numbers, each found in the records from the front.
use Prim.Native.Nat.{ℕ, ◌+◌, ◌≤◌, ◌<◌}
use mathlib.Core.Path.{◌≡◌, refl, ap, ◌∙◌}
use mathlib.Core.Bool.{true}
use mathlib.Core.List.{List}
use native.Mathlib.Numerals.{add-one}
use native.Mathlib.Omega.{arith}
use lib.ListN.{length, get_or, drop}
use borrow.Author.Tests.{eq-eqb, ne_eqb}
use Rattle.lists.specs.Search.{find, find-found, find-on, find-end}
use Rattle.lists.specs.Below.{sum_below, sum_below-suc}
use Rattle.ranges.specs.Pages.{pages_touched}
use Rattle.rules_table.specs.declared.Mapping.{Mapping}
use Rattle.rules_table.specs.Records.{zero_mapping}
use Rattle.rules_table.specs.Charge.{backs, mapping_pages, pages_found, backing_pages, charge_in, charge}

-- the pages of a backing that is looked for from record i on
unfoldable pub pages_left : ℕ → ℕ → List Mapping → ℕ
pages_left b i ms = pages_found (find (backs b) (drop i ms))

pub pages-start : (b : ℕ) (ms : List Mapping) → pages_left b 0 ms ≡ backing_pages (λ m. true) ms b
unfolding pages_left backing_pages
pages-start b ms = refl

module _ (b i : ℕ) (ms : List Mapping) {k : ℕ} (v : pages_left b i ms ≡ k) where
  pub pages-hit : (r : ℕ) → i < length ms → (get_or ms i zero_mapping).backing ≡ b → r ≡ pages_touched (get_or ms i zero_mapping).memory (get_or ms i zero_mapping).length → r ≡ k
  unfolding pages_left backs mapping_pages
  pages-hit r h e f = f ∙ ap pages_found (find-found (backs b) ms i refl zero_mapping h (eq-eqb (get_or ms i zero_mapping).backing b e)) ∙ v

  pub pages-on : i < length ms → ((get_or ms i zero_mapping).backing ≡ b → ⊥) → pages_left b (i + 1) ms ≡ k
  unfolding pages_left backs
  pages-on h e = ap pages_found (find-on (backs b) ms i refl zero_mapping h (ne_eqb (get_or ms i zero_mapping).backing b e)) ∙ v

  pub pages-none : length ms ≤ i → 0 ≡ k
  unfolding pages_left
  pages-none h = ap pages_found (find-end (backs b) ms i refl h) ∙ v

-- the sum over the backings up to a number
unfoldable pub charge_to : ℕ → List Mapping → ℕ
charge_to b ms = sum_below (λ k. backing_pages (λ m. true) ms (k + 1)) b

pub charge-start : (ms : List Mapping) → 0 ≡ charge_to 0 ms
unfolding charge_to sum_below
charge-start ms = refl

pub charge-turn : (b : ℕ) (ms : List Mapping) (sum p : ℕ) → sum ≡ charge_to b ms → p ≡ backing_pages (λ m. true) ms (b + 1) → sum + p ≡ charge_to (b + 1) ms
unfolding charge_to
charge-turn b ms sum p e f =
    let g : charge_to (b + 1) ms ≡ backing_pages (λ m. true) ms (b + 1) + charge_to b ms = ap (λ (n : ℕ). sum_below (λ k. backing_pages (λ m. true) ms (k + 1)) n) (add-one b) ∙ sum_below-suc (λ k. backing_pages (λ m. true) ms (k + 1)) b in
    omega (arith, e, f, g)

pub charge-all : (b : ℕ) (ms : List Mapping) (sum : ℕ) → b ≡ 128 → sum ≡ charge_to b ms → sum ≡ charge ms
unfolding charge_to charge charge_in
charge-all b ms sum e f = f ∙ ap (λ (n : ℕ). charge_to n ms) e
