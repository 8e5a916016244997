-- The loop over the items of a section.
use Prim.Native.Nat.{ℕ, zero, suc, ◌+◌, ◌-◌, ◌≤◌, ◌<◌, min}
use mathlib.Core.Path.{◌≡◌, refl, sym, ap, ◌∙◌}
use mathlib.Core.List.{List}
use native.Mathlib.Omega.{arith}
use lib.ListN.{length}
use Rattle.wire.specs.Fields.{field}
use Rattle.plan_shape.specs.declared.Section.{Section}
use Rattle.plan_shape.specs.Plan.{item_end, items_end, section_end}
use Rattle.plan_shape.specs.Ends.{items_from, section_from, items_turn}

pub items_none : (k : Section) (bs : List ℕ) (at left : ℕ) → left ≤ 0 → items_end k left bs at ≡ at
unfolding items_end
items_none k bs at zero h = refl
items_none k bs at (suc n) h = absurd (omega arith)

-- the loop over the items of a section. `v` is its invariant: what is left ends where the whole does
module _ (k : Section) (bs : List ℕ) (left at : ℕ) {r : ℕ} (v : min (items_end k left bs at) (length bs + 1) ≡ r) where
  pub items_cut : (x : ℕ) → 0 < left → x ≡ min (item_end k bs at) (length bs + 1) → length bs < x → x ≡ r
  items_cut x h e l = omega (arith, v, e, items_turn k bs left at h, items_from k bs (left - 1) (item_end k bs at))

  pub items_on : (x m : ℕ) → 0 < left → m ≡ left - 1 → x ≡ min (item_end k bs at) (length bs + 1) → x ≤ length bs → min (items_end k m bs x) (length bs + 1) ≡ r
  items_on x m h f e l =
      let same : x ≡ item_end k bs at = omega arith in
      ap (λ (n : ℕ). min (items_end k n bs x) (length bs + 1)) f ∙ ap (λ (y : ℕ). min (items_end k (left - 1) bs y) (length bs + 1)) same ∙ ap (λ (y : ℕ). min y (length bs + 1)) (sym (items_turn k bs left at h)) ∙ v

  pub items_done : left ≤ 0 → at ≤ length bs → at ≡ r
  items_done h l = omega (arith, v, items_none k bs at left h)

pub section_start : (k : Section) (bs : List ℕ) (at n m x : ℕ) → n ≡ field 4 bs at → m ≡ n → x ≡ at + 4 → min (items_end k m bs x) (length bs + 1) ≡ min (section_end k bs at) (length bs + 1)
unfolding section_end
section_start k bs at n m x e g f = rw (g, e, f)

pub section_cut : (k : Section) (bs : List ℕ) (at x : ℕ) → x ≡ min (at + 4) (length bs + 1) → length bs < x → x ≡ min (section_end k bs at) (length bs + 1)
section_cut k bs at x e l = omega (arith, section_from k bs at)
