-- One plan is no part of another: bytes behind a whole plan make it overlong, and so what is cut from a whole plan is not whole.
use Prim.Native.Nat.{ℕ, zero, suc, ◌+◌, ◌≤◌, ◌<◌}
use mathlib.Core.Path.{◌≡◌, refl, ap, ◌∙◌}
use mathlib.Core.Bool.{Bool, true, false, ◌&&◌}
use mathlib.Core.List.{List, ◌++◌}
use native.Mathlib.Omega.{arith}
use lib.Dec.{leb}
use lib.ListN.{length, length-append}
use lib.ListN.{get_or-append}
use borrow.Author.Tests.{ne_eqb}
use Rattle.lists.specs.Tests.{by-test, contrary}
use Rattle.wire.specs.Fields.{field, field-cong}
use Rattle.plan_shape.specs.declared.Section.{Section}
use Rattle.plan_shape.specs.declared.Section.TheVariants.{Devices, Attachments, Commands}
use Rattle.plan_shape.specs.Plan.{device_end, command_end, item_end, items_end, section_end, attachments_at, commands_at, plan_end, whole}
use Rattle.plan_shape.specs.Ends.{items_from, section_from, whole-end}

module _ (bs ys : List ℕ) where
  field-more : (k at : ℕ) → at + k ≤ length bs → field k (bs ++ ys) at ≡ field k bs at
  field-more k at h = field-cong k (bs ++ ys) bs at (λ i a b. get_or-append bs ys 0 i (omega arith))

  item_more : (k : Section) (at : ℕ) → item_end k bs at ≤ length bs → item_end k (bs ++ ys) at ≡ item_end k bs at
  unfolding item_end device_end command_end
  item_more Devices at h = omega (arith, field-more 4 (at + 8) (omega arith))
  item_more Attachments at h = refl
  item_more Commands at h = omega (arith, field-more 4 (at + 4) (omega arith), field-more 4 (at + 8) (omega arith))

  items_more : (k : Section) (n at : ℕ) → items_end k n bs at ≤ length bs → items_end k n (bs ++ ys) at ≡ items_end k n bs at
  unfolding items_end
  items_more k zero at h = refl
  items_more k (suc n) at h =
      let l : item_end k bs at ≤ length bs = omega (arith, h, items_from k bs n (item_end k bs at)) in
      ap (λ (x : ℕ). items_end k n (bs ++ ys) x) (item_more k at l) ∙ items_more k n (item_end k bs at) h

  section_more : (k : Section) (at : ℕ) → section_end k bs at ≤ length bs → section_end k (bs ++ ys) at ≡ section_end k bs at
  unfolding section_end
  section_more k at h =
      let l : at + 4 ≤ length bs = omega (arith, h, items_from k bs (field 4 bs at) (at + 4)) in
      ap (λ (n : ℕ). items_end k n (bs ++ ys) (at + 4)) (field-more 4 at l) ∙ items_more k (field 4 bs at) (at + 4) h

  end_more : plan_end bs ≤ length bs → plan_end (bs ++ ys) ≡ plan_end bs
  unfolding plan_end commands_at attachments_at
  end_more h =
      let c : section_end Attachments bs (section_end Devices bs 12) ≤ length bs = omega (arith, h, section_from Commands bs (section_end Attachments bs (section_end Devices bs 12))) in
      let a : section_end Devices bs 12 ≤ length bs = omega (arith, c, section_from Attachments bs (section_end Devices bs 12)) in
      ap (λ (x : ℕ). section_end Commands (bs ++ ys) (section_end Attachments (bs ++ ys) x)) (section_more Devices 12 a)
      ∙ ap (λ (x : ℕ). section_end Commands (bs ++ ys) x) (section_more Attachments (section_end Devices bs 12) c)
      ∙ section_more Commands (section_end Attachments bs (section_end Devices bs 12)) h

  pub overlong : whole bs ≡ true → 0 < length ys → whole (bs ++ ys) ≡ false
  unfolding whole
  overlong w h =
      let e : plan_end bs ≡ length bs = whole-end bs w in
      let m : plan_end (bs ++ ys) ≡ plan_end bs = end_more (omega (arith, e)) in
      let n : length (bs ++ ys) ≡ length bs + length ys = length-append bs ys in
      ap (λ (b : Bool). leb (length (bs ++ ys)) 65536 && b) (ne_eqb (plan_end (bs ++ ys)) (length (bs ++ ys)) (λ z. omega (arith, z, e, m, n, h))) ∙ by-test (leb (length (bs ++ ys)) 65536) (λ t. rw t refl) (λ t. rw t refl)

  pub cut : whole (bs ++ ys) ≡ true → 0 < length ys → whole bs ≡ false
  cut w h = by-test (whole bs) (λ t. contrary (whole (bs ++ ys)) w (overlong t h)) (λ f. f)
