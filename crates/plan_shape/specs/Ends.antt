-- Laws of ends: they only grow, so that an end past the last byte stays past it; what a whole plan has room for.
use Rattle.std.specs.Prelude.{ℕ, zero, suc, ◌+◌, ◌-◌, ◌*◌, ◌≤◌, ◌<◌, min, ◌≡◌, true, List, leb, eqb, length, take, drop}
use Rattle.std.proofs.Common.{ap, ◌∙◌, arith, leb-true, leb-false, eqb-true}
use Rattle.lists.specs.Tests.{by-test, and_left, and_right}
use Rattle.wire.specs.Fields.{field}
use Rattle.plan_shape.specs.declared.Section.{Section}
use Rattle.plan_shape.specs.declared.Section.TheVariants.{Devices, Attachments, Commands}
use Rattle.plan_shape.specs.Plan.{device_end, command_end, item_end, items_end, section_end, attachments_at, commands_at, plan_end, whole, part}

pub item_from : (k : Section) (bs : List ℕ) (at : ℕ) → at + 8 ≤ item_end k bs at
unfolding item_end device_end command_end
item_from Devices bs at = omega arith
item_from Attachments bs at = omega arith
item_from Commands bs at = omega arith

pub items_from : (k : Section) (bs : List ℕ) (n at : ℕ) → at ≤ items_end k n bs at
unfolding items_end
items_from k bs zero at = omega arith
items_from k bs (suc n) at = omega (arith, item_from k bs at, items_from k bs n (item_end k bs at))

pub section_from : (k : Section) (bs : List ℕ) (at : ℕ) → at + 4 ≤ section_end k bs at
unfolding section_end
section_from k bs at = items_from k bs (field 4 bs at) (at + 4)

-- one item of those that are left
pub items_turn : (k : Section) (bs : List ℕ) (left at : ℕ) → 0 < left → items_end k left bs at ≡ items_end k (left - 1) bs (item_end k bs at)
unfolding items_end
items_turn k bs zero at h = absurd (omega arith)
items_turn k bs (suc n) at h = let e : n ≡ suc n - 1 = omega arith in ap (λ (m : ℕ). items_end k m bs (item_end k bs at)) e

-- items that end by the last byte: so does the next one, and those after it
module _ (k : Section) (bs : List ℕ) (left at : ℕ) (room : items_end k left bs at ≤ length bs) (some : 0 < left) where
  pub item_room : item_end k bs at ≤ length bs
  item_room = omega (arith, items_turn k bs left at some, items_from k bs (left - 1) (item_end k bs at))

  pub item_next : (x : ℕ) → x ≡ min (item_end k bs at) (length bs + 1) → x ≡ item_end k bs at
  item_next x e = omega (arith, e, item_room)

  pub items_room : (x : ℕ) → x ≡ min (item_end k bs at) (length bs + 1) → items_end k (left - 1) bs x ≤ length bs
  items_room x e = let f = item_next x e in rw f (omega (arith, items_turn k bs left at some, room))

pub device-room : (bs : List ℕ) (at : ℕ) → item_end Devices bs at ≤ length bs → at + (12 + 16 * field 4 bs (at + 8)) ≤ length bs
unfolding item_end device_end
device-room bs at h = h

pub pair_room : (bs : List ℕ) (at : ℕ) → item_end Attachments bs at ≤ length bs → at + 8 ≤ length bs
unfolding item_end
pair_room bs at h = h

-- a whole plan has room for each of its counts, and for its devices and attachments
module _ (bs : List ℕ) (e : plan_end bs ≡ length bs) where
  pub commands-room : commands_at bs + 4 ≤ length bs
  unfolding plan_end
  commands-room = omega (arith, section_from Commands bs (commands_at bs), e)

  pub attachments_room : attachments_at bs + 4 ≤ length bs
  unfolding commands_at
  attachments_room = omega (arith, section_from Attachments bs (attachments_at bs), commands-room)

  pub head-room : 16 ≤ length bs
  unfolding attachments_at
  head-room = omega (arith, section_from Devices bs 12, attachments_room)

  pub devices-fit : (n : ℕ) → n ≡ field 4 bs 12 → items_end Devices n bs 16 ≤ length bs
  unfolding attachments_at section_end
  devices-fit n h = rw h (omega (arith, attachments_room))

  pub pairs-fit : (x n : ℕ) → x ≡ attachments_at bs → n ≡ field 4 bs x → items_end Attachments n bs (x + 4) ≤ length bs
  unfolding commands_at section_end
  pairs-fit x n g h = rw (h, g) (omega (arith, commands-room))

  pub attachments_is : (x : ℕ) → x ≡ min (section_end Devices bs 12) (length bs + 1) → x ≡ attachments_at bs
  unfolding attachments_at
  attachments_is x h = omega (arith, h, attachments_room)

-- a section after a cut one is cut as well, so the ends may be capped on the way
pub section_capped : (k : Section) (bs : List ℕ) (at x y : ℕ) → x ≡ min at (length bs + 1) → y ≡ min (section_end k bs x) (length bs + 1) → y ≡ min (section_end k bs at) (length bs + 1)
section_capped k bs at x y e f =
    by-test (leb at (length bs))
    (λ h. let l : at ≤ length bs = leb-true at (length bs) h in let g : x ≡ at = omega (arith, e, l) in f ∙ ap (λ (z : ℕ). min (section_end k bs z) (length bs + 1)) g)
    (λ h. let l : length bs < at = leb-false at (length bs) h in omega (arith, e, f, l, section_from k bs at, section_from k bs x))

-- ---- a whole plan

pub whole_length : (bs : List ℕ) → whole bs ≡ true → length bs ≤ 65536
unfolding whole
whole_length bs e = leb-true (length bs) 65536 (and_left (leb (length bs) 65536) (eqb (plan_end bs) (length bs)) e)

pub whole-end : (bs : List ℕ) → whole bs ≡ true → plan_end bs ≡ length bs
unfolding whole
whole-end bs e = eqb-true (plan_end bs) (length bs) (and_right (leb (length bs) 65536) (eqb (plan_end bs) (length bs)) e)

-- a part by its two ends
pub part-is : (bs : List ℕ) (from n to : ℕ) → to ≡ from + n → take (to - from) (drop from bs) ≡ part from n bs
unfolding part
part-is bs from n to e = let f : to - from ≡ n = omega arith in ap (λ (k : ℕ). take k (drop from bs)) f
