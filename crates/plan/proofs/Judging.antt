-- A plan is bad where it is longer, cut, overlong or refused, and ready otherwise.
use Prim.Native.Nat.{ℕ, ◌+◌, ◌≤◌, ◌<◌, min}
use mathlib.Core.Path.{◌≡◌, refl, sym, ap, ◌∙◌}
use mathlib.Core.Bool.{Bool, true, false, ◌&&◌}
use Rattle.std.specs.Prelude.{Some, None, is_some, Result, Ok, Err, is_ok}
use mathlib.Core.List.{List}
use native.Mathlib.Omega.{arith}
use lib.ListN.{length}
use borrow.Author.Tests.{le-leb, lt-leb, eq-eqb, ne_eqb}
use Rattle.wire.specs.Fields.{field}
use Rattle.rules_table.specs.declared.Table.{Table}
use Rattle.plan_shape.specs.declared.Section.TheVariants.{Devices, Attachments, Commands}
use Rattle.plan.specs.declared.Ready.{Ready}
use Rattle.plan_shape.specs.Plan.{items_end, section_end, attachments_at, commands_at, plan_end, whole, plan_of}
use Rattle.plan_setup.specs.Setting.{set_up}
use Rattle.plan.specs.Running.{good_plan, judged, is_ready, ready_of}
use Rattle.plan_shape.specs.Ends.{section_capped, whole_length, whole-end}

module _ (bs : List ℕ) (x y : ℕ) (ex : x ≡ min (section_end Devices bs 12) (length bs + 1)) (ey : y ≡ min (section_end Attachments bs x) (length bs + 1)) where
  pub commands-end : y ≡ min (commands_at bs) (length bs + 1)
  unfolding commands_at attachments_at
  commands-end = section_capped Attachments bs (section_end Devices bs 12) x y ex ey

  pub plan-end : (z : ℕ) → z ≡ min (section_end Commands bs y) (length bs + 1) → z ≡ min (plan_end bs) (length bs + 1)
  unfolding plan_end
  plan-end z ez = section_capped Commands bs (commands_at bs) y z commands-end ez

module _ (bs : List ℕ) where
  not_whole : whole bs ≡ false → None ≡ ready_of bs
  unfolding ready_of
  not_whole e = rw e refl

  pub longer : 65536 < length bs → None ≡ ready_of bs
  unfolding whole
  longer h = not_whole (rw (lt-leb (length bs) 65536 h) refl)

  pub cut-or_over : length bs ≤ 65536 → (plan_end bs ≡ length bs → ⊥) → None ≡ ready_of bs
  unfolding whole
  cut-or_over h n = not_whole (rw (le-leb (length bs) 65536 h, ne_eqb (plan_end bs) (length bs) n) refl)

  is_whole : length bs ≤ 65536 → plan_end bs ≡ length bs → whole bs ≡ true
  unfolding whole
  is_whole h e = rw (le-leb (length bs) 65536 h, eq-eqb (plan_end bs) (length bs) e) refl

  pub refused-plan : (t : Table) → length bs ≤ 65536 → plan_end bs ≡ length bs → Err t ≡ set_up (plan_of bs) → None ≡ ready_of bs
  unfolding ready_of
  refused-plan t h e f = rw (is_whole h e, ← f) refl

  pub ready_plan : (t : Table) (x n : ℕ) → length bs ≤ 65536 → plan_end bs ≡ length bs → Ok t ≡ set_up (plan_of bs) → x ≡ commands_at bs → n ≡ field 4 bs x
      → Some (record { at = x + 4; count = n; table = t }) ≡ ready_of bs
  unfolding ready_of good_plan
  ready_plan t x n h e f ex en = rw (is_whole h e, ← f, en, ex) refl

pub plan-commands : (bs : List ℕ) → items_end Commands (field 4 bs (commands_at bs)) bs (commands_at bs + 4) ≡ plan_end bs
unfolding plan_end section_end
plan-commands bs = refl

-- ---- what a plan that is ready lets its reader do

-- whether a plan is ready, by its two parts
judged-some : (w : Bool) (bs : List ℕ) (s : Result Table Table) → is_some (judged w bs s) ≡ (w && is_ok s)
judged-some true bs (Ok t) = refl
judged-some true bs (Err t) = refl
judged-some false bs s = refl

judged-good : (w : Bool) (bs : List ℕ) (s : Result Table Table) (r : Ready) → Some r ≡ judged w bs s → (w ≡ true) × (s ≡ Ok r.table) × (r ≡ good_plan bs r.table)
unfolding good_plan
judged-good true bs (Ok t) r e = let f : r ≡ good_plan bs t = cc in (refl, rw f refl, rw f refl)
judged-good true bs (Err t) r e = absurd (cc)
judged-good false bs s r e = absurd (cc)

pub ready_good : (bs : List ℕ) → is_some (ready_of bs) ≡ is_ready bs
unfolding ready_of is_ready
ready_good bs = judged-some (whole bs) bs (set_up (plan_of bs))

module _ (bs : List ℕ) (r : Ready) (e : Some r ≡ ready_of bs) where
  pub ready_test : is_ready bs ≡ true
  ready_test = sym (ready_good bs) ∙ ap is_some (sym e)

  parts : (whole bs ≡ true) × (set_up (plan_of bs) ≡ Ok r.table) × (r ≡ good_plan bs r.table)
  unfolding ready_of
  parts = judged-good (whole bs) bs (set_up (plan_of bs)) r e

  ready_whole : whole bs ≡ true
  ready_whole = parts.0

  pub ready_set : set_up (plan_of bs) ≡ Ok r.table
  ready_set = parts.1

  pub ready_is : r ≡ good_plan bs r.table
  ready_is = parts.2

  -- no longer than the program's buffers, and its commands end with it
  pub ready_length : length bs ≤ 65536
  ready_length = whole_length bs ready_whole

  pub ready_room : items_end Commands r.count bs r.at ≤ length bs
  unfolding good_plan
  ready_room =
      let c : r.count ≡ field 4 bs (commands_at bs) = ap (λ (x : Ready). x.count) ready_is in
      let a : r.at ≡ commands_at bs + 4 = ap (λ (x : Ready). x.at) ready_is in
      rw (c, a) (omega (arith, plan-commands bs, whole-end bs ready_whole))
