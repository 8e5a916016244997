-- The alignment of every space at once: each object asks a page of one slot, the slot of an id keeps the highest page asked of it, and slot 0 belongs to no id.
use Prim.Native.Nat.{ℕ, zero, suc, ◌+◌, ◌≤◌, ◌<◌, max}
use Rattle.std.specs.Prelude.{◌≡◌, Bool, true, ◌&&◌, cond, List, [], ◌∷◌, leb, eqb, length}
use Rattle.std.proofs.Math.Path.{refl, ap}
use Rattle.std.proofs.Common.{sym, ◌∙◌, le_of_suc-le-suc, not-suc-le-zero, eqb-true, eq-eqb, ne_eqb, leb-false, le-leb}
use Rattle.std.proofs.Math.Bool.{false}
use native.Mathlib.Omega.{arith}
use Rattle.std.proofs.Math.ListN.{get_or}
use Rattle.lists.specs.Tests.{by-test, contrary, and_left, only_if}
use Rattle.lists.specs.Search.{all-at}
use Rattle.alignment.specs.Pages.{smallest_page, page-pos}
use Rattle.alignment.specs.Highest.{highest}
use Rattle.rules_table.specs.declared.Attachment.TheVariants.{Loose, Attached}
use Rattle.rules_table.specs.declared.Attachment.{Attachment}
use Rattle.rules_table.specs.declared.Kind.{Kind}
use Rattle.rules_table.specs.declared.Kind.TheVariants.{Free, Space, Device}
use Rattle.rules_table.specs.declared.Object.{Object}
use Rattle.rules_table.specs.Records.{is_space, attached_to, zero_object, object_at, space_at}
use Rattle.rules_table.specs.Spaces.{page_for, alignment}
use Rattle.rules_table.specs.Good.{device_names, device_valid, list_valid, list_clear, object_zero}
use Rattle.table.specs.Checked.{object_ok, objects_ok, page_at, kind_names}
use Rattle.object_rules.specs.Judged.{space_at-past, space_at-slot, space_at-pos, space_at-upto}

-- the pages of a table's spaces, by their ids
pub record Pages (os : List Object) (pages : List ℕ) : Type 0 where
  pub many : length pages ≡ 33
  pub page : (s : ℕ) → get_or pages s 0 ≡ page_at os s

-- an id past the records is no space
pub page_at-past : (os : List Object) (s : ℕ) → length os < s → page_at os s ≡ 0
unfolding page_at
page_at-past os s h = rw (space_at-past os s h) refl

-- the slot that an object asks a page of: a space its own, an attached device that of its space, any other slot 0
abbrev pub slot_by : Attachment → ℕ
slot_by Loose = 0
slot_by (Attached h) = cond (leb h 32) h 0

abbrev pub slot_of : ℕ → Kind → ℕ
slot_of id Free = 0
slot_of id Space = id
slot_of id (Device a) = slot_by a

-- the page that it asks: a space 1, an attached device its smallest page
abbrev pub ask_by : ℕ → Attachment → ℕ
ask_by bitmap Loose = 0
ask_by bitmap (Attached h) = smallest_page bitmap

abbrev pub ask_of : ℕ → Kind → ℕ
ask_of bitmap Free = 0
ask_of bitmap Space = 1
ask_of bitmap (Device a) = ask_by bitmap a

-- what the object with an id asks of slot s
unfoldable pub asks : ℕ → ℕ → Object → ℕ
asks s id o = only_if (eqb (slot_of id o.kind) s) (ask_of o.bitmap o.kind)

-- the highest page asked of slot s, where the first object has that id
unfoldable pub asked : ℕ → ℕ → List Object → ℕ
asked s id [] = 0
asked s id (o ∷ os) = max (asks s id o) (asked s (id + 1) os)

-- ---- as high as the alignment, where it is asked at all

nothing : (b : Bool) → only_if b 0 ≡ 0
nothing true = refl
nothing false = refl

asks-by : (s id bitmap : ℕ) (k : Kind) → 1 ≤ s → s ≤ 32 → max 1 (only_if (eqb (slot_of id k) s) (ask_of bitmap k)) ≡ cond (attached_to s k) (smallest_page bitmap) 1
asks-by s id bitmap Free h g = omega (arith, nothing (eqb 0 s))
asks-by s id bitmap Space h g = by-test (eqb id s) (λ e. rw e refl) (λ e. rw e refl)
asks-by s id bitmap (Device Loose) h g = omega (arith, nothing (eqb 0 s))
asks-by s id bitmap (Device (Attached n)) h g =
    by-test (leb n 32)
    (λ t. rw t (by-test (eqb n s) (λ e. rw e (omega (arith, page-pos bitmap))) (λ e. rw e refl)))
    (λ t. let l = leb-false n 32 t in rw (t, ne_eqb 0 s (λ z. omega (arith, z)), ne_eqb n s (λ z. omega (arith, z))) refl)

asks-page : (s id : ℕ) (o : Object) → 1 ≤ s → s ≤ 32 → max 1 (asks s id o) ≡ page_for s o
unfolding asks page_for
asks-page s id o h g = asks-by s id o.bitmap o.kind h g

pub asked-highest : (s id : ℕ) (os : List Object) → 1 ≤ s → s ≤ 32 → max 1 (asked s id os) ≡ highest (page_for s) os
unfolding asked highest
asked-highest s id [] h g = refl
asked-highest s id (o ∷ os) h g = omega (arith, asks-page s id o h g, asked-highest s (id + 1) os h g)

-- ---- asked by some object, or by none

asked-at : (s id : ℕ) (os : List Object) (j : ℕ) → j < length os → asks s (id + j) (get_or os j zero_object) ≤ asked s id os
unfolding asked
asked-at s id [] j h = absurd (not-suc-le-zero h)
asked-at s id (o ∷ os) zero h = let e : id + 0 ≡ id = omega arith in rw e (omega arith)
asked-at s id (o ∷ os) (suc j) h = let e : id + suc j ≡ id + 1 + j = omega arith in rw e (omega (arith, asked-at s (id + 1) os j (le_of_suc-le-suc h)))

asked-none : (s id : ℕ) (os : List Object) → ((j : ℕ) → j < length os → asks s (id + j) (get_or os j zero_object) ≡ 0) → asked s id os ≡ 0
unfolding asked
asked-none s id [] h = refl
asked-none s id (o ∷ os) h =
    let e : id + 0 ≡ id = omega arith in
    let first : asks s id o ≡ 0 = ap (λ (n : ℕ). asks s n o) (sym e) ∙ h 0 (omega arith) in
    let rest : asked s (id + 1) os ≡ 0
    = asked-none s (id + 1) os (λ j l. let d : id + 1 + j ≡ id + suc j = omega arith in ap (λ (n : ℕ). asks s n (get_or os j zero_object)) d ∙ h (suc j)
    (omega arith)) in
    omega arith

-- a space asks 1 of its own slot
asks-space : (s bitmap : ℕ) (k : Kind) → is_space k ≡ true → only_if (eqb (slot_of s k) s) (ask_of bitmap k) ≡ 1
asks-space s bitmap Free e = contrary false e refl
asks-space s bitmap Space e = rw (eq-eqb s s refl) refl
asks-space s bitmap (Device a) e = contrary false e refl

-- and no object asks anything of a slot whose id is no space
asks-else : (os : List Object) (s id bitmap : ℕ) (k : Kind) → length os ≡ 32 → space_at os s ≡ false → kind_names os k ≡ true
    → (is_space k ≡ true → space_at os id ≡ true)
    → only_if (eqb (slot_of id k) s) (ask_of bitmap k) ≡ 0
asks-else os s id bitmap Free m e n g = nothing (eqb 0 s)
asks-else os s id bitmap Space m e n g = by-test (eqb id s) (λ t. contrary (space_at os s) (rw (← eqb-true id s t) (g refl)) e) (λ t. rw t refl)
asks-else os s id bitmap (Device Loose) m e n g = nothing (eqb 0 s)
asks-else os s id bitmap (Device (Attached h)) m e n g =
    rw (le-leb h 32 (omega (arith, space_at-upto os h n))) (by-test (eqb h s) (λ t. contrary (space_at os s) (rw (← eqb-true h s t) n) e) (λ t. rw t refl))

-- ---- the law

module _ (os : List Object) (m : length os ≡ 32) where
  -- where there is a space, its slot is asked 1 at least
  asked-some : (s : ℕ) → space_at os s ≡ true → 1 ≤ asked s 1 os
  unfolding space_at object_at asks
  asked-some zero e = contrary false e refl
  asked-some (suc j) e =
      let l = space_at-upto os (suc j) e in
      let d : 1 + j ≡ suc j = omega arith in
      omega (
        arith,
        asked-at (suc j) 1 os j (omega arith),
        ap (λ (n : ℕ). asks (suc j) n (get_or os j zero_object)) d ∙ asks-space (suc j)
            (get_or os j zero_object).bitmap (get_or os j zero_object).kind (sym (space_at-slot os j) ∙ rw d e),
      )

  names : objects_ok os ≡ true → (j : ℕ) → j < length os → kind_names os (get_or os j zero_object).kind ≡ true
  unfolding objects_ok object_ok device_names
  names good j l =
      let o = get_or os j zero_object in
      and_left (device_names os o) (device_valid o && (list_valid o && (list_clear os o && object_zero o))) (all-at (object_ok os) os zero_object good j l)

  asked-else : objects_ok os ≡ true → (s : ℕ) → space_at os s ≡ false → asked s 1 os ≡ 0
  unfolding asks
  asked-else good s e =
      asked-none s 1 os (λ j l. asks-else os s (1 + j) (get_or os j zero_object).bitmap (get_or os j zero_object).kind m e (names good j l)
      (λ f. space_at-slot os j ∙ f))

  pub asked-page : objects_ok os ≡ true → (s : ℕ) → s < 33 → asked s 1 os ≡ page_at os s
  unfolding page_at alignment
  asked-page good s h =
      by-test (space_at os s)
      (λ e. rw e (omega (arith, asked-highest s 1 os (space_at-pos os s e) (omega arith), asked-some s e)))
      (λ e. rw e (asked-else good s e))
