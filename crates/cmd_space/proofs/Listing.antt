-- The list of an area, what ALLOW_IOVAS checks, and the last check of IOAS_ALLOC.
use Prim.Native.Nat.{ℕ, zero, suc, ◌+◌, ◌-◌, ◌*◌, ◌≤◌, ◌<◌}
use mathlib.Core.Path.{◌≡◌, refl, sym, ap, ◌∙◌}
use mathlib.Core.Bool.{Bool, false, not}
use lib.Dec.{eqb}
use mathlib.Core.List.{List, [], ◌∷◌}
use native.Mathlib.Omega.{arith}
use lib.ListN.{length, get_or}
use lib.Seq.{ext_get_or}
use native.Mathlib.Nat.{le_of_suc-le-suc, not-suc-le-zero}
use Rattle.std.specs.Array.{IsFromFnResult, IsFromFnResultFrom}
use Rattle.std.specs.Fn.{Mut, Called}
use borrow.Author.Tests.{lt-ltb, le-ltb, ltb-false}
use Rattle.lists.specs.Checks.{when, first, first-append, first-stays, first_goes, Refusals, passed}
use Rattle.rangelists.specs.Listed.{Allowed}
use Rattle.wire.specs.Fields.{field}
use Rattle.rules_table.specs.declared.Object.{Object}
use Rattle.rules_table.specs.Records.{new_space, is_space, object_at, space_at}
use Rattle.rules_table.specs.Charge.{free_record}
use Rattle.rules_calls.specs.declared.Change.TheVariants.{Put}
use Rattle.rules_calls.specs.declared.Edit.{Edit}
use Rattle.rules_calls.specs.Edits.{accept, settle, added}
use Rattle.edits.specs.Settled.{settle-record}
use Rattle.rules_calls.specs.Objects.{alloc_checks, alloc_edit}
use Rattle.rules_calls.specs.Allow.{number_at, column, area_list, with_allow, list_checks, allow_number_checks, allow_checks}
use Rattle.edits.specs.Numbers.{allow_number_checks_at, allow_checks_at}

module _ (off n k : ℕ) (area : List ℕ) where
  pub number-none : n ≤ k → 0 ≡ number_at off n k area
  unfolding number_at
  number-none h = rw (le-ltb k n h)

  pub number-some : {x : ℕ} → k < n → x ≡ field 8 area (16 * k + off) → x ≡ number_at off n k area
  unfolding number_at
  number-some h e = rw (lt-ltb k n h) e

-- ---- ALLOW_IOVAS: the checks on the numbers, then those on the list

-- an object says itself whether it is a space
pub known_at : (os : List Object) (s : ℕ) (o : Object) (b : Bool) → o ≡ object_at os s → b ≡ is_space o.kind → b ≡ space_at os s
unfolding space_at
known_at os s o b e h = h ∙ ap (λ (x : Object). is_space x.kind) e

module _ (os : List Object) (s count z : ℕ) (area : List ℕ) where
  numbers-refuse : Refusals (allow_number_checks_at os s count z (length area)) 0
  unfolding allow_number_checks
  numbers-refuse = (λ y. omega (arith, y), (λ y. omega (arith, y), (λ y. omega (arith, y), (λ y. omega (arith, y), tt))))

  pub by-numbers : (n : ℕ) → n ≡ first (allow_number_checks_at os s count z (length area)) 0 → (n ≡ 0 → ⊥) → n ≡ first (allow_checks_at os s count z area) 0
  unfolding allow_checks
  by-numbers n e h =
      first-stays (allow_number_checks_at os s count z (length area)) 0 n (first (list_checks os s (area_list count area)) 0) e h
      ∙ sym (first-append (allow_number_checks_at os s count z (length area)) (list_checks os s (area_list count area)) 0)

  pub by-list : (n : ℕ) (l : Allowed) → 0 ≡ first (allow_number_checks_at os s count z (length area)) 0 → l ≡ area_list count area → n ≡ first (list_checks os s l) 0 → n ≡ first (allow_checks_at os s count z area) 0
  unfolding allow_checks
  by-list n l e k f =
      f ∙ ap (λ (x : Allowed). first (list_checks os s x) 0) k
      ∙ first_goes (allow_number_checks_at os s count z (length area)) 0 (first (list_checks os s (area_list count area)) 0) numbers-refuse e
      ∙ sym (first-append (allow_number_checks_at os s count z (length area)) (list_checks os s (area_list count area)) 0)

  -- the area holds the list
  pub area-holds : 0 ≡ first (allow_number_checks_at os s count z (length area)) 0 → 16 * count ≤ length area
  unfolding allow_number_checks
  area-holds e = ltb-false (length area) (16 * count) (passed (allow_number_checks_at os s count z (length area)) 0 (when false 0) numbers-refuse (sym e) 3 (omega arith))

pub allow-edit : (os : List Object) (s count : ℕ) (area : List ℕ) (r : Edit) (o n : Object) (l : Allowed) (i : ℕ) → o ≡ object_at os s → i ≡ s - 1 → l ≡ area_list count area → n ≡ with_allow o l → r ≡ accept 0 (Put i) n
    → r ≡ accept 0 (Put (s - 1)) (with_allow (object_at os s) (area_list count area))
allow-edit os s count area r o n l i eo ei el en er = er ∙ rw (en, eo, ei, el)

-- ---- IOAS_ALLOC: "no record: 12" at the end of its list is what a new object refuses by itself

pub alloc_record : (os : List Object) (flags : ℕ) → alloc_edit os flags ≡ settle (first (when (not (eqb flags 0)) 95 ∷ []) 0) (added (free_record os) new_space)
unfolding alloc_edit alloc_checks
alloc_record os flags = sym (settle-record (when (not (eqb flags 0)) 95 ∷ []) (free_record os) new_space)

-- ---- a column that is filled from its first range on

length-column : (off n k room : ℕ) (area : List ℕ) → length (column off n k room area) ≡ room
unfolding column
length-column off n k zero area = refl
length-column off n k (suc room) area = ap suc (length-column off n (k + 1) room area)

column-at : (off n k room i : ℕ) (area : List ℕ) → i < room → get_or (column off n k room area) i 0 ≡ number_at off n (k + i) area
unfolding column
column-at off n k zero i area h = absurd (not-suc-le-zero h)
column-at off n k (suc room) zero area h = ap (λ (x : ℕ). number_at off n x area) (omega arith)
column-at off n k (suc room) (suc i) area h = column-at off n (k + 1) room i area (le_of_suc-le-suc h) ∙ ap (λ (x : ℕ). number_at off n x area) (omega arith)

-- the numbers that calls from f on give, where each call gives its number and keeps what it captured
module _ {F : Type 0} {g : Mut F (ℕ × Unit {0}) ℕ} (P : F → Type 0) (off n : ℕ) (area : List ℕ) (step : (f q : F) (i y : ℕ) → P f → Called g f (i, tt) y q → P q × (y ≡ number_at off n i area)) where
  called : (f : F) (ys : List ℕ) (k room : ℕ) → P f → IsFromFnResultFrom g f ys k room → (i : ℕ) → i < room → get_or ys (k + i) 0 ≡ number_at off n (k + i) area
  called f ys k zero p c i h = absurd (not-suc-le-zero h)
  called f ys k (suc room) p c zero h =
      ap (λ (x : ℕ). get_or ys x 0) (omega arith) ∙ c.2.1 0 ∙ (step f c.0 k c.1 p c.3).1 ∙ ap (λ (x : ℕ). number_at off n x area) (omega arith)
  called f ys k (suc room) p c (suc i) h =
      ap (λ (x : ℕ). get_or ys x 0) (omega arith) ∙ called c.0 ys (k + 1) room (step f c.0 k c.1 p c.3).0 c.4 i (le_of_suc-le-suc h) ∙ ap (λ (x : ℕ). number_at off n x area) (omega arith)

  pub column-filled : (f : F) (ys : List ℕ) (room : ℕ) → P f → IsFromFnResult g f ys room → ys ≡ column off n 0 room area
  column-filled f ys room p c =
      ext_get_or 0 ys (column off n 0 room area) (c.long ∙ sym (length-column off n 0 room area))
      (λ i l. ap (λ (x : ℕ). get_or ys x 0) (omega arith) ∙ called f ys 0 room p c.each i (omega (arith, c.long)) ∙ sym (column-at off n 0 room i area (omega (arith, c.long))))
