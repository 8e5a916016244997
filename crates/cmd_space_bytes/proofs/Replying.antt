-- IOVA_RANGES: the reply, the checks before it, and the gate before them.
use Rattle.std.specs.Prelude.{Result, Err}
use Prim.Native.Nat.{ℕ, ◌*◌, ◌≤◌}
use mathlib.Core.Path.{◌≡◌, refl, sym, ap, ◌∙◌}
use Rattle.checks.specs.declared.Errno.{Errno}
use Rattle.checks.specs.Refused.{refused}
use mathlib.Core.Bool.{Bool, true, false, cond}
use mathlib.Core.List.{List, [], ◌∷◌}
use native.Mathlib.Omega.{arith}
use lib.Dec.{ltb}
use lib.ListN.{length, take}
use borrow.Author.Tests.{ltb-false, not-false, ne_eqb}
use Rattle.lists.specs.Checks.{when, first, first-each, first-stays, first_goes, Refusals, passed}
use Rattle.wire.specs.Fields.{field, put}
use Rattle.freeranges.specs.Free.{free_ranges}
use Rattle.freeranges.proofs.Fewest.{free-length}
use Rattle.freeranges.specs.Written.{put_ranges}
use Rattle.rules_table.specs.declared.Object.{Object}
use Rattle.rules_table.specs.Records.{new_space, object_at, space_at}
use Rattle.rules_table.specs.Spaces.{alignment, reserved_of}
use Rattle.reserved_ranges.specs.Gathered.{reserved_of-most}
use Rattle.rules_calls.specs.Ranges.{free_of, replies_to, ranges_bytes, ranges_area, ranges_checks, ranges_errno}
use Rattle.cmd_space_bytes.specs.Replied.{RangesReply, RangesDone}
use Rattle.edits.specs.Numbers.{ranges_checks_at}

-- a function that ends early by ? has the number of the check that it asked
pub refused-same : {A B : Type 0} (r : Result A Errno) (d : Result B Errno) (e : Errno) → r ≡ Err e → d ≡ Err e → refused d ≡ refused r
refused-same r d e p q = ap refused q ∙ sym (ap refused p)

-- ---- the reply

-- there are at most 129 free ranges
pub full-small : (os : List Object) (s n : ℕ) → length os ≡ 32 → n ≡ length (free_ranges (reserved_of os s)) → n ≤ 129
full-small os s n l e = omega (arith, e, l, free-length (reserved_of os s), reserved_of-most os s)

pub replied : (os : List Object) (s count n a : ℕ) (cmd cmd1 cmd2 area area1 : List ℕ) → n ≡ length (free_ranges (reserved_of os s))
    → area1 ≡ put_ranges 0 (take count (free_ranges (reserved_of os s))) area
    → a ≡ alignment os s → cmd1 ≡ put 4 cmd 8 n → cmd2 ≡ put 8 cmd1 24 a → RangesReply os s count n cmd cmd2 area area1
unfolding ranges_bytes ranges_area free_of
replied os s count n a cmd cmd1 cmd2 area area1 en er ea e1 e2 = record {
  full = en;
  bytes = e2 ∙ rw (e1, ea, en);
  ranges = er;
}

-- ---- the checks

single_check : (b : Bool) → ◌≡◌ {A = ℕ} (first (when b 90 ∷ []) 0) (cond b 90 0)
unfolding first
single_check true = refl
single_check false = refl

checks-refuse : (os : List Object) (s count z room : ℕ) → Refusals (ranges_checks_at os s count z room) 0
unfolding ranges_checks
checks-refuse os s count z room = (λ y. omega (arith, y), (λ y. omega (arith, y), (λ y. omega (arith, y), tt)))

-- where they pass, the id is that of a space, and the area has room for count ranges
module _ (os : List Object) (s count z room r : ℕ) (e : r ≡ first (ranges_checks_at os s count z room) 0) (p : r ≡ 0) where
  pub ranges-known : space_at os s ≡ true
  unfolding ranges_checks
  ranges-known =
      not-false (space_at os s)
      (passed (ranges_checks_at os s count z room) 0 (when false 0) (checks-refuse os s count z room) (sym e ∙ p) 1 (omega arith))

  ranges-fit : 16 * count ≤ room
  unfolding ranges_checks
  ranges-fit =
      ltb-false room (16 * count)
      (passed (ranges_checks_at os s count z room) 0 (when false 0) (checks-refuse os s count z room) (sym e ∙ p) 2 (omega arith))

-- the room is the same whatever the objects are: those of a list made for it
pub ranges-room : (known : Bool) (count z room r : ℕ)
    → ((os : List Object) (s : ℕ) → known ≡ space_at os s → r ≡ first (ranges_checks_at os s count z room) 0) → r ≡ 0 → 16 * count ≤ room
unfolding space_at object_at
ranges-room true count z room r h p = ranges-fit (new_space ∷ []) 1 count z room r (h (new_space ∷ []) 1 refl) p
ranges-room false count z room r h p = ranges-fit [] 0 count z room r (h [] 0 refl) p

module _ (os : List Object) (cmd area : List ℕ) where
  -- no check before the reply gives 90
  not_90 : first (ranges_checks_at os (field 4 cmd 4) (field 4 cmd 8) (field 4 cmd 12) (length area)) 0 ≡ 90 → ⊥
  unfolding ranges_checks
  not_90 = first-each (λ (n : ℕ). n ≡ 90 → ⊥) (ranges_checks_at os (field 4 cmd 4) (field 4 cmd 8) (field 4 cmd 12) (length area)) 0
      (λ y. omega (arith, y), (λ y. omega (arith, y), (λ y. omega (arith, y), tt))) (λ y. omega (arith, y))

  pub ranges-refused : (n count z : ℕ) → count ≡ field 4 cmd 8 → z ≡ field 4 cmd 12 → n ≡ first (ranges_checks_at os (field 4 cmd 4) count z (length area)) 0 → (n ≡ 0 → ⊥) → RangesDone os n cmd cmd area area
  unfolding ranges_errno
  ranges-refused n count z ec ez e h =
      let f : n ≡ first (ranges_checks_at os (field 4 cmd 4) (field 4 cmd 8) (field 4 cmd 12) (length area)) 0 = e ∙ rw (ec, ez) in
      let silent : replies_to n ≡ false = rw (ne_eqb n 0 h) (ne_eqb n 90 (λ y. not_90 (sym f ∙ y))) in
      record {
        errno = first-stays (ranges_checks_at os (field 4 cmd 4) (field 4 cmd 8) (field 4 cmd 12) (length area)) 0 n _ f h;
        bytes = sym (rw silent);
        ranges = sym (rw silent);
      }

  replies : (b : Bool) → replies_to (cond b 90 0) ≡ true
  replies true = refl
  replies false = refl

  pub ranges-done : (n m full s count z : ℕ) (cmd' area' : List ℕ) → s ≡ field 4 cmd 4 → count ≡ field 4 cmd 8 → z ≡ field 4 cmd 12 → m ≡ first (ranges_checks_at os (field 4 cmd 4) count z (length area)) 0 → m ≡ 0
      → RangesReply os s count full cmd cmd' area area' → n ≡ first (when (ltb count full) 90 ∷ []) 0 → RangesDone os n cmd cmd' area area'
  unfolding ranges_errno
  ranges-done n m full s count z cmd' area' es ec ez em zero-m r e =
      let f : 0 ≡ first (ranges_checks_at os (field 4 cmd 4) (field 4 cmd 8) (field 4 cmd 12) (length area)) 0 = sym zero-m ∙ em ∙ rw (ec, ez) in
      let d : n ≡ cond (ltb (field 4 cmd 8) (length (free_of os (field 4 cmd 4)))) 90 0 = e ∙ single_check (ltb count full) ∙ rw (ec, r.full, es) in
      let writes : replies_to n ≡ true = rw d (replies (ltb (field 4 cmd 8) (length (free_of os (field 4 cmd 4))))) in
      record {
        errno = d ∙ first_goes (ranges_checks_at os (field 4 cmd 4) (field 4 cmd 8) (field 4 cmd 12) (length area)) 0 _ (checks-refuse os (field 4 cmd 4) (field 4 cmd 8) (field 4 cmd 12) (length area)) f;
        bytes = r.bytes ∙ rw (es, writes);
        ranges = r.ranges ∙ rw (es, ec, writes);
      }
