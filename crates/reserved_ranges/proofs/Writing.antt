-- Writing the ranges one after another and counting them: what is left to do from x on.
use Rattle.std.specs.Prelude.{Option, None, Some}
use Prim.Native.Nat.{ℕ, zero, suc, ◌+◌, ◌-◌, ◌≤◌, ◌<◌}
use mathlib.Core.Path.{◌≡◌, refl, sym, ap, ◌∙◌}
use mathlib.Core.List.{List, [], ◌∷◌}
use native.Mathlib.Omega.{arith}
use lib.Dec.{ltb}
use lib.ListN.{length, take}
use borrow.Author.Tests.{ltb-true, ltb-false}
use Rattle.lists.specs.Tests.{by-test}
use Rattle.ranges.specs.declared.Range.{Range}
use Rattle.ranges.specs.Ranges.{U64MAX, range}
use Rattle.freeranges.specs.Free.{U64END, free_from, free_ranges}
use Rattle.freeranges.specs.From.{First}
use Rattle.freeranges.proofs.From.{none-past, free-first}
use Rattle.freeranges.proofs.Fewest.{free-length}
use Rattle.freeranges.specs.Scan.{gap_of, free-nothing}
use Rattle.freeranges.specs.Written.{put_range, put_ranges, length-put_at}

-- ---- one range

module _ (k room s l : ℕ) (bytes : List ℕ) where
  put-length : length (put_range k room (range s l) bytes) ≡ length bytes
  unfolding put_range
  put-length = by-test (ltb k room) (λ e. rw e (length-put_at k (range s l) bytes)) (λ e. rw e)

  put_first : (gs : List Range)
      → put_ranges k (take (room - k) (range s l ∷ gs)) bytes ≡ put_ranges (k + 1) (take (room - (k + 1)) gs) (put_range k room (range s l) bytes)
  unfolding put_range put_ranges
  put_first gs =
      by-test (ltb k room)
      (λ e. let h = ltb-true k room e in let q : room - k ≡ suc (room - (k + 1)) = omega arith in rw (e, q))
      (λ e. let h = ltb-false k room e in let q : room - k ≡ 0 = omega arith in let p : room - (k + 1) ≡ 0 = omega arith in rw (e, q, p))

take_none : (n : ℕ) → take {A = Range} n [] ≡ []
take_none zero = refl
take_none (suc n) = refl

put-none : (k : ℕ) (bytes : List ℕ) → put_ranges k [] bytes ≡ bytes
unfolding put_ranges
put-none k bytes = refl

-- ---- all of them

-- after k ranges, at x: the count and the bytes, each with what is left to do
pub record Work (rs : List Range) (room k x : ℕ) (bytes bytes₀ : List ℕ) : Type 0 where
  pub long : length bytes ≡ length bytes₀
  pub counted : k + length (free_from x rs) ≡ length (free_ranges rs)
  pub written : put_ranges k (take (room - k) (free_from x rs)) bytes ≡ put_ranges 0 (take room (free_ranges rs)) bytes₀

pub work_start : (rs : List Range) (room : ℕ) (bytes : List ℕ) → Work rs room 0 0 bytes bytes
unfolding free_ranges
work_start rs room bytes = record { long = refl; counted = omega arith; written = let e : room - 0 ≡ room = omega arith in rw e }

-- count and bytes are those of the whole list
abbrev pub Done : List Range → ℕ → ℕ → List ℕ → List ℕ → Type 0
Done rs room k bytes bytes₀ = (k ≡ length (free_ranges rs)) × (bytes ≡ put_ranges 0 (take room (free_ranges rs)) bytes₀)

done : (rs : List Range) (room k x : ℕ) (bytes bytes₀ : List ℕ) → Work rs room k x bytes bytes₀ → free_from x rs ≡ [] → Done rs room k bytes bytes₀
done rs room k x bytes bytes₀ w e = (
  omega (arith, ap length e, w.counted),
  sym (ap (λ (gs : List Range). put_ranges k (take (room - k) gs) bytes) e ∙ rw (take_none (room - k)) (put-none k bytes)) ∙ w.written,
)

-- the next free range is g
module _ (rs : List Range) (room k x : ℕ) (bytes bytes₀ : List ℕ) (w : Work rs room k x bytes bytes₀) (g : Option Range) (v : g ≡ gap_of (free_from x rs)) where
  -- there is none
  pub work_none : g ≡ None → Done rs room k bytes bytes₀
  work_none q = done rs room k x bytes bytes₀ w (free-nothing rs x (sym q ∙ v))

  -- it is s to l
  module _ (s l : ℕ) (q : g ≡ Some (range s l)) where
    next : First rs x s l
    next = free-first rs x s l (sym q ∙ v)

    pub work_further : x < l + 1
    work_further = omega (arith, next.from, next.some)

    -- the count is not yet past the reserved ranges
    pub work_small : k ≤ length rs
    work_small = omega (arith, ap length next.first, w.counted, free-length rs)

    module _ (after : List ℕ) (p : after ≡ put_range k room (range s l) bytes) where
      pub work_on : Work rs room (k + 1) (l + 1) after bytes₀
      work_on = record {
        long = rw p (put-length k room s l bytes ∙ w.long);
        counted = omega (arith, ap length next.first, w.counted);
        written =
            rw p
            (sym (ap (λ (gs : List Range). put_ranges k (take (room - k) gs) bytes) next.first ∙ put_first k room s l bytes (free_from (l + 1) rs)) ∙ w.written);
      }

      -- it ends at the last address
      pub work_last : l ≡ U64MAX → Done rs room (k + 1) after bytes₀
      work_last e = done rs room (k + 1) (l + 1) after bytes₀ work_on (let z : l + 1 ≡ U64END = omega arith in rw z (none-past rs))
