-- The pages of a backing (document 01, "Table"): the pages of 4,096 bytes that memory start to memory start + length - 1 touches.
use Rattle.std.specs.Prelude.{ℕ, zero, suc, ◌+◌, ◌-◌, ◌*◌, ◌/◌, ◌^◌, ◌≡◌, refl, Bool, eqb}
use Rattle.std.proofs.Common.{arith, eqb-true, eq-eqb}
use Rattle.lists.specs.Tests.{same_test}
use Rattle.ranges.specs.declared.Range.{Range}
use Rattle.ranges.specs.Ranges.{range, holds, share, holds-from, holds-upto, holds_of}

unfoldable pub pages_touched : ℕ → ℕ → ℕ
pages_touched memory zero = 0
pages_touched memory (suc l) = (memory + l) / 4096 - memory / 4096 + 1

-- the bytes of page p
unfoldable pub page : ℕ → Range
page p = range (4096 * p) (4096 * p + 4095)

-- a byte lies in one page
pub page-holds : (p a : ℕ) → holds (page p) a ≡ eqb (a / 4096) p
unfolding page
page-holds p a =
    same_test (holds (page p) a) (eqb (a / 4096) p)
    (λ e. eq-eqb (a / 4096) p (omega (arith, holds-from (page p) a e, holds-upto (page p) a e)))
    (λ e. let q : a / 4096 ≡ p = eqb-true (a / 4096) p e in holds_of (page p) a (omega arith) (omega arith))

-- a page holds one of the bytes
unfoldable pub touched : ℕ → ℕ → ℕ → Bool
touched memory length p = share (page p) (range memory (memory + (length - 1)))

-- 2 bytes from 4,095 touch 2 pages, and 2^40 bytes from 0 touch 2^28
pub pages-edge : pages_touched 4095 2 ≡ 2
unfolding pages_touched
pages-edge = refl

pub pages-longest : pages_touched 0 (2 ^ 40) ≡ 2 ^ 28
unfolding pages_touched
pages-longest = refl
