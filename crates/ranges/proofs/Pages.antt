-- The pages that bytes touch, counted.
use Rattle.std.specs.Prelude.{ℕ, zero, suc, ◌+◌, ◌-◌, ◌*◌, ◌/◌, ◌≤◌, ◌<◌, ◌≡◌, ◌&&◌, leb, ltb}
use Rattle.std.proofs.Common.{◌∙◌, arith}
use Rattle.lists.specs.Tests.{leb_and_iff}
use Rattle.lists.specs.Below.{count_below, count_below-cong, count_below-run}
use Rattle.ranges.specs.Ranges.{range, share-ends}
use Rattle.ranges.specs.Pages.{pages_touched, page, touched}

-- THE LAW: it is the number of pages that hold one of those bytes, among the k first pages, where the bytes end by then
pub pages-count : (m n k : ℕ) → 0 < n → m + n ≤ 4096 * k → count_below k (touched m n) ≡ pages_touched m n
unfolding pages_touched touched page
pages-count m zero k h f = absurd (omega arith)
pages-count m (suc l) k h f =
    omega (arith, count_below-cong k (touched m (suc l)) (λ p. leb (m / 4096) p && ltb p ((m + l) / 4096 + 1)) (λ p g. run p), count_below-run k (m / 4096) ((m + l) / 4096 + 1) (omega arith))
  where
    run : (p : ℕ) → touched m (suc l) p ≡ (leb (m / 4096) p && ltb p ((m + l) / 4096 + 1))
    run p =
        share-ends (page p) (range m (m + (suc l - 1))) (omega arith) (omega arith)
        ∙ leb_and_iff (4096 * p) (m + (suc l - 1)) m (4096 * p + 4095) (m / 4096) p (suc p) ((m + l) / 4096 + 1) (λ a b. (omega arith, omega arith)) (λ a b. (omega arith, omega arith))
