-- Laws of results: a refusal is below zero and tells its errno.
use Rattle.std.specs.Prelude.{ℕ, zero, suc, ◌≡◌, refl, ℤ, pos, negsuc}
use Rattle.std.proofs.Common.{ap}
use Rattle.rules_calls.specs.Results.{signed_result}

pub result-zero : signed_result 0 ≡ pos 0
unfolding signed_result
result-zero = refl

-- a refusal is below zero, and tells its errno
pub result-suc : (n : ℕ) → signed_result (suc n) ≡ negsuc n
unfolding signed_result
result-suc n = refl

-- so a result gives its errno back
errno_in : ℤ → ℕ
errno_in (pos n) = 0
errno_in (negsuc n) = suc n

pub result-none : (n : ℕ) → signed_result n ≡ pos 0 → n ≡ 0
unfolding errno_in signed_result
result-none zero e = refl
result-none (suc n) e = ap errno_in e

pub result-errno : (n k : ℕ) → signed_result n ≡ negsuc k → n ≡ suc k
unfolding errno_in signed_result
result-errno zero k e = ap errno_in e
result-errno (suc n) k e = ap errno_in e
