-- A refusal by its number, and what a list of checks answers where it is told as a result.
use Rattle.std.specs.Prelude.{ℕ, ◌≡◌, Result, Ok, Err}
use Rattle.std.proofs.Common.{arith}
use Rattle.checks.specs.declared.Errno.{Errno}
use Rattle.checks.specs.declared.Errno.TheVariants.{EPERM, ENOENT, E2BIG, ENOMEM, EFAULT, EBUSY, EEXIST, EINVAL, ENOTTY, ENOSPC, EOVERFLOW, EMSGSIZE, EOPNOTSUPP, EADDRINUSE, EUCLEAN}

-- the number of errno.h
abbrev pub number_of : Errno → ℕ
number_of EPERM = 1
number_of ENOENT = 2
number_of E2BIG = 7
number_of ENOMEM = 12
number_of EFAULT = 14
number_of EBUSY = 16
number_of EEXIST = 17
number_of EINVAL = 22
number_of ENOTTY = 25
number_of ENOSPC = 28
number_of EOVERFLOW = 75
number_of EMSGSIZE = 90
number_of EOPNOTSUPP = 95
number_of EADDRINUSE = 98
number_of EUCLEAN = 117

-- the number of the check that fired, 0 where none did
abbrev pub refused : {A : Type 0} → Result A Errno → ℕ
refused (Ok a) = 0
refused (Err e) = number_of e

-- no refusal is 0
pub number-some : (e : Errno) → number_of e ≡ 0 → ⊥
number-some EPERM h = omega (arith, h)
number-some ENOENT h = omega (arith, h)
number-some E2BIG h = omega (arith, h)
number-some ENOMEM h = omega (arith, h)
number-some EFAULT h = omega (arith, h)
number-some EBUSY h = omega (arith, h)
number-some EEXIST h = omega (arith, h)
number-some EINVAL h = omega (arith, h)
number-some ENOTTY h = omega (arith, h)
number-some ENOSPC h = omega (arith, h)
number-some EOVERFLOW h = omega (arith, h)
number-some EMSGSIZE h = omega (arith, h)
number-some EOPNOTSUPP h = omega (arith, h)
number-some EADDRINUSE h = omega (arith, h)
number-some EUCLEAN h = omega (arith, h)
