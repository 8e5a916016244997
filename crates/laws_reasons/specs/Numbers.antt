-- The number that is told is the call's own.
use Rattle.std.specs.Prelude.{ℕ, zero, suc, ◌≤◌, ◌≡◌, refl, true, false, List, Option, None, Some}
use Rattle.std.proofs.Common.{sym, ◌∙◌, arith}
use Rattle.lists.specs.Tests.{contrary}
use Rattle.lists.specs.Checks.{first}
use Rattle.rules_table.specs.declared.Object.{Object}
use Rattle.rules_table.specs.declared.Mapping.{Mapping}
use Rattle.rules_table.specs.Charge.{free_mapping}
use Rattle.rules_calls.specs.Edits.{settle, is_none}
use Rattle.rules_calls.specs.Map.{MapFields, mapped, map_checks, founding, map_edit}
use Rattle.rules_calls.specs.Copy.{CopyFields, source_of, source_mapping, copy_checks, copying, copy_edit}
use Rattle.laws_mapping.specs.Passed.{map_passed, copy_passed}
use Rattle.rules_reasons.specs.declared.Reason.{Reason}
use Rattle.rules_reasons.specs.declared.Reason.TheVariants.{Accepted, NoSizeField, SizeTooSmall, SizePastBytes, TailNotZero, Flags, NoRight, WrongLength, MemoryPasses, SourcePasses, AddressPasses, NoSpace, NoSourceSpace, NoSource, NotWriteable, Misaligned, TouchesReserved, TouchesMapping, LengthMisaligned, NoPlace, NoRecord, OverLimit}
use Rattle.rules_reasons.specs.Reasons.{reason_errno, map_names, copy_names, map_reason, copy_reason}
use Rattle.rules_reasons.specs.Explain.{reason_code}
use Rattle.laws_reasons.specs.Names.{itself, first-named, map_numbered, copy_numbered}

-- where no check fired there is a free record: the errno is that of the checks
settled : (k : ℕ) (f : Option ℕ) (m : Mapping) → (k ≡ 0 → is_none f ≡ false) → (settle k (mapped f m)).errno ≡ k
settled (suc k) f m h = refl
settled zero None m h = contrary true refl (h refl)
settled zero (Some i) m h = refl

-- THE LAWS
pub map_explained : (limit : ℕ) (os : List Object) (ms : List Mapping) (c : MapFields) → reason_errno (map_reason limit os ms c) ≡ (map_edit limit os ms c).errno
unfolding map_reason map_edit
map_explained limit os ms c =
    first-named itself reason_errno 0 Accepted (map_checks limit os ms c) (map_names os ms c) refl (map_numbered limit os ms c)
    ∙ sym (settled (first (map_checks limit os ms c) 0) (free_mapping ms) (founding os ms c.flags c.space c.memory c.length c.address)
    (λ e. (map_passed limit os ms c.flags c.space c.must_be_zero c.memory c.length c.address e).free))

pub copy_explained : (os : List Object) (ms : List Mapping) (c : CopyFields) → reason_errno (copy_reason os ms c) ≡ (copy_edit os ms c).errno
unfolding copy_reason copy_edit
copy_explained os ms c =
    first-named itself reason_errno 0 Accepted (copy_checks os ms c) (copy_names os ms c) refl (copy_numbered os ms c)
    ∙ sym (settled (first (copy_checks os ms c) 0) (free_mapping ms) (copying os ms (source_mapping (source_of ms c.source c.origin c.length)) c.flags c.target c.length c.address)
    (λ e. (copy_passed os ms c.flags c.target c.source c.length c.address c.origin e).free))

-- 0 is told of an accepted call alone
pub accepted-only : (r : Reason) → reason_errno r ≡ 0 → r ≡ Accepted
accepted-only Accepted e = refl
accepted-only NoSizeField e = absurd (omega arith)
accepted-only SizeTooSmall e = absurd (omega arith)
accepted-only SizePastBytes e = absurd (omega arith)
accepted-only TailNotZero e = absurd (omega arith)
accepted-only Flags e = absurd (omega arith)
accepted-only NoRight e = absurd (omega arith)
accepted-only WrongLength e = absurd (omega arith)
accepted-only MemoryPasses e = absurd (omega arith)
accepted-only SourcePasses e = absurd (omega arith)
accepted-only AddressPasses e = absurd (omega arith)
accepted-only NoSpace e = absurd (omega arith)
accepted-only NoSourceSpace e = absurd (omega arith)
accepted-only NoSource e = absurd (omega arith)
accepted-only NotWriteable e = absurd (omega arith)
accepted-only Misaligned e = absurd (omega arith)
accepted-only (TouchesReserved id) e = absurd (omega arith)
accepted-only (TouchesMapping n) e = absurd (omega arith)
accepted-only LengthMisaligned e = absurd (omega arith)
accepted-only (NoPlace run) e = absurd (omega arith)
accepted-only NoRecord e = absurd (omega arith)
accepted-only OverLimit e = absurd (omega arith)

-- the highest code is 21
pub reason-codes : (r : Reason) → reason_code r ≤ 21
reason-codes Accepted = omega arith
reason-codes NoSizeField = omega arith
reason-codes SizeTooSmall = omega arith
reason-codes SizePastBytes = omega arith
reason-codes TailNotZero = omega arith
reason-codes Flags = omega arith
reason-codes NoRight = omega arith
reason-codes WrongLength = omega arith
reason-codes MemoryPasses = omega arith
reason-codes SourcePasses = omega arith
reason-codes AddressPasses = omega arith
reason-codes NoSpace = omega arith
reason-codes NoSourceSpace = omega arith
reason-codes NoSource = omega arith
reason-codes NotWriteable = omega arith
reason-codes Misaligned = omega arith
reason-codes (TouchesReserved id) = omega arith
reason-codes (TouchesMapping n) = omega arith
reason-codes LengthMisaligned = omega arith
reason-codes (NoPlace run) = omega arith
reason-codes NoRecord = omega arith
reason-codes OverLimit = omega arith
