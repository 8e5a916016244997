-- A reason by what it tells: its number and its run, which with code and errno are its words.
use Rattle.std.specs.Prelude.{ℕ, ◌≤◌, ◌<◌, ◌≡◌, refl, List, [], ◌∷◌, length, get_or, set, Option, Some, None}
use Rattle.std.proofs.Common.{sym, ap, ◌∙◌, arith}
use Rattle.ranges.specs.Ranges.{U64MAX}
use Rattle.runs.specs.declared.Run.{Run}
use Rattle.rules_reasons.specs.declared.Reason.{Reason}
use Rattle.rules_reasons.specs.declared.Reason.TheVariants.{Accepted, NoSizeField, SizeTooSmall, SizePastBytes, TailNotZero, Flags, NoRight, WrongLength, MemoryPasses, SourcePasses, AddressPasses, NoSpace, NoSourceSpace, NoSource, NotWriteable, Misaligned, TouchesReserved, TouchesMapping, LengthMisaligned, NoPlace, NoRecord, OverLimit}
use Rattle.rules_reasons.specs.Reasons.{reason_errno}
use Rattle.reason_words.specs.declared.Parts.{Parts}
use Rattle.rules_reasons.specs.Explain.{reason_code, run_words, place_words, reason_words}

-- the object or the mapping record that is named, 0 where none is
abbrev pub number_of : Reason → ℕ
number_of Accepted = 0
number_of NoSizeField = 0
number_of SizeTooSmall = 0
number_of SizePastBytes = 0
number_of TailNotZero = 0
number_of Flags = 0
number_of NoRight = 0
number_of WrongLength = 0
number_of MemoryPasses = 0
number_of SourcePasses = 0
number_of AddressPasses = 0
number_of NoSpace = 0
number_of NoSourceSpace = 0
number_of NoSource = 0
number_of NotWriteable = 0
number_of Misaligned = 0
number_of (TouchesReserved id) = id
number_of (TouchesMapping k) = k
number_of LengthMisaligned = 0
number_of (NoPlace run) = 0
number_of NoRecord = 0
number_of OverLimit = 0

-- the run that is told
abbrev pub run_of : Reason → Option Run
run_of Accepted = None
run_of NoSizeField = None
run_of SizeTooSmall = None
run_of SizePastBytes = None
run_of TailNotZero = None
run_of Flags = None
run_of NoRight = None
run_of WrongLength = None
run_of MemoryPasses = None
run_of SourcePasses = None
run_of AddressPasses = None
run_of NoSpace = None
run_of NoSourceSpace = None
run_of NoSource = None
run_of NotWriteable = None
run_of Misaligned = None
run_of (TouchesReserved id) = None
run_of (TouchesMapping k) = None
run_of LengthMisaligned = None
run_of (NoPlace run) = run
run_of NoRecord = None
run_of OverLimit = None

abbrev pub parts_of : Reason → Parts
parts_of r = record { code = reason_code r; errno = reason_errno r; number = number_of r; run = run_of r }

-- a run that is not all 2^64 addresses: its length fits a word
abbrev pub Fits : Option Run → Type 0
Fits None = 0 ≤ U64MAX
Fits (Some x) = x.more < U64MAX

abbrev pub Short : Reason → Type 0
Short r = Fits (run_of r)

-- what is told: the reason, and no run that no word holds
pub record Tells (why r : Reason) : Type 0 where
  pub reason : r ≡ why
  pub short : Short r

pub place-words : (r : Reason) → place_words r ≡ number_of r ∷ run_words (run_of r)
place-words Accepted = refl
place-words NoSizeField = refl
place-words SizeTooSmall = refl
place-words SizePastBytes = refl
place-words TailNotZero = refl
place-words Flags = refl
place-words NoRight = refl
place-words WrongLength = refl
place-words MemoryPasses = refl
place-words SourcePasses = refl
place-words AddressPasses = refl
place-words NoSpace = refl
place-words NoSourceSpace = refl
place-words NoSource = refl
place-words NotWriteable = refl
place-words Misaligned = refl
place-words (TouchesReserved id) = refl
place-words (TouchesMapping k) = refl
place-words LengthMisaligned = refl
place-words (NoPlace run) = refl
place-words NoRecord = refl
place-words OverLimit = refl

-- code 0 is that of no reason
pub code_accepted : (r : Reason) → reason_code r ≡ 0 → r ≡ Accepted
code_accepted Accepted e = refl
code_accepted NoSizeField e = absurd (omega (arith, e))
code_accepted SizeTooSmall e = absurd (omega (arith, e))
code_accepted SizePastBytes e = absurd (omega (arith, e))
code_accepted TailNotZero e = absurd (omega (arith, e))
code_accepted Flags e = absurd (omega (arith, e))
code_accepted NoRight e = absurd (omega (arith, e))
code_accepted WrongLength e = absurd (omega (arith, e))
code_accepted MemoryPasses e = absurd (omega (arith, e))
code_accepted SourcePasses e = absurd (omega (arith, e))
code_accepted AddressPasses e = absurd (omega (arith, e))
code_accepted NoSpace e = absurd (omega (arith, e))
code_accepted NoSourceSpace e = absurd (omega (arith, e))
code_accepted NoSource e = absurd (omega (arith, e))
code_accepted NotWriteable e = absurd (omega (arith, e))
code_accepted Misaligned e = absurd (omega (arith, e))
code_accepted (TouchesReserved id) e = absurd (omega (arith, e))
code_accepted (TouchesMapping k) e = absurd (omega (arith, e))
code_accepted LengthMisaligned e = absurd (omega (arith, e))
code_accepted (NoPlace run) e = absurd (omega (arith, e))
code_accepted NoRecord e = absurd (omega (arith, e))
code_accepted OverLimit e = absurd (omega (arith, e))

pub code_refuses : (r : Reason) → (reason_code r ≡ 0 → ⊥) → r ≡ Accepted → ⊥
code_refuses r h e = h (ap (λ (q : Reason). reason_code q) e)

-- ---- five words, written one by one

pub written : (r : Reason) (p : Parts) (ws : List ℕ) (x n : ℕ) → p ≡ parts_of r → length ws ≡ 5 → x ≡ get_or (run_words p.run) 0 0 → n ≡ get_or (run_words p.run) 1 0
    → set (set (set (set (set ws 0 p.code) 1 p.errno) 2 p.number) 3 x) 4 n ≡ reason_words r
written r p ws x n e l ex en = five ws l p.code p.errno p.number x n ∙ rw (ex, en, e) (ap (λ (q : List ℕ). reason_code r ∷ reason_errno r ∷ q) (ap (λ (q : List ℕ). number_of r ∷ q) (both (run_of r)) ∙ sym (place-words r)))
  where
    both : (q : Option Run) → get_or (run_words q) 0 0 ∷ get_or (run_words q) 1 0 ∷ [] ≡ run_words q
    both None = refl
    both (Some x) = refl

    five : (ws : List ℕ) → length ws ≡ 5 → (a b c d e : ℕ) → set (set (set (set (set ws 0 a) 1 b) 2 c) 3 d) 4 e ≡ a ∷ b ∷ c ∷ d ∷ e ∷ []
    five [] l a b c d e = absurd (omega (arith, l))
    five (v ∷ []) l a b c d e = absurd (omega (arith, l))
    five (v ∷ w ∷ []) l a b c d e = absurd (omega (arith, l))
    five (v ∷ w ∷ x ∷ []) l a b c d e = absurd (omega (arith, l))
    five (v ∷ w ∷ x ∷ y ∷ []) l a b c d e = absurd (omega (arith, l))
    five (v ∷ w ∷ x ∷ y ∷ z ∷ []) l a b c d e = refl
    five (v ∷ w ∷ x ∷ y ∷ z ∷ u ∷ ws) l a b c d e = absurd (omega (arith, l))
