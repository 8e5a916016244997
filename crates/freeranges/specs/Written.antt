-- Ranges in the range area (document 01: "16 bytes a range (start*, last*)"), one after another.
use Rattle.std.specs.Prelude.{ℕ, zero, suc, ◌+◌, ◌*◌, ◌≤◌, ◌<◌, ◌≡◌, refl, cond, List, [], ◌∷◌, ltb, length, get_or}
use Rattle.std.proofs.Common.{◌∙◌, le_of_suc-le-suc, not-suc-le-zero, arith}
use Rattle.wire.specs.Fields.{field, put, length-put, get_d_put_before, get_d_put_after, field-cong, field_put, field_put-before}
use Rattle.ranges.specs.declared.Range.{Range}
use Rattle.freeranges.specs.Free.{U64END}

-- the bytes with a range at place k
unfoldable pub put_at : ℕ → Range → List ℕ → List ℕ
put_at k g bytes = put 8 (put 8 bytes (16 * k) g.start) (16 * k + 8) g.last

-- where there is room for it
unfoldable pub put_range : ℕ → ℕ → Range → List ℕ → List ℕ
put_range k room g bytes = cond (ltb k room) (put_at k g bytes) bytes

-- the bytes with ranges one after another from place k on
unfoldable pub put_ranges : ℕ → List Range → List ℕ → List ℕ
put_ranges k [] bytes = bytes
put_ranges k (g ∷ gs) bytes = put_ranges (k + 1) gs (put_at k g bytes)

pub length-put_at : (k : ℕ) (g : Range) (bytes : List ℕ) → length (put_at k g bytes) ≡ length bytes
unfolding put_at
length-put_at k g bytes = length-put 8 (put 8 bytes (16 * k) g.start) (16 * k + 8) g.last ∙ length-put 8 bytes (16 * k) g.start

pub length-put_ranges : (k : ℕ) (gs : List Range) (bytes : List ℕ) → length (put_ranges k gs bytes) ≡ length bytes
unfolding put_ranges
length-put_ranges k [] bytes = refl
length-put_ranges k (g ∷ gs) bytes = length-put_ranges (k + 1) gs (put_at k g bytes) ∙ length-put_at k g bytes

-- no byte before them is written
pub put_ranges-before : (k : ℕ) (gs : List Range) (bytes : List ℕ) (i : ℕ) → i < 16 * k → get_or (put_ranges k gs bytes) i 0 ≡ get_or bytes i 0
unfolding put_ranges put_at
put_ranges-before k [] bytes i h = refl
put_ranges-before k (g ∷ gs) bytes i h =
    put_ranges-before (k + 1) gs (put_at k g bytes) i (omega arith) ∙ get_d_put_before 8 (put 8 bytes (16 * k) g.start) (16 * k + 8) g.last i (omega arith)
    ∙ get_d_put_before 8 bytes (16 * k) g.start i h

-- and none behind them
pub put_ranges-after : (k : ℕ) (gs : List Range) (bytes : List ℕ) (i : ℕ) → 16 * (k + length gs) ≤ i → get_or (put_ranges k gs bytes) i 0 ≡ get_or bytes i 0
unfolding put_ranges put_at
put_ranges-after k [] bytes i h = refl
put_ranges-after k (g ∷ gs) bytes i h =
    put_ranges-after (k + 1) gs (put_at k g bytes) i (omega arith) ∙ get_d_put_after 8 (put 8 bytes (16 * k) g.start) (16 * k + 8) g.last i (omega arith)
    ∙ get_d_put_after 8 bytes (16 * k) g.start i (omega arith)

-- the range at place j is read as it was put: its start
pub put_ranges-start : (k : ℕ) (gs : List Range) (bytes : List ℕ) (d : Range) (j : ℕ) → j < length gs → 16 * (k + length gs) ≤ length bytes → (get_or gs j d).start < U64END
    → field 8 (put_ranges k gs bytes) (16 * (k + j)) ≡ (get_or gs j d).start
unfolding put_ranges put_at
put_ranges-start k [] bytes d j h f w = absurd (not-suc-le-zero h)
put_ranges-start k (g ∷ gs) bytes d zero h f w =
    let z : 16 * (k + 0) ≡ 16 * k = omega arith in
    rw z
    (field-cong 8 (put_ranges (k + 1) gs (put_at k g bytes)) (put_at k g bytes) (16 * k) (λ i a b. put_ranges-before (k + 1) gs (put_at k g bytes) i (omega arith))
    ∙ field_put-before 8 8 (put 8 bytes (16 * k) g.start) (16 * k) g.last (16 * k + 8) (omega arith)
    ∙ field_put 8 bytes (16 * k) g.start (omega arith) w)
put_ranges-start k (g ∷ gs) bytes d (suc j) h f w =
    let z : 16 * (k + suc j) ≡ 16 * (k + 1 + j) = omega arith in
    rw z (put_ranges-start (k + 1) gs (put_at k g bytes) d j (le_of_suc-le-suc h) (rw (length-put_at k g bytes) (omega arith)) w)

-- and its last
pub put_ranges-last : (k : ℕ) (gs : List Range) (bytes : List ℕ) (d : Range) (j : ℕ) → j < length gs → 16 * (k + length gs) ≤ length bytes → (get_or gs j d).last < U64END
    → field 8 (put_ranges k gs bytes) (16 * (k + j) + 8) ≡ (get_or gs j d).last
unfolding put_ranges put_at
put_ranges-last k [] bytes d j h f w = absurd (not-suc-le-zero h)
put_ranges-last k (g ∷ gs) bytes d zero h f w =
    let z : 16 * (k + 0) ≡ 16 * k = omega arith in
    rw z
    (field-cong 8 (put_ranges (k + 1) gs (put_at k g bytes)) (put_at k g bytes) (16 * k + 8) (λ i a b. put_ranges-before (k + 1) gs (put_at k g bytes) i (omega arith))
    ∙ field_put 8 (put 8 bytes (16 * k) g.start) (16 * k + 8) g.last (rw (length-put 8 bytes (16 * k) g.start) (omega arith)) w)
put_ranges-last k (g ∷ gs) bytes d (suc j) h f w =
    let z : 16 * (k + suc j) ≡ 16 * (k + 1 + j) = omega arith in
    rw z (put_ranges-last (k + 1) gs (put_at k g bytes) d j (le_of_suc-le-suc h) (rw (length-put_at k g bytes) (omega arith)) w)
