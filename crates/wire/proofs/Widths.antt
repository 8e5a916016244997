-- Fields of 4 and 8 bytes, as the code reads and writes them.
use Prim.Native.Nat.{ℕ, zero, suc, ◌+◌, ◌≤◌, ◌/◌, ◌%◌, ◌<◌}
use mathlib.Core.Path.{◌≡◌, refl, sym, ap, ◌∙◌}
use mathlib.Core.List.{List, [], ◌∷◌}
use native.Mathlib.Omega.{arith}
use mathlib.Core.Bool.{Bool, true}
use lib.Dec.{eqb}
use lib.ListN.{length, get_or, set, take, drop}
use lib.Seq.{paste, paste-zero, paste-suc}
use Rattle.std.proofs.Common.{add-zero, eq-eqb, get_or-take, get_or-drop}
use Rattle.std.specs.Int.{w32, w64, from_le_bytes, to_le_bytes}
use borrow.Author.Tests.{eqb-true}
use Rattle.std.specs.Prelude.{IsTrue, ◌↔◌}
use Rattle.lists.specs.Tests.{same_test, and_both}
use Rattle.lists.specs.Search.{all, all-at}
use Rattle.wire.specs.Fields.{field, put, zeros}

module _ (bs : List ℕ) (at : ℕ) where
  third : at + 1 + 1 ≡ at + 2
  third = omega arith

  fourth : at + 1 + 1 + 1 ≡ at + 3
  fourth = omega arith

  fifth : at + 1 + 1 + 1 + 1 ≡ at + 4
  fifth = omega arith

  sixth : at + 1 + 1 + 1 + 1 + 1 ≡ at + 5
  sixth = omega arith

  seventh : at + 1 + 1 + 1 + 1 + 1 + 1 ≡ at + 6
  seventh = omega arith

  eighth : at + 1 + 1 + 1 + 1 + 1 + 1 + 1 ≡ at + 7
  eighth = omega arith

  -- the bytes of a number, taken as one part
  module _ (ys : List ℕ) (n : ℕ) where
    taken : (k : ℕ) → ys ≡ take k (drop at bs) → (i : ℕ) → i < k → get_or ys i 0 ≡ get_or bs (at + i) 0
    taken k e i h = rw e (get_or-take k (drop at bs) i 0 h ∙ get_or-drop at bs i 0)

    pub read_4 : ys ≡ take 4 (drop at bs) → n ≡ from_le_bytes w32 ys → n ≡ field 4 bs at
    unfolding field
    read_4 e f =
        let t = taken 4 e in
        let first : get_or ys 0 0 ≡ get_or bs at 0 = rw add-zero at (t 0 (omega arith)) in
        rw (fourth, third) (omega (arith, f, first, t 1 (omega arith), t 2 (omega arith), t 3 (omega arith)))

    pub read_8 : ys ≡ take 8 (drop at bs) → n ≡ from_le_bytes w64 ys → n ≡ field 8 bs at
    unfolding field
    read_8 e f =
        let t = taken 8 e in
        let first : get_or ys 0 0 ≡ get_or bs at 0 = rw add-zero at (t 0 (omega arith)) in
        rw (eighth, seventh, sixth, fifth, fourth, third) (omega (arith, f, first, t 1 (omega arith), t 2 (omega arith), t 3 (omega arith), t 4 (omega arith), t 5 (omega arith), t 6 (omega arith), t 7 (omega arith)))

  -- the first j bytes of zs, stored one by one
  filled : List ℕ → ℕ → List ℕ
  filled zs zero = bs
  filled zs (suc j) = set (filled zs j) (at + j) (get_or zs j 0)

  filled-paste : (zs : List ℕ) (j : ℕ) → j ≤ length zs → at + length zs ≤ length bs → filled zs j ≡ paste bs at zs j
  unfolding filled
  filled-paste zs zero h k = paste-zero bs at zs
  filled-paste zs (suc j) h k = ap (λ (l : List ℕ). set l (at + j) (get_or zs j 0)) (filled-paste zs j (omega arith) k) ∙ paste-suc bs at zs j 0 (omega arith) (omega arith)

  -- the bytes of a number, stored as one part
  pub write_4 : (v : ℕ) → at + 4 ≤ length bs → paste bs at (to_le_bytes w32 v) 4 ≡ put 4 bs at v
  unfolding put filled
  write_4 v h =
      let zs : List ℕ = v % 256 ∷ v / 256 % 256 ∷ v / 65536 % 256 ∷ v / 16777216 % 256 ∷ [] in
      let b : v / 65536 % 256 ≡ v / 256 / 256 % 256 = omega arith in
      let d : v / 16777216 % 256 ≡ v / 256 / 256 / 256 % 256 = omega arith in
      sym (filled-paste zs 4 (omega arith) h) ∙ rw (add-zero, b, d, ← third, ← fourth)

  pub write_8 : (v : ℕ) → at + 8 ≤ length bs → paste bs at (to_le_bytes w64 v) 8 ≡ put 8 bs at v
  unfolding put filled
  write_8 v h =
      let zs : List ℕ = v % 256 ∷ v / 256 % 256 ∷ v / 65536 % 256 ∷ v / 16777216 % 256 ∷ v / 4294967296 % 256 ∷ v / 1099511627776 % 256 ∷ v / 281474976710656 % 256 ∷ v / 72057594037927936 % 256 ∷ [] in
      let d2 : v / 65536 ≡ v / 256 / 256 = omega arith in
      let d3 : v / 16777216 ≡ v / 65536 / 256 = omega arith in
      let d4 : v / 4294967296 ≡ v / 16777216 / 256 = omega arith in
      let d5 : v / 1099511627776 ≡ v / 4294967296 / 256 = omega arith in
      let d6 : v / 281474976710656 ≡ v / 1099511627776 / 256 = omega arith in
      let d7 : v / 72057594037927936 ≡ v / 281474976710656 / 256 = omega arith in
      sym (filled-paste zs 8 (omega arith) h) ∙ rw (add-zero, d7, d6, d5, d4, d3, d2, ← third, ← fourth, ← fifth, ← sixth, ← seventh, ← eighth)

-- a scan told byte by byte
zeros-each : (bs : List ℕ) → ((k : ℕ) → k < length bs → get_or bs k 0 ≡ 0) → zeros bs ≡ true
unfolding zeros all
zeros-each [] f = refl
zeros-each (x ∷ xs) f = and_both (eqb x 0) (zeros xs) (eq-eqb x 0 (f 0 (omega arith))) (zeros-each xs (λ k h. f (suc k) (omega arith)))

pub zeros-told : (bs : List ℕ) (b : Bool) → (IsTrue b ↔ ((k : ℕ) → k < length bs → get_or bs k 0 ≡ 0)) → b ≡ zeros bs
unfolding zeros
zeros-told bs b h = same_test b (zeros bs) (λ t. zeros-each bs (h.0 t)) (λ t. h.1 (λ k g. eqb-true (get_or bs k 0) 0 (all-at (λ b. eqb b 0) bs 0 t k g)))
