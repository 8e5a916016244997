-- Words that are all zero: found so by their joined bits, and made so one by one.
use Prim.Native.Nat.{ℕ, zero, suc, ◌+◌, ◌*◌, ◌≤◌, ◌<◌}
use mathlib.Core.Path.{◌≡◌, sym, ap, ◌∙◌}
use mathlib.Core.Bool.{true}
use mathlib.Core.List.{List}
use native.Mathlib.Omega.{arith}
use lib.Bits.{bit_or, or_add_and, and_le_l, and_le_r}
use lib.Dec.{eqb}
use lib.ListN.{length, get_or, set, replicate, length-replicate}
use lib.Seq.{paste, paste-zero, paste-suc}
use borrow.Rule.Slice.PartMut.{put_mid}
use Rattle.std.proofs.lemmas.Slice.{put_mid-paste}
use Rattle.std.proofs.lemmas.List.{get_or-replicate}
use borrow.Author.Count.{below_more}
use borrow.Author.Tests.{eqb-true}
use Rattle.rules_table.specs.Records.{zero_object, free_object}
use Rattle.rules_table.specs.Layout.{fresh_head}
use Rattle.rules_table.specs.Words.{head_in, objects_in}
use Rattle.layout_objects.specs.Writing.{put_up_to, zero_free, fresh-words}

-- no bit of either
bit_or-none : (a b : ℕ) → bit_or a b ≡ 0 → (a ≡ 0) × (b ≡ 0)
bit_or-none a b e = (omega (arith, e, or_add_and a b, and_le_l a b, and_le_r a b), omega (arith, e, or_add_and a b, and_le_l a b, and_le_r a b))

-- the bits of the first k words from b on: where there is none, the words are zero
pub record Joined (h : List ℕ) (b k bits : ℕ) : Type 0 where
  pub none : bits ≡ 0 → (j : ℕ) → j < k → get_or h (b + j) 0 ≡ 0

pub joined-start : (h : List ℕ) (b : ℕ) → Joined h b 0 0
joined-start h b = record { none = λ e j l. absurd (omega (arith, l)) }

pub joined-on : (h : List ℕ) (b k bits : ℕ) → Joined h b k bits → Joined h b (k + 1) (bit_or bits (get_or h (b + k) 0))
joined-on h b k bits v = record {
  none = λ e. let z = bit_or-none bits (get_or h (b + k) 0) e in below_more (λ (j : ℕ). get_or h (b + j) 0 ≡ 0) k (v.none z.0) z.1;
}

pub joined_end : (h : List ℕ) (i b k bits : ℕ) → Joined h b k bits → b ≡ 27 * i + 1 → i < 32 → 27 ≤ k → eqb bits 0 ≡ true
    → get_or (objects_in h) i zero_object ≡ free_object
joined_end h i b k bits v p l m e =
    zero_free h i l (λ j n. ap (λ (x : ℕ). get_or h (x + j) 0) (sym p) ∙ v.none (eqb-true bits 0 e) j (omega (arith, m, n)))

-- words that were filled with zeros, and then the limit
pub filled-limit : (h : List ℕ) (n limit : ℕ) → h ≡ replicate n 0 → n ≡ 865 → head_in (set h 0 limit) ≡ fresh_head limit
filled-limit h n limit e m =
    fresh-words h limit (ap length e ∙ length-replicate n 0 ∙ m) (λ j l. ap (λ (w : List ℕ). get_or w j 0) e ∙ get_or-replicate n j 0 0 (omega (arith, l, m)))

-- words that are copied as one part, one by one
copied : (h : List ℕ) (b : ℕ) (w : List ℕ) (n : ℕ) → n ≤ length w → b + n ≤ length h → put_up_to h b w n ≡ paste h b w n
unfolding put_up_to
copied h b w zero l k = paste-zero h b w
copied h b w (suc n) l k =
    ap (λ (v : List ℕ). set v (b + n) (get_or w n 0)) (copied h b w n (omega arith) (omega arith)) ∙ paste-suc h b w n 0 (omega arith) (omega arith)

pub copied-part : (h : List ℕ) (b : ℕ) (w : List ℕ) (n k : ℕ) (ys : List ℕ) → ys ≡ w → n ≡ k → n ≡ length w → b + n ≤ length h → put_mid b k h ys ≡ put_up_to h b w n
copied-part h b w n k ys e s m l = put_mid-paste b k h ys w n e s m ∙ sym (copied h b w n (omega arith) l)
