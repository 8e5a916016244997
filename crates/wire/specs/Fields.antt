-- "All numbers are little-endian" (document 01): a field of k bytes at an offset, read and written, for every width at once.
use Rattle.std.specs.Prelude.{ℕ, zero, suc, ◌+◌, ◌*◌, ◌/◌, ◌%◌, ◌^◌, ◌≤◌, ◌<◌, ◌≡◌, refl, Bool, true, false, List, length, get_or, drop, set}
use Rattle.std.proofs.Common.{ap, ◌∙◌, pow-suc, arith, length-set, get_or-set_same, get_or-set_other, eq-eqb, ne_eqb}
use Rattle.std.proofs.Math.Nat.{pow-zero, one-le-pow}
use Rattle.std.proofs.Math.Arith.{mod-mul}
use Rattle.std.proofs.Math.Dec.{eqb}
use Rattle.lists.specs.Search.{all, all-failed, all-on, all_end}

-- the number that the k bytes from an offset on give, lowest byte first
unfoldable pub field : ℕ → List ℕ → ℕ → ℕ
field zero bs at = 0
field (suc k) bs at = get_or bs at 0 + 256 * field k bs (at + 1)

-- the bytes with the k lowest bytes of v from an offset on
unfoldable pub put : ℕ → List ℕ → ℕ → ℕ → List ℕ
put zero bs at v = bs
put (suc k) bs at v = put k (set bs at (v % 256)) (at + 1) (v / 256)

-- every byte is zero
unfoldable pub zeros : List ℕ → Bool
zeros bs = all (λ b. eqb b 0) bs

-- a scan for a byte that is not zero, at place i. `v` is the loop's invariant: what is left answers for the whole
module _ (bs : List ℕ) (i : ℕ) {k : Bool} (v : zeros (drop i bs) ≡ k) where
  pub zeros-failed : i < length bs → (get_or bs i 0 ≡ 0 → ⊥) → false ≡ k
  unfolding zeros
  zeros-failed h e = all-failed (λ b. eqb b 0) bs i v 0 h (ne_eqb (get_or bs i 0) 0 e)

  pub zeros-on : i < length bs → get_or bs i 0 ≡ 0 → zeros (drop (i + 1) bs) ≡ k
  unfolding zeros
  zeros-on h e = all-on (λ b. eqb b 0) bs i v 0 h (eq-eqb (get_or bs i 0) 0 e)

  pub zeros-end : length bs ≤ i → true ≡ k
  unfolding zeros
  zeros-end h = all_end (λ b. eqb b 0) bs i v h

pub length-put : (k : ℕ) (bs : List ℕ) (at v : ℕ) → length (put k bs at v) ≡ length bs
unfolding put
length-put zero bs at v = refl
length-put (suc k) bs at v = length-put k (set bs at (v % 256)) (at + 1) (v / 256) ∙ length-set bs at (v % 256)

-- only the k lowest bytes of the number count
pub put-mod : (k : ℕ) (bs : List ℕ) (at v : ℕ) → put k bs at (v % 256 ^ k) ≡ put k bs at v
unfolding put
put-mod zero bs at v = refl
put-mod (suc k) bs at v =
    let split : v % 256 ^ suc k ≡ v / 256 % 256 ^ k * 256 + v % 256 = ap (λ (x : ℕ). v % x) (pow-suc 256 k) ∙ mod-mul v (one-le-pow k 256 (omega arith)) (omega arith) in
    let low : v % 256 ^ suc k % 256 ≡ v % 256 = rw split (omega arith) in
    let high : v % 256 ^ suc k / 256 ≡ v / 256 % 256 ^ k = rw split (omega arith) in
    rw (low, high) (put-mod k (set bs at (v % 256)) (at + 1) (v / 256))

-- no byte but those of the field is written
pub get_d_put_before : (k : ℕ) (bs : List ℕ) (at v i : ℕ) → i < at → get_or (put k bs at v) i 0 ≡ get_or bs i 0
unfolding put
get_d_put_before zero bs at v i h = refl
get_d_put_before (suc k) bs at v i h = get_d_put_before k (set bs at (v % 256)) (at + 1) (v / 256) i (omega arith) ∙ get_or-set_other bs at i (v % 256) 0 (λ e. omega (arith, e))

pub get_d_put_after : (k : ℕ) (bs : List ℕ) (at v i : ℕ) → at + k ≤ i → get_or (put k bs at v) i 0 ≡ get_or bs i 0
unfolding put
get_d_put_after zero bs at v i h = refl
get_d_put_after (suc k) bs at v i h = get_d_put_after k (set bs at (v % 256)) (at + 1) (v / 256) i (omega arith) ∙ get_or-set_other bs at i (v % 256) 0 (λ e. omega (arith, e))

-- a field is as its bytes are
pub field-cong : (k : ℕ) (bs cs : List ℕ) (at : ℕ) → ((i : ℕ) → at ≤ i → i < at + k → get_or bs i 0 ≡ get_or cs i 0) → field k bs at ≡ field k cs at
unfolding field
field-cong zero bs cs at h = refl
field-cong (suc k) bs cs at h = omega (arith, h at (omega arith) (omega arith), field-cong k bs cs (at + 1) (λ i a b. h i (omega arith) (omega arith)))

-- another field that lies before or after what was written
pub field_put-before : (j k : ℕ) (bs : List ℕ) (at v to : ℕ) → at + j ≤ to → field j (put k bs to v) at ≡ field j bs at
field_put-before j k bs at v to h = field-cong j (put k bs to v) bs at (λ i a b. get_d_put_before k bs to v i (omega arith))

-- what was written is read: its k lowest bytes
pub field_put : (k : ℕ) (bs : List ℕ) (at v : ℕ) → at + k ≤ length bs → v < 256 ^ k → field k (put k bs at v) at ≡ v
unfolding field put
field_put zero bs at v h f = omega (arith, f, pow-zero 256)
field_put (suc k) bs at v h f =
    let first : get_or (put k (set bs at (v % 256)) (at + 1) (v / 256)) at 0 ≡ v % 256
    = get_d_put_before k (set bs at (v % 256)) (at + 1) (v / 256) at (omega arith) ∙ get_or-set_same bs at (v % 256) 0 (omega arith) in
    let room : at + 1 + k ≤ length (set bs at (v % 256)) = rw (length-set bs at (v % 256)) (omega arith) in
    let bound : v < 256 ^ k * 256 = rw (← pow-suc 256 k) f in
    let rest = field_put k (set bs at (v % 256)) (at + 1) (v / 256) room (omega arith) in
    omega arith
