-- What is stored, in the words of the tables: nothing, one record, or the records that are released.
use Rattle.std.specs.Prelude.{ℕ, zero, suc, ◌+◌, ◌-◌, ◌≤◌, ◌<◌, ◌≡◌, refl, Bool, true, false, ◌&&◌, List, [], ◌∷◌, map, leb, ltb, length, get_or, set}
use Rattle.std.proofs.Common.{zero-le, sym, ap, ◌∙◌, arith, le_refl, get_or-set_same, get_or-set_other, eq-eqb, ne_eqb, ltb-true, ltb-false, le-leb, lt-ltb, le-ltb}
use Rattle.std.proofs.Math.ListN.{get_or-eq_default}
use Rattle.std.proofs.Math.Seq.{set_out}
use Rattle.std.proofs.lemmas.Bool.{lt-leb}
use Rattle.lists.specs.Tests.{by-test}
use Rattle.ranges.specs.declared.Range.{Range}
use Rattle.rules_table.specs.declared.Mapping.{Mapping}
use Rattle.rules_table.specs.Records.{zero_mapping, within, release}
use Rattle.walks.specs.Stores.{stores, stores-none, stores-next, stores-all, stores_same, stores-kept}
use Rattle.lent_records.specs.declared.Records.{Records}
use Rattle.lent_records.specs.declared.Records.TheVariants.{Keep, Put, Clear, Wipe}
use Rattle.lent_records.specs.Records.{changes, next_record, stored_from, stored, turns_of, first_of}
use Rattle.lent_records.proofs.Lent.{next-kept, stored-length, stored_at}

keep-from : (k : ℕ) (ms : List Mapping) → stored_from Keep k ms ≡ ms
unfolding stored_from next_record
keep-from k [] = refl
keep-from k (m ∷ ms) = rw (keep-from (suc k) ms)

pub stored-keep : (ms : List Mapping) → stored Keep ms ≡ ms
unfolding stored
stored-keep ms = keep-from 0 ms

-- places before the one asked stay, and so do those after it
put-past : (i k : ℕ) (n : Mapping) (ms : List Mapping) → i < k → stored_from (Put i n) k ms ≡ ms
unfolding stored_from next_record
put-past i k n [] h = refl
put-past i k n (m ∷ ms) h = rw (ne_eqb k i (λ z. omega (arith, z, h)), put-past i (suc k) n ms (omega (arith, h)))

put-from : (i k : ℕ) (n : Mapping) (ms : List Mapping) → stored_from (Put (i + k) n) k ms ≡ set ms i n
unfolding stored_from next_record
put-from i k n [] = refl
put-from zero k n (m ∷ ms) = rw (eq-eqb k (0 + k) (omega arith)) (ap (λ (l : List Mapping). n ∷ l) (put-past (0 + k) (suc k) n ms (omega arith)))
put-from (suc i) k n (m ∷ ms) =
    let e : suc i + k ≡ i + suc k = omega arith in
    rw (ne_eqb k (suc i + k) (λ z. omega (arith, z))) (ap (λ (l : List Mapping). m ∷ l) (ap (λ (j : ℕ). stored_from (Put j n) (suc k) ms) e ∙ put-from i (suc k) n ms))

pub stored-put : (i : ℕ) (n : Mapping) (ms : List Mapping) → stored (Put i n) ms ≡ set ms i n
unfolding stored
stored-put i n ms = let e : i ≡ i + 0 = omega arith in ap (λ (j : ℕ). stored_from (Put j n) 0 ms) e ∙ put-from i 0 n ms

-- a test that only passes between the two places
between-test : (f e k : ℕ) (b : Bool) → (b ≡ true → f ≤ k) → (b ≡ true → k < e) → (leb f k && (ltb k e && b)) ≡ b
between-test f e k true lo hi = rw (le-leb f k (lo refl), lt-ltb k e (hi refl)) refl
between-test f e k false lo hi = by-test (leb f k) (λ t. by-test (ltb k e) (λ u. rw (t, u) refl) (λ u. rw (t, u) refl)) (λ t. rw t refl)

clear-from : (s : ℕ) (r : Range) (f e k : ℕ) (ms : List Mapping) → ((j : ℕ) → within s r (get_or ms j zero_mapping) ≡ true → f ≤ j + k)
    → ((j : ℕ) → within s r (get_or ms j zero_mapping) ≡ true → j + k < e) → stored_from (Clear s r f e) k ms ≡ map (release (within s r)) ms
unfolding stored_from next_record release
clear-from s r f e k [] lo hi = refl
clear-from s r f e k (m ∷ ms) lo hi =
    rw (between-test f e k (within s r m) (λ w. omega (arith, lo 0 w)) (λ w. omega (arith, hi 0 w)), clear-from s r f e (suc k) ms (λ j w. omega (arith, lo (suc j) w)) (λ j w. omega (arith, hi (suc j) w)))

-- where all that lie inside the range are between the places
pub stored-clear : (s : ℕ) (r : Range) (f e : ℕ) (ms : List Mapping) → ((k : ℕ) → within s r (get_or ms k zero_mapping) ≡ true → f ≤ k)
    → ((k : ℕ) → within s r (get_or ms k zero_mapping) ≡ true → k < e) → stored (Clear s r f e) ms ≡ map (release (within s r)) ms
unfolding stored
stored-clear s r f e ms lo hi = clear-from s r f e 0 ms (λ j w. omega (arith, lo j w)) (λ j w. omega (arith, hi j w))

pub turns_within : (c : Records) (n : ℕ) → turns_of c n ≤ n
turns_within Keep n = zero-le
turns_within (Put i m) n = by-test (ltb i n) (λ t. rw t (ltb-true i n t)) (λ t. rw t zero-le)
turns_within (Clear s r f e) n = by-test (ltb e n) (λ t. rw t (omega (arith, ltb-true e n t))) (λ t. rw t (le_refl n))
turns_within Wipe n = le_refl n

pub first-within : (c : Records) (n : ℕ) → first_of c n ≤ n
first-within Keep n = zero-le
first-within (Put i m) n = by-test (ltb i n) (λ t. rw t (omega (arith, ltb-true i n t))) (λ t. rw t zero-le)
first-within (Clear s r f e) n = by-test (ltb f n) (λ t. rw t (omega (arith, ltb-true f n t))) (λ t. rw t (le_refl n))
first-within Wipe n = zero-le

module _ (ms : List Mapping) where
  all-turns : (c : Records) → stores zero_mapping (stored c ms) ms (length ms) ≡ stored c ms
  all-turns c = ap (stores zero_mapping (stored c ms) ms) (sym (stored-length c ms)) ∙ stores-all zero_mapping (stored c ms) ms (sym (stored-length c ms))

  no-turns : (c : Records) → stores zero_mapping (stored c ms) ms 0 ≡ ms
  no-turns c = stores-none zero_mapping (stored c ms) ms

  -- the records before the one that is put stay
  put_first : (i : ℕ) (m : Mapping) → stores zero_mapping (stored (Put i m) ms) ms i ≡ ms
  put_first i m =
      stores-kept zero_mapping (stored (Put i m) ms) ms i
      (λ j h. ap (λ (l : List Mapping). get_or l j zero_mapping) (stored-put i m ms) ∙ get_or-set_other ms i j m zero_mapping (λ z. omega (arith, z, h)))

  -- its own turn stores it
  put-turn : (i : ℕ) (m : Mapping) → i < length ms → stores zero_mapping (stored (Put i m) ms) ms (suc i) ≡ stored (Put i m) ms
  put-turn i m h =
      let zs = stored (Put i m) ms in
      let e : suc i ≡ i + 1 = omega arith in
      ap (stores zero_mapping zs ms) e
      ∙ sym (stores-next zero_mapping zs ms i)
      ∙ ap (λ (l : List Mapping). set l i (get_or zs i zero_mapping)) (put_first i m)
      ∙ ap (set ms i) (ap (λ (l : List Mapping). get_or l i zero_mapping) (stored-put i m ms) ∙ get_or-set_same ms i m zero_mapping h)
      ∙ sym (stored-put i m ms)

  -- a place at which no record changes
  kept_at : (c : Records) (j : ℕ) → ((m : Mapping) → changes c j m ≡ false) → get_or (stored c ms) j zero_mapping ≡ get_or ms j zero_mapping
  kept_at c j h =
      by-test (ltb j (length ms))
      (λ t. stored_at c ms j (ltb-true j (length ms) t) ∙ next-kept c j (get_or ms j zero_mapping) (h (get_or ms j zero_mapping)))
      (λ t.
      let l = ltb-false j (length ms) t in
      get_or-eq_default (stored c ms) zero_mapping (omega (arith, l, stored-length c ms)) ∙ sym (get_or-eq_default ms zero_mapping l))

  module _ (s : ℕ) (r : Range) (f e : ℕ) where
    -- the records before the first place stay
    clear_first : (n : ℕ) → n ≤ f → stores zero_mapping (stored (Clear s r f e) ms) ms n ≡ ms
    clear_first n h = stores-kept zero_mapping (stored (Clear s r f e) ms) ms n (λ j k. kept_at (Clear s r f e) j (λ m. rw (lt-leb f j (omega (arith, h, k))) refl))

    past-kept : (j : ℕ) → e ≤ j → get_or (stored (Clear s r f e) ms) j zero_mapping ≡ get_or ms j zero_mapping
    past-kept j h = kept_at (Clear s r f e) j (λ m. rw (le-ltb j e h) (by-test (leb f j) (λ t. rw t refl) (λ t. rw t refl)))

    -- and so do those from the end on
    clear-past : (d : ℕ) → stores zero_mapping (stored (Clear s r f e) ms) ms e ≡ stores zero_mapping (stored (Clear s r f e) ms) ms (d + e)
    clear-past zero = ap (stores zero_mapping (stored (Clear s r f e) ms) ms) (omega arith)
    clear-past (suc d) =
        clear-past d ∙ stores_same zero_mapping (stored (Clear s r f e) ms) ms (d + e) (past-kept (d + e) (omega arith)) ∙ ap (stores zero_mapping (stored (Clear s r f e) ms) ms) (omega arith)

    clear-turns : e ≤ length ms → stores zero_mapping (stored (Clear s r f e) ms) ms e ≡ stored (Clear s r f e) ms
    clear-turns h = clear-past (length ms - e) ∙ ap (stores zero_mapping (stored (Clear s r f e) ms) ms) (omega (arith, h)) ∙ all-turns (Clear s r f e)

  -- before the first turn nothing has to be stored
  pub stored-first : (c : Records) (n : ℕ) → stores zero_mapping (stored c ms) ms (first_of c n) ≡ ms
  stored-first Keep n = no-turns Keep
  stored-first (Put i m) n = by-test (ltb i n) (λ t. rw t (put_first i m)) (λ t. rw t (no-turns (Put i m)))
  stored-first (Clear s r f e) n = by-test (ltb f n) (λ t. rw t (clear_first s r f e f (le_refl f))) (λ t. rw t (clear_first s r f e n (ltb-false f n t)))
  stored-first Wipe n = no-turns Wipe

  -- the turns that are taken leave what is stored
  pub stored-turns : (c : Records) → stores zero_mapping (stored c ms) ms (turns_of c (length ms)) ≡ stored c ms
  stored-turns Keep = no-turns Keep ∙ sym (stored-keep ms)
  stored-turns (Put i m) =
      by-test (ltb i (length ms))
      (λ t. rw t (put-turn i m (ltb-true i (length ms) t)))
      (λ t. rw t (no-turns (Put i m) ∙ sym (stored-put i m ms ∙ set_out ms i m (ltb-false i (length ms) t))))
  stored-turns (Clear s r f e) =
      by-test (ltb e (length ms))
      (λ t. rw t (clear-turns s r f e (omega (arith, ltb-true e (length ms) t))))
      (λ t. rw t (all-turns (Clear s r f e)))
  stored-turns Wipe = all-turns Wipe
