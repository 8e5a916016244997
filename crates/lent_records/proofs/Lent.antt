-- Laws of the mapping records in the caller's memory: what a record becomes, and that there are as many as before.
use Rattle.std.specs.Prelude.{ℕ, zero, suc, ◌+◌, ◌<◌, ◌≡◌, refl, Bool, true, false, cond, List, [], ◌∷◌, length, get_or, replicate}
use Rattle.std.proofs.Common.{ap, ◌∙◌, arith}
use Rattle.rules_table.specs.declared.Mapping.{Mapping}
use Rattle.rules_table.specs.Records.{zero_mapping}
use Rattle.lent_records.specs.declared.Records.{Records}
use Rattle.lent_records.specs.declared.Records.TheVariants.{Wipe}
use Rattle.lent_records.specs.Records.{changes, becomes, next_record, stored_from, stored}

-- ---- laws

pub next-changed : (c : Records) (k : ℕ) (m : Mapping) → changes c k m ≡ true → next_record c k m ≡ becomes c
unfolding next_record
next-changed c k m e = ap (λ (b : Bool). cond b (becomes c) m) e

pub next-kept : (c : Records) (k : ℕ) (m : Mapping) → changes c k m ≡ false → next_record c k m ≡ m
unfolding next_record
next-kept c k m e = ap (λ (b : Bool). cond b (becomes c) m) e

from-length : (c : Records) (k : ℕ) (ms : List Mapping) → length (stored_from c k ms) ≡ length ms
unfolding stored_from
from-length c k [] = refl
from-length c k (m ∷ ms) = ap suc (from-length c (suc k) ms)

from_at : (c : Records) (k : ℕ) (ms : List Mapping) (i : ℕ) → i < length ms → get_or (stored_from c k ms) i zero_mapping ≡ next_record c (i + k) (get_or ms i zero_mapping)
unfolding stored_from
from_at c k [] i h = absurd (omega (arith, h))
from_at c k (m ∷ ms) zero h = ap (λ (j : ℕ). next_record c j m) (omega arith)
from_at c k (m ∷ ms) (suc i) h = from_at c (suc k) ms i (omega (arith, h)) ∙ ap (λ (j : ℕ). next_record c j (get_or ms i zero_mapping)) (omega arith)

pub stored-length : (c : Records) (ms : List Mapping) → length (stored c ms) ≡ length ms
unfolding stored
stored-length c ms = from-length c 0 ms

pub stored_at : (c : Records) (ms : List Mapping) (i : ℕ) → i < length ms → get_or (stored c ms) i zero_mapping ≡ next_record c i (get_or ms i zero_mapping)
unfolding stored
stored_at c ms i h = from_at c 0 ms i h ∙ ap (λ (j : ℕ). next_record c j (get_or ms i zero_mapping)) (omega arith)

from-wipe : (k : ℕ) (ms : List Mapping) → stored_from Wipe k ms ≡ replicate (length ms) zero_mapping
unfolding stored_from next_record
from-wipe k [] = refl
from-wipe k (m ∷ ms) = ap (λ (l : List Mapping). zero_mapping ∷ l) (from-wipe (suc k) ms)

pub stored-wipe : (ms : List Mapping) → stored Wipe ms ≡ replicate (length ms) zero_mapping
unfolding stored
stored-wipe ms = from-wipe 0 ms
