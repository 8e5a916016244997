-- What each return of the code gives, in the words of the definitions.
use Prim.Native.Nat.{ℕ, zero, suc, ◌+◌, ◌≤◌, ◌<◌, ◌^◌}
use mathlib.Core.Path.{◌≡◌, refl, sym, ap, ◌∙◌}
use mathlib.Core.Bool.{Bool, true, false, cond}
use mathlib.Core.List.{List, map}
use native.Mathlib.Omega.{arith}
use lib.IntN.{ℤ, pos, negsuc}
use lib.ListN.{length, set, replicate}
use lib.Seq.{set_out}
use borrow.Author.Tests.{le-leb, lt-leb, lt-ltb, le-ltb}
use Rattle.rules_calls.specs.Results.{signed_result}
use Rattle.ranges.specs.declared.Range.{Range}
use Rattle.ranges.specs.Ranges.{U64MAX, range}
use Rattle.rules_table.specs.declared.Object.{Object}
use Rattle.rules_table.specs.declared.Mapping.{Mapping}
use Rattle.rules_table.specs.declared.Table.{Table}
use Rattle.rules_table.specs.Records.{zero_mapping, free_object, fresh_table, of_space, within, release}
use Rattle.table.specs.Cleared.{release-same, within_all}
use Rattle.rules_calls.specs.declared.Change.TheVariants.{Nothing, Put, Drop, Map, Clear}
use Rattle.rules_calls.specs.declared.Answer.{Answer}
use Rattle.rules_calls.specs.declared.Edit.{Edit}
use Rattle.rules_calls.specs.Edits.{applied}
use Rattle.edits.specs.Parts.{put_object, drop_space, put_mapping, clear_inside}
use Rattle.rules_calls.specs.Answers.{id_or, fresh_answer}

module _ (t : Table) (i : ℕ) where
  pub put-past : (n : Object) → length t.objects ≡ 32 → 32 ≤ i → t ≡ put_object t i n
  unfolding applied
  put-past n l h = ap (λ (os : List Object). record { limit = t.limit; objects = os; mappings = t.mappings }) (sym (set_out t.objects i n (rw l h)))

  pub drop_past : length t.objects ≡ 32 → 32 ≤ i → t ≡ drop_space t i
  unfolding applied
  drop_past l h = rw (le-leb 32 i h, set_out t.objects i free_object (rw l h))

  pub drop_here : (os : List Object) (ms : List Mapping) → i < 32 → os ≡ set t.objects i free_object → ms ≡ map (release (within (i + 1) (range 0 U64MAX))) t.mappings
      → ◌≡◌ {A = Table} record { limit = t.limit; objects = os; mappings = ms } (drop_space t i)
  unfolding applied
  drop_here os ms h p q = rw (lt-leb 32 i h, p, q ∙ release-same (within (i + 1) (range 0 U64MAX)) (of_space (i + 1)) t.mappings (within_all (i + 1)))

-- a record that goes, and one that stays
pub gone_yes : (m : Mapping) (gone : Bool) → gone ≡ true → zero_mapping ≡ cond gone zero_mapping m
gone_yes m gone e = rw e

pub gone_no : (m : Mapping) (gone : Bool) → gone ≡ false → m ≡ cond gone zero_mapping m
gone_no m gone e = rw e

pub release-by : (p : Mapping → Bool) (m r : Mapping) (gone : Bool) → gone ≡ p m → r ≡ cond gone zero_mapping m → r ≡ release p m
unfolding release
release-by p m r gone e f = f ∙ rw e

pub put_mapping-past : (t : Table) (i : ℕ) (m : Mapping) → length t.mappings ≡ 128 → 128 ≤ i → t ≡ put_mapping t i m
unfolding applied
put_mapping-past t i m l h = ap (λ (ms : List Mapping). record { limit = t.limit; objects = t.objects; mappings = ms }) (sym (set_out t.mappings i m (rw l h)))

pub clear-by : (t : Table) (s : ℕ) (r : Range) (ms : List Mapping) → ms ≡ map (release (within s r)) t.mappings → ◌≡◌ {A = Table} record { limit = t.limit; objects = t.objects; mappings = ms } (clear_inside t s r)
unfolding applied
clear-by t s r ms e = rw e

-- the change decides
module _ (t : Table) (e : Edit) where
  pub by-nothing : e.change ≡ Nothing → t ≡ applied t e
  unfolding applied
  by-nothing h = rw h

  pub by-put : (i : ℕ) (r : Table) → e.change ≡ Put i → r ≡ put_object t i e.object → r ≡ applied t e
  unfolding applied
  by-put i r h k = k ∙ rw h

  pub by_map : (i : ℕ) (m : Mapping) (r : Table) → e.change ≡ Map i m → r ≡ put_mapping t i m → r ≡ applied t e
  unfolding applied
  by_map i m r h k = k ∙ rw h

  pub by-clear : (s : ℕ) (q : Range) (r : Table) → e.change ≡ Clear s q → r ≡ clear_inside t s q → r ≡ applied t e
  unfolding applied
  by-clear s q r h k = k ∙ rw h

  pub by-drop : (i : ℕ) (r : Table) → e.change ≡ Drop i → r ≡ drop_space t i → r ≡ applied t e
  unfolding applied
  by-drop i r h k = k ∙ rw h

-- an answer by its two parts
pub answer-is : (z y : ℤ) (t u : Table) → z ≡ y → t ≡ u → ◌≡◌ {A = Answer} record { result = z; table = t } record { result = y; table = u }
answer-is z y t u p q = rw (p, q)

pub fresh-refused : (limit : ℕ) (z : ℤ) (t : Table) → 2 ^ 36 < limit → t ≡ fresh_table limit → z ≡ negsuc 21 → ◌≡◌ {A = Answer} record { result = z; table = t } (fresh_answer limit)
unfolding fresh_answer signed_result
fresh-refused limit z t h e f = rw (e, f, lt-ltb (2 ^ 36) limit h)

pub fresh-made : (limit : ℕ) (z : ℤ) (t : Table) → limit ≤ 2 ^ 36 → t ≡ fresh_table limit → z ≡ pos 0 → ◌≡◌ {A = Answer} record { result = z; table = t } (fresh_answer limit)
unfolding fresh_answer signed_result
fresh-made limit z t h e f = rw (e, f, le-ltb (2 ^ 36) limit h)

pub fresh-table : (limit : ℕ) (o : Object) (m : Mapping) → o ≡ free_object → m ≡ zero_mapping
    → ◌≡◌ {A = Table} record { limit = limit; objects = replicate 32 o; mappings = replicate 128 m } (fresh_table limit)
unfolding fresh_table
fresh-table limit o m e f = rw (e, f)

-- an id, or the negative errno
pub id_refused : (n v : ℕ) → (n ≡ 0 → ⊥) → signed_result n ≡ id_or n v
id_refused zero v h = absurd (h refl)
id_refused (suc n) v h = refl

pub id_given : (n v : ℕ) → n ≡ 0 → pos v ≡ id_or n v
id_given zero v h = refl
id_given (suc n) v h = absurd (omega arith)
