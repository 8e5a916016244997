-- The objects in the words of a head: 32 of them, each where its slot says.
use Rattle.std.specs.Prelude.{ℕ, zero, suc, ◌+◌, ◌*◌, ◌-◌, ◌≤◌, ◌<◌, ◌≡◌, refl, List, map, length, get_or}
use Rattle.std.proofs.Common.{sym, ap, ◌∙◌, le_of_suc-le-suc, not-suc-le-zero, arith}
use Rattle.std.proofs.lemmas.List.{length-map}
use Rattle.rules_table.specs.declared.Object.{Object}
use Rattle.rules_table.specs.declared.Kind.TheVariants.{Free}
use Rattle.rangelists.specs.Listed.{Reserved}
use Rattle.rules_table.specs.Records.{zero_object, free_object, object_at}
use Rattle.rules_table.specs.Layout.{decoded, kind_of}
use Rattle.rules_table.specs.Words.{low, high, four_at, raw_at, raws_from, head_in, objects_in}
use Rattle.table.specs.Replaced.{object_at-slot, object_at-past}

-- the object in slot i
abbrev pub object_in : List ℕ → ℕ → Object
object_in h i = get_or (objects_in h) i zero_object

raws_long : (h : List ℕ) (i n : ℕ) → length (raws_from h i n) ≡ n
unfolding raws_from
raws_long h i zero = refl
raws_long h i (suc n) = ap suc (raws_long h (suc i) n)

pub objects-long : (h : List ℕ) → length (objects_in h) ≡ 32
unfolding head_in
objects-long h = length-map (raws_from h 0 32) decoded ∙ raws_long h 0 32

raws_at : (h : List ℕ) (n i k : ℕ) → k < n → get_or (map decoded (raws_from h i n)) k zero_object ≡ decoded (raw_at h (27 * (i + k) + 1))
unfolding raws_from
raws_at h zero i k l = absurd (not-suc-le-zero l)
raws_at h (suc n) i zero l = let e : i ≡ i + 0 = omega arith in ap (λ (j : ℕ). decoded (raw_at h (27 * j + 1))) e
raws_at h (suc n) i (suc k) l =
    raws_at h n (suc i) k (le_of_suc-le-suc l)
    ∙ (let e : suc i + k ≡ i + suc k = omega arith in ap (λ (j : ℕ). decoded (raw_at h (27 * j + 1))) e)

-- THE LAW: the object in slot i has the words from 27 * i + 1 on
pub object-words : (h : List ℕ) (i : ℕ) → i < 32 → get_or (objects_in h) i zero_object ≡ decoded (raw_at h (27 * i + 1))
unfolding head_in
object-words h i l = raws_at h 32 0 i l ∙ (let e : 0 + i ≡ i = omega arith in ap (λ (j : ℕ). decoded (raw_at h (27 * j + 1))) e)

-- its parts alone
abbrev pub reserved_in : List ℕ → ℕ → Reserved
reserved_in h b = record { count = low (get_or h (b + 2) 0); starts = four_at h (b + 3); lasts = four_at h (b + 7) }

pub kind-words : (h : List ℕ) (i kind home : ℕ) → i < 32 → kind ≡ low (get_or h (27 * i + 1 + 0) 0) → home ≡ high (get_or h (27 * i + 1 + 0) 0)
    → kind_of kind home ≡ (get_or (objects_in h) i zero_object).kind
unfolding decoded
kind-words h i kind home l e f =
    let z : 27 * i + 1 + 0 ≡ 27 * i + 1 = omega arith in
    rw (e, f, z) (sym (ap (λ (o : Object). o.kind) (object-words h i l)))

pub kind-blank : (h : List ℕ) (i : ℕ) → i < 32 → get_or h (27 * i + 1 + 0) 0 ≡ 0 → Free ≡ (get_or (objects_in h) i zero_object).kind
kind-blank h i l e = kind-words h i 0 0 l (sym (ap low e)) (sym (ap high e))

pub reserved-words : (h : List ℕ) (i : ℕ) → i < 32 → (get_or (objects_in h) i zero_object).reserved ≡ reserved_in h (27 * i + 1)
unfolding decoded
reserved-words h i l = ap (λ (o : Object). o.reserved) (object-words h i l)

-- ---- the object with an id

pub object-none : (h : List ℕ) (id : ℕ) → id ≡ 0 → free_object ≡ object_at (objects_in h) id
unfolding object_at
object-none h id e = ap (object_at (objects_in h)) (sym e)

pub object-past : (h : List ℕ) (id : ℕ) → 32 < id → free_object ≡ object_at (objects_in h) id
object-past h id l = sym (object_at-past (objects_in h) id (omega (arith, objects-long h, l)))

pub object-here : (h : List ℕ) (id : ℕ) → (id ≡ 0 → ⊥) → id ≤ 32 → get_or (objects_in h) (id - 1) zero_object ≡ object_at (objects_in h) id
object-here h id n l =
    let e : suc (id - 1) ≡ id = omega (arith, n) in
    sym (object_at-slot (objects_in h) (id - 1) zero_object (omega (arith, objects-long h, n, l))) ∙ ap (object_at (objects_in h)) e
