-- Words that are written into a head: one record, all records, none.
use Prim.Native.Nat.{ℕ, zero, suc, ◌+◌, ◌*◌, ◌/◌, ◌%◌, ◌≤◌, ◌<◌, ◌^◌}
use Rattle.std.specs.Prelude.{◌≡◌, ◌⊎◌, length, set, take, replicate}
use Rattle.std.proofs.Math.Path.{refl, ap}
use Rattle.std.proofs.Common.{sym, ◌∙◌, inl, inr, eq-or-lt_of_le, arith, take_all, take-suc-set}
use mathlib.Core.List.{List, [], ◌∷◌, ◌++◌, map}
use Rattle.std.proofs.Math.Numerals.{add-one}
use Rattle.std.proofs.Math.ListN.{get_or, length-set}
use Rattle.std.proofs.lemmas.List.{get_or-replicate}
use Rattle.std.proofs.Math.Seq.{get_or-set_same, get_or-set_other}
use Rattle.lists.specs.Ends.{take_turn}
use Rattle.rules_table.specs.declared.Object.{Object}
use Rattle.rules_table.specs.declared.RawObject.{RawObject}
use Rattle.rules_table.specs.declared.Head.{Head}
use Rattle.rules_table.specs.Records.{zero_object, free_object}
use Rattle.rules_table.specs.Layout.{decoded, encoded, fresh_head}
use Rattle.rules_table.specs.Words.{four_at, eight_at, raw_at, raws_from, head_in, objects_in}
use Rattle.layout.specs.Laws.{decode_encode, decoded-set}
use Rattle.layout_objects.specs.Slots.{objects-long, object-words}

-- the head with another record at place i; a place from 32 on has none
unfoldable pub with_record : Head → ℕ → RawObject → Head
with_record h i r = record { limit = h.limit; objects = set h.objects i r }

-- the first n of the words w written from place b on
unfoldable pub put_up_to : List ℕ → ℕ → List ℕ → ℕ → List ℕ
put_up_to h b w zero = h
put_up_to h b w (suc n) = set (put_up_to h b w n) (b + n) (get_or w n 0)

-- ---- equal words are equal records

module _ (g h : List ℕ) where
  -- the n words from b on in g are those from c on in h
  abbrev Same : ℕ → ℕ → ℕ → Type 0
  Same n b c = (j : ℕ) → j < n → get_or g (b + j) 0 ≡ get_or h (c + j) 0

  same_first : (n b c : ℕ) → Same n b c → 0 < n → get_or g b 0 ≡ get_or h c 0
  same_first n b c f l =
      let p : b ≡ b + 0 = omega arith in
      let q : c + 0 ≡ c = omega arith in
      ap (λ (k : ℕ). get_or g k 0) p ∙ f 0 l ∙ ap (λ (k : ℕ). get_or h k 0) q

  same_from : (n b c d m : ℕ) → Same n b c → d + m ≤ n → Same m (b + d) (c + d)
  same_from n b c d m f l j k =
      let p : b + d + j ≡ b + (d + j) = omega arith in
      let q : c + (d + j) ≡ c + d + j = omega arith in
      ap (λ (x : ℕ). get_or g x 0) p ∙ f (d + j) (omega (arith, l, k)) ∙ ap (λ (x : ℕ). get_or h x 0) q

  four_same : (b c : ℕ) → Same 4 b c → four_at g b ≡ four_at h c
  four_same b c f = rw (same_first 4 b c f (omega arith), f 1 (omega arith), f 2 (omega arith), f 3 (omega arith)) refl

  eight-same : (b c : ℕ) → Same 8 b c → eight_at g b ≡ eight_at h c
  eight-same b c f =
      rw (
        same_first 8 b c f (omega arith),
        f 1 (omega arith),
        f 2 (omega arith),
        f 3 (omega arith),
        f 4 (omega arith),
        f 5 (omega arith),
        f 6
            (omega arith),
        f 7 (omega arith),
      ) refl

  -- THE LAW: 27 equal words are one record
  pub raw_same : (b c : ℕ) → Same 27 b c → raw_at g b ≡ raw_at h c
  raw_same b c f =
      rw (
        same_first 27 b c f (omega arith),
        f 1 (omega arith),
        f 2 (omega arith),
        four_same (b + 3) (c + 3) (same_from 27 b c 3 4 f (omega arith)),
        four_same (b + 7) (c + 7) (same_from 27 b c 7 4 f (omega arith)),
        eight-same (b + 11) (c + 11) (same_from 27 b c 11 8 f (omega arith)),
        eight-same (b + 19) (c + 19) (same_from 27 b c 19 8 f (omega arith)),
      )
      refl

-- ---- a released record

zero_raw-is : raw_at (replicate 27 0) 0 ≡ encoded free_object
unfolding encoded
zero_raw-is = refl

raw_zero : (h : List ℕ) (b : ℕ) → ((j : ℕ) → j < 27 → get_or h (b + j) 0 ≡ 0) → raw_at h b ≡ encoded free_object
raw_zero h b f = raw_same h (replicate 27 0) b 0 (λ j l. f j l ∙ sym (get_or-replicate {A = ℕ} 27 (0 + j) 0 0 (omega (arith, l)))) ∙ zero_raw-is

-- THE LAW: a slot of zeros is a released object
pub zero_free : (h : List ℕ) (i : ℕ) → i < 32 → ((j : ℕ) → j < 27 → get_or h (27 * i + 1 + j) 0 ≡ 0) → get_or (objects_in h) i zero_object ≡ free_object
zero_free h i l f = object-words h i l ∙ ap decoded (raw_zero h (27 * i + 1) f) ∙ decode_encode free_object

-- ---- one record is written

module _ (h : List ℕ) (b : ℕ) (w : List ℕ) where
  pub put-none : put_up_to h b w 0 ≡ h
  unfolding put_up_to
  put-none = refl

  pub put_next : (n : ℕ) → set (put_up_to h b w n) (b + n) (get_or w n 0) ≡ put_up_to h b w (n + 1)
  unfolding put_up_to
  put_next n = rw add-one

  pub put-length : (n : ℕ) → length (put_up_to h b w n) ≡ length h
  unfolding put_up_to
  put-length zero = refl
  put-length (suc n) = length-set (put_up_to h b w n) (b + n) (get_or w n 0) ∙ put-length n

  -- what was written is read
  put_in : (n j : ℕ) → j < n → b + n ≤ length h → get_or (put_up_to h b w n) (b + j) 0 ≡ get_or w j 0
  unfolding put_up_to
  put_in zero j l f = absurd (omega (arith, l))
  put_in (suc n) j l f = at_last (eq-or-lt_of_le (omega (arith, l))) (λ k. put_in n j k (omega (arith, f)))
    where
      at_last : (j ≡ n) ⊎ (j < n) → (j < n → get_or (put_up_to h b w n) (b + j) 0 ≡ get_or w j 0)
          → get_or (set (put_up_to h b w n) (b + n) (get_or w n 0)) (b + j) 0 ≡ get_or w j 0
      at_last (inl e) k = rw e (get_or-set_same (put_up_to h b w n) (b + n) (get_or w n 0) 0 (omega (arith, put-length n, f)))
      at_last (inr l') k = get_or-set_other (put_up_to h b w n) (b + n) (b + j) (get_or w n 0) 0 (λ e. omega (arith, e, l')) ∙ k l'

  -- and every other word stays
  put-out : (n p : ℕ) → (p < b) ⊎ (b + n ≤ p) → get_or (put_up_to h b w n) p 0 ≡ get_or h p 0
  unfolding put_up_to
  put-out zero p o = refl
  put-out (suc n) p (inl l) = get_or-set_other (put_up_to h b w n) (b + n) p (get_or w n 0) 0 (λ e. omega (arith, e, l)) ∙ put-out n p (inl l)
  put-out (suc n) p (inr l) = get_or-set_other (put_up_to h b w n) (b + n) p (get_or w n 0) 0 (λ e. omega (arith, e, l)) ∙ put-out n p (inr (omega (arith, l)))

module _ (h : List ℕ) (i : ℕ) (w : List ℕ) where
  abbrev H : List ℕ
  H = put_up_to h (27 * i + 1) w 27

  there : 27 * i + 28 ≤ length h → raw_at H (27 * i + 1) ≡ raw_at w 0
  there l =
      raw_same H w (27 * i + 1) 0 (λ j k. let e : j ≡ 0 + j = omega arith in put_in h (27 * i + 1) w 27 j k (omega (arith, l))
      ∙ ap (λ (x : ℕ). get_or w x 0) e)

  lower : (k : ℕ) → k < i → raw_at H (27 * k + 1) ≡ raw_at h (27 * k + 1)
  lower k l = raw_same H h (27 * k + 1) (27 * k + 1) (λ j m. put-out h (27 * i + 1) w 27 (27 * k + 1 + j) (inl (omega (arith, l, m))))

  higher : (k : ℕ) → i < k → raw_at H (27 * k + 1) ≡ raw_at h (27 * k + 1)
  higher k l = raw_same H h (27 * k + 1) (27 * k + 1) (λ j m. put-out h (27 * i + 1) w 27 (27 * k + 1 + j) (inr (omega (arith, l, m))))

  past : (n k : ℕ) → i < k → raws_from H k n ≡ raws_from h k n
  unfolding raws_from
  past zero k l = refl
  past (suc n) k l =
      ap (λ (r : RawObject). r ∷ raws_from H (suc k) n) (higher k l) ∙ ap (λ (rs : List RawObject). raw_at h (27 * k + 1) ∷ rs)
      (past n (suc k) (omega (arith, l)))

  within : (r : RawObject) → raw_at H (27 * i + 1) ≡ r → (n k d : ℕ) → d + k ≡ i → raws_from H k n ≡ set (raws_from h k n) d r
  unfolding raws_from
  within r e zero k d p = refl
  within r e (suc n) k zero p =
      let q : k ≡ i = omega (arith, p) in
      ap (λ (s : RawObject). s ∷ raws_from H (suc k) n) (ap (λ (j : ℕ). raw_at H (27 * j + 1)) q ∙ e) ∙ ap (λ (rs : List RawObject). r ∷ rs)
      (past n (suc k) (omega (arith, q)))
  within r e (suc n) k (suc d) p =
      ap (λ (s : RawObject). s ∷ raws_from H (suc k) n) (lower k (omega (arith, p)))
      ∙ ap (λ (rs : List RawObject). raw_at h (27 * k + 1) ∷ rs) (within r e n (suc k) d (omega (arith, p)))

-- THE LAW: writing a record's words is writing the record
pub head-put : (h : List ℕ) (i : ℕ) (w : List ℕ) (r : RawObject) → raw_at w 0 ≡ r → 27 * i + 28 ≤ length h
    → head_in (put_up_to h (27 * i + 1) w 27) ≡ with_record (head_in h) i r
unfolding head_in with_record
head-put h i w r e l =
    let a : get_or (put_up_to h (27 * i + 1) w 27) 0 0 ≡ get_or h 0 0 = put-out h (27 * i + 1) w 27 0 (inl (omega arith)) in
    let b : raws_from (put_up_to h (27 * i + 1) w 27) 0 32 ≡ set (raws_from h 0 32) i r = within h i w r (there h i w l ∙ e) 32 0 i (omega arith) in
    rw (a, b)

-- the objects after it, and the limit
pub objects-put : (g h : List ℕ) (i : ℕ) (o : Object) → head_in g ≡ with_record (head_in h) i (encoded o) → objects_in g ≡ set (objects_in h) i o
unfolding with_record
objects-put g h i o e = ap (λ (x : Head). map decoded x.objects) e ∙ decoded-set (head_in h).objects i o

pub limit-put : (g h : List ℕ) (i : ℕ) (o : Object) → head_in g ≡ with_record (head_in h) i (encoded o) → (head_in g).limit ≡ (head_in h).limit
unfolding with_record
limit-put g h i o e = ap (λ (x : Head). x.limit) e

-- ---- the words of a record

low-back : (a b : ℕ) → a < 2 ^ 32 → (a + 4294967296 * b) % 4294967296 ≡ a
low-back a b h = omega (arith, h)

high-back : (a b : ℕ) → a < 2 ^ 32 → b < 2 ^ 32 → (a + 4294967296 * b) / 4294967296 % 4294967296 ≡ b
high-back a b h k = omega (arith, h, k)

rest_of : (a b c d : ℕ) (s : List ℕ) (n : ℕ) → length (a ∷ b ∷ c ∷ d ∷ s) ≡ 4 + n → length s ≡ n
rest_of a b c d s n e = omega (arith, e)

four-back : (s : List ℕ) → length s ≡ 4 → four_at s 0 ≡ s
four-back (a ∷ b ∷ c ∷ d ∷ []) e = refl
four-back [] e = absurd (omega (arith, e))
four-back (a ∷ []) e = absurd (omega (arith, e))
four-back (a ∷ b ∷ []) e = absurd (omega (arith, e))
four-back (a ∷ b ∷ c ∷ []) e = absurd (omega (arith, e))
four-back (a ∷ b ∷ c ∷ d ∷ f ∷ s) e = absurd (omega (arith, e))

eight-back : (s : List ℕ) → length s ≡ 8 → eight_at s 0 ≡ s
eight-back (a ∷ b ∷ c ∷ d ∷ s) e = ap (λ (t : List ℕ). a ∷ b ∷ c ∷ d ∷ t) (four-back s (rest_of a b c d s 4 e))
eight-back [] e = absurd (omega (arith, e))
eight-back (a ∷ []) e = absurd (omega (arith, e))
eight-back (a ∷ b ∷ []) e = absurd (omega (arith, e))
eight-back (a ∷ b ∷ c ∷ []) e = absurd (omega (arith, e))

-- the numbers of 32 bits fit, and the arrays are as long as they are declared
pub record Fits (r : RawObject) : Type 0 where
  pub kind : r.kind < 2 ^ 32
  pub home : r.home < 2 ^ 32
  pub reserves : r.reserves < 2 ^ 32
  pub allows : r.allows < 2 ^ 32
  pub starts : length r.starts ≡ 4
  pub lasts : length r.lasts ≡ 4
  pub froms : length r.froms ≡ 8
  pub ends : length r.ends ≡ 8

abbrev pub raw_words : RawObject → List ℕ
raw_words r =
    (r.kind + 4294967296 * r.home) ∷ r.bitmap ∷ (r.reserves + 4294967296 * r.allows)
    ∷ get_or r.starts 0 0 ∷ get_or r.starts 1 0 ∷ get_or r.starts 2 0 ∷ get_or r.starts 3 0
    ∷ get_or r.lasts 0 0 ∷ get_or r.lasts 1 0 ∷ get_or r.lasts 2 0 ∷ get_or r.lasts 3 0
    ∷ get_or r.froms 0 0 ∷ get_or r.froms 1 0 ∷ get_or r.froms 2 0 ∷ get_or r.froms 3 0
    ∷ get_or r.froms 4 0 ∷ get_or r.froms 5 0 ∷ get_or r.froms 6 0 ∷ get_or r.froms 7 0
    ∷ get_or r.ends 0 0 ∷ get_or r.ends 1 0 ∷ get_or r.ends 2 0 ∷ get_or r.ends 3 0
    ∷ get_or r.ends 4 0 ∷ get_or r.ends 5 0 ∷ get_or r.ends 6 0 ∷ get_or r.ends 7 0 ∷ []

-- THE LAW: a record comes back from its words
pub raw_back : (r : RawObject) → Fits r → raw_at (raw_words r) 0 ≡ r
raw_back r f =
    rw (
      low-back r.kind r.home f.kind,
      high-back r.kind r.home f.kind f.home,
      low-back r.reserves r.allows f.reserves,
      high-back r.reserves r.allows f.reserves f.allows,
      four-back r.starts f.starts,
      four-back r.lasts f.lasts,
      eight-back r.froms f.froms,
      eight-back r.ends f.ends,
    )

-- ---- every record is released

zeros-from : (h : List ℕ) → ((j : ℕ) → j < 864 → get_or h (1 + j) 0 ≡ 0) → (n i : ℕ) → i + n ≤ 32 → raws_from h i n ≡ replicate n (encoded free_object)
unfolding raws_from
zeros-from h f zero i l = refl
zeros-from h f (suc n) i l =
    let e : raw_at h (27 * i + 1) ≡ encoded free_object
    = raw_zero h (27 * i + 1) (λ j k. let p : 27 * i + 1 + j ≡ 1 + (27 * i + j) = omega arith in ap (λ (x : ℕ). get_or h x 0) p ∙ f (27 * i + j)
    (omega (arith, l, k))) in
    ap (λ (r : RawObject). r ∷ raws_from h (suc i) n) e ∙ ap (λ (rs : List RawObject). encoded free_object ∷ rs) (zeros-from h f n (suc i) (omega (arith, l)))

-- THE LAW: a limit and zeros are a fresh head
pub fresh-words : (h : List ℕ) (limit : ℕ) → length h ≡ 865 → ((j : ℕ) → j < 865 → get_or h j 0 ≡ 0) → head_in (set h 0 limit) ≡ fresh_head limit
unfolding head_in fresh_head
fresh-words h limit m f =
    let a : get_or (set h 0 limit) 0 0 ≡ limit = get_or-set_same h 0 limit 0 (omega (arith, m)) in
    let b : raws_from (set h 0 limit) 0 32 ≡ replicate 32 (encoded free_object)
    = zeros-from (set h 0 limit) (λ j l. get_or-set_other h 0 (1 + j) limit 0 (λ e. omega (arith, e)) ∙ f (1 + j) (omega (arith, l))) 32 0 (omega arith) in
    rw (a, b)

-- ---- a loop that fills a head

-- the first i objects are those of os
pub record Laid (limit : ℕ) (os : List Object) (i : ℕ) (h : List ℕ) : Type 0 where
  pub many : length os ≡ 32
  pub upto : i ≤ 32
  pub first : (head_in h).limit ≡ limit
  pub same : take i (objects_in h) ≡ take i os

module _ (limit : ℕ) (os : List Object) where
  pub laid_start : (h : List ℕ) → length os ≡ 32 → length h ≡ 865 → Laid limit os 0 (set h 0 limit)
  unfolding head_in
  laid_start h m l = record { many = m; upto = omega arith; first = get_or-set_same h 0 limit 0 (omega (arith, l)); same = refl }

  pub laid_on : (i : ℕ) (h g : List ℕ) (o : Object) → Laid limit os i h → i < 32 → o ≡ get_or os i zero_object
      → head_in g ≡ with_record (head_in h) i (encoded o) → Laid limit os (i + 1) g
  laid_on i h g o v l eo e = record {
    many = v.many;
    upto = omega arith;
    first = limit-put g h i o e ∙ v.first;
    same =
        ap (take (i + 1)) (objects-put g h i o e ∙ ap (set (objects_in h) i) eo)
        ∙ rw add-one (take-suc-set (objects_in h) i (get_or os i zero_object) (omega (arith, objects-long h)))
        ∙ ap (λ (l : List Object). l ++ get_or os i zero_object ∷ []) v.same
        ∙ sym (take_turn os zero_object i (omega (arith, v.many)));
  }

  pub laid_end : (i : ℕ) (h : List ℕ) → Laid limit os i h → 32 ≤ i → objects_in h ≡ os
  laid_end i h v l = sym (take_all i (objects_in h) (omega (arith, objects-long h))) ∙ v.same ∙ take_all i os (omega (arith, v.many))
