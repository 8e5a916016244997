-- Mapping records after an object record is replaced: what the new object asks of a mapping is all that has to be looked at.
use Rattle.std.specs.Prelude.{ℕ, ◌+◌, ◌≡◌, Bool, true, false, List, set}
use Rattle.std.proofs.Common.{sym, ◌∙◌}
use Rattle.std.proofs.Math.Nat.{mod-one}
use Rattle.lists.specs.Search.{any, all, all-and, any-nil}
use Rattle.lists.specs.Update.{any-set, all_set}
use Rattle.ranges.specs.declared.Range.{Range}
use Rattle.ranges.specs.Ranges.{share}
use Rattle.alignment.specs.Multiples.{multiple, multiple-of, fits}
use Rattle.alignment.specs.Highest.{highest-multiple}
use Rattle.rules_table.specs.declared.Object.{Object}
use Rattle.rules_table.specs.declared.Mapping.{Mapping}
use Rattle.rules_table.specs.Records.{attached_to, space_at, extent}
use Rattle.rules_table.specs.Spaces.{page_for, alignment, reserved_for}
use Rattle.table.specs.Aligned.{page_for-power, any-reserved_of}
use Rattle.table.specs.Facts.{UsedOk}

-- a range is aligned in its space exactly if it is aligned to the page of each object
pub fits-alignment : (os : List Object) (s a n : ℕ) → fits (alignment os s) a n ≡ all (λ o. fits (page_for s o) a n) os
unfolding fits alignment
fits-alignment os s a n =
    rw (highest-multiple (page_for s) (page_for-power s) os a, highest-multiple (page_for s) (page_for-power s) os (a + n))
    (sym (all-and (λ o. multiple (page_for s o) a) (λ o. multiple (page_for s o) (a + n)) os))

module _ (os : List Object) (i : ℕ) (n : Object) (m : Mapping) where
  pub used-replaced : UsedOk os m → space_at (set os i n) m.space ≡ true → any (share (extent m)) (reserved_for m.space n) ≡ false → fits (page_for m.space n) m.address m.length ≡ true → UsedOk (set os i n) m
  used-replaced k names clear aligned = record {
    names = names;
    some = k.some;
    short = k.short;
    rights = k.rights;
    rights-fit = k.rights-fit;
    ends = k.ends;
    memory-ends = k.memory-ends;
    clear = any-reserved_of (share (extent m)) (set os i n) m.space
        ∙ any-set (λ o. any (share (extent m)) (reserved_for m.space o)) os i n (sym (any-reserved_of (share (extent m)) os m.space) ∙ k.clear) clear;
    aligned = fits-alignment (set os i n) m.space m.address m.length
        ∙ all_set (λ o. fits (page_for m.space o) m.address m.length) os i n (sym (fits-alignment os m.space m.address m.length) ∙ k.aligned) aligned;
    founder-fits = k.founder-fits;
    writes = k.writes;
    from = k.from;
    upto = k.upto;
  }

-- an object that is attached to no space asks nothing of any mapping
abbrev pub Quiet : Object → Type 0
Quiet n = (s : ℕ) → attached_to s n.kind ≡ false

module _ (n : Object) (q : Quiet n) (s : ℕ) where
  pub quiet_reserved : (p : Range → Bool) → any p (reserved_for s n) ≡ false
  unfolding reserved_for
  quiet_reserved p = rw (q s) (any-nil p)

  pub quiet_fits : (a k : ℕ) → fits (page_for s n) a k ≡ true
  unfolding page_for fits
  quiet_fits a k = rw (q s, multiple-of 1 a (mod-one a), multiple-of 1 (a + k) (mod-one (a + k)))
