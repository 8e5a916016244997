-- What is known of one mapping record of a good table: a used one keeps every rule, a released one is all zero.
use Rattle.std.specs.Prelude.{ℕ, ◌≤◌, ◌<◌, ◌^◌, ◌≡◌, refl, Bool, false, ◌&&◌, ◌||◌, List, leb}
use Rattle.std.proofs.Math.Path.{sym}
use Rattle.std.proofs.Common.{ap, ◌∙◌}
use Rattle.std.proofs.Math.Bool.{true, not}
use Rattle.std.proofs.Math.Dec.{eqb}
use borrow.Author.Tests.{leb-true, le-leb, ltb-true, lt-ltb, eqb-true, eq-eqb, not-true, not-false}
use Rattle.lists.specs.Tests.{by-test, and_left, and_right, or_left, or_right, or_other}
use Rattle.lists.specs.Search.{any}
use Rattle.ranges.specs.Ranges.{share, passes}
use Rattle.alignment.specs.Multiples.{fits}
use Rattle.rules_table.specs.declared.Object.{Object}
use Rattle.rules_table.specs.declared.Mapping.{Mapping}
use Rattle.rules_table.specs.Records.{space_at, zero_mapping, used, extent, can_write}
use Rattle.rules_table.specs.Spaces.{alignment, reserved_of}
use Rattle.rules_table.specs.Good.{when_used, mapping_names, length_fits, rights_fit, ends_fit, clear_of, aligned_to, mapping_fits, writes_by_right, mapping_zero, backing_number}
use Rattle.table.specs.Checked.{record_ok}

pub record UsedOk (os : List Object) (m : Mapping) : Type 0 where
  pub names : space_at os m.space ≡ true
  pub some : 0 < m.length
  pub short : m.length ≤ 2 ^ 40
  pub rights : 0 < m.rights
  pub rights-fit : m.rights ≤ 3
  pub ends : passes m.address m.length ≡ false
  pub memory-ends : passes m.memory m.length ≡ false
  pub clear : any (share (extent m)) (reserved_of os m.space) ≡ false
  pub aligned : fits (alignment os m.space) m.address m.length ≡ true
  pub founder-fits : m.founder ≤ 1
  pub writes : can_write m ≡ true → m.founder ≡ 1
  pub from : 1 ≤ m.backing
  pub upto : m.backing ≤ 128

-- the rules of a used record, as one conjunction
abbrev used_rules : List Object → Mapping → Bool
used_rules os m =
    space_at os m.space
    && ((length_fits m && (rights_fit m && (ends_fit m && (clear_of (reserved_of os m.space) m && aligned_to (alignment os m.space) m))))
    && ((leb m.founder 1 && (not (can_write m) || eqb m.founder 1)) && (leb 1 m.backing && leb m.backing 128)))

record_rules : (os : List Object) (m : Mapping) → used m ≡ true → record_ok os m ≡ used_rules os m
unfolding record_ok mapping_names mapping_fits writes_by_right mapping_zero backing_number when_used
record_rules os m u = rw u refl

-- a record by its seven numbers
abbrev numbers : ℕ → ℕ → ℕ → ℕ → ℕ → ℕ → ℕ → Mapping
numbers s r f b a l o = record { space = s; rights = r; founder = f; backing = b; address = a; length = l; memory = o }

all-zero : (m : Mapping) → m.space ≡ 0 → m.rights ≡ 0 → m.founder ≡ 0 → m.backing ≡ 0 → m.address ≡ 0 → m.length ≡ 0 → m.memory ≡ 0 → m ≡ zero_mapping
all-zero m p q r s t u v =
    let e : numbers m.space m.rights m.founder m.backing m.address m.length m.memory ≡ zero_mapping = rw (p, q, r, s, t, u, v) in e

module _ (os : List Object) (m : Mapping) where
  pub record_used : used m ≡ true → record_ok os m ≡ true → UsedOk os m
  unfolding length_fits rights_fit ends_fit clear_of aligned_to
  record_used u e =
      let r : used_rules os m ≡ true = sym (record_rules os m u) ∙ e in
      record {
        names = search (and_left, and_right) depth 8;
        some = ltb-true 0 m.length (search (and_left, and_right) depth 8);
        short = leb-true m.length (2 ^ 40) (search (and_left, and_right) depth 8);
        rights = ltb-true 0 m.rights (search (and_left, and_right) depth 8);
        rights-fit = leb-true m.rights 3 (search (and_left, and_right) depth 8);
        ends = not-true (passes m.address m.length) (search (and_left, and_right) depth 8);
        memory-ends = not-true (passes m.memory m.length) (search (and_left, and_right) depth 8);
        clear = not-true (any (share (extent m)) (reserved_of os m.space)) (search (and_left, and_right) depth 8);
        aligned = search (and_left, and_right) depth 8;
        founder-fits = leb-true m.founder 1 (search (and_left, and_right) depth 8);
        writes = λ w. eqb-true m.founder 1 (or_other (not (can_write m)) (eqb m.founder 1) (search (and_left, and_right) depth 8) (ap (λ (b : Bool). not b) w));
        from = leb-true 1 m.backing (search (and_left, and_right) depth 8);
        upto = leb-true m.backing 128 (search (and_left, and_right) depth 8);
      }

  pub used-record : used m ≡ true → UsedOk os m → record_ok os m ≡ true
  unfolding length_fits rights_fit ends_fit clear_of aligned_to
  used-record u k =
      record_rules os m u
      ∙ rw (
        k.names,
        lt-ltb 0 m.length k.some,
        le-leb m.length (2 ^ 40) k.short,
        lt-ltb 0 m.rights k.rights,
        le-leb m.rights 3 k.rights-fit,
        k.ends,
        k.memory-ends,
        k.clear,
        k.aligned,
        le-leb m.founder 1 k.founder-fits,
        writes-test,
        le-leb 1 m.backing k.from,
        le-leb m.backing 128 k.upto,
      )
    where
      writes-test : (not (can_write m) || eqb m.founder 1) ≡ true
      writes-test = by-test (can_write m) (λ w. or_right (not (can_write m)) (eqb m.founder 1) (eq-eqb m.founder 1 (k.writes w))) (λ w. or_left (not (can_write m)) (eqb m.founder 1) (ap (λ (b : Bool). not b) w))

  -- a released record is all zero
  pub record_free : used m ≡ false → record_ok os m ≡ true → m ≡ zero_mapping
  unfolding record_ok mapping_zero used
  record_free u e =
      let z : (eqb m.rights 0 && (eqb m.founder 0 && (eqb m.backing 0 && (eqb m.address 0 && (eqb m.length 0 && eqb m.memory 0))))) ≡ true
      = or_other (used m) (eqb m.rights 0 && (eqb m.founder 0 && (eqb m.backing 0 && (eqb m.address 0 && (eqb m.length 0 && eqb m.memory 0)))))
      (search (and_left, and_right) depth 8) u in
      all-zero m
      (eqb-true m.space 0 (not-false (eqb m.space 0) u))
      (eqb-true m.rights 0 (search (and_left, and_right) depth 8))
      (eqb-true m.founder 0 (search (and_left, and_right) depth 8))
      (eqb-true m.backing 0 (search (and_left, and_right) depth 8))
      (eqb-true m.address 0 (search (and_left, and_right) depth 8))
      (eqb-true m.length 0 (search (and_left, and_right) depth 8))
      (eqb-true m.memory 0 (search (and_left, and_right) depth 8))

pub zero_record : (os : List Object) → record_ok os zero_mapping ≡ true
unfolding record_ok mapping_names mapping_fits writes_by_right mapping_zero backing_number when_used used
zero_record os = refl
