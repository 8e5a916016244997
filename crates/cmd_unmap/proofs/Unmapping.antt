-- UNMAP, one law for each return: the numbers or the mappings refused, or the mappings inside go.
use Rattle.std.specs.Prelude.{Result, Err}
use Prim.Native.Nat.{ℕ}
use mathlib.Core.Path.{◌≡◌, refl, sym, ap, ◌∙◌}
use mathlib.Core.Bool.{Bool, true, false}
use mathlib.Core.List.{List, []}
use native.Mathlib.Omega.{arith}
use Rattle.lists.specs.Checks.{when, first, first-append, first-stays, first_goes, Refusals, passed}
use Rattle.checks.specs.declared.Errno.{Errno}
use Rattle.checks.specs.Refused.{number_of, number-some}
use Rattle.ranges.specs.declared.Range.{Range}
use Rattle.rules_table.specs.declared.Object.{Object}
use Rattle.rules_table.specs.declared.Mapping.{Mapping}
use Rattle.rules_table.specs.Records.{free_object, object_at, space_at}
use Rattle.rules_calls.specs.declared.Change.TheVariants.{Clear}
use Rattle.rules_calls.specs.declared.Edit.{Edit}
use Rattle.rules_calls.specs.Edits.{accept}
use Rattle.edits.specs.Settled.{decided, settle-refused, settle-taken}
use Rattle.index_search.specs.declared.Removal.{Removal}
use Rattle.index_search.specs.Removed.{removal_of}
use Rattle.rules_calls.specs.Unmap.{asks_all, range_asked, removal_by, removal_checks, unmap_edit, unmap_number_checks, unmap_checks}
use Rattle.edits.specs.Numbers.{unmap_number_checks_at, unmap_checks_at, unmap_edit_at}

-- where the numbers pass, the id is that of a space
pub is_known : (known : Bool) (a n : ℕ) → ((os : List Object) (s : ℕ) → known ≡ space_at os s → 0 ≡ first (unmap_number_checks_at os s a n) 0) → known ≡ true
unfolding unmap_number_checks space_at object_at
is_known true a n f = refl
is_known false a n f =
    sym (passed (unmap_number_checks_at [] 0 a n) 0 (when false 0) (λ y. omega (arith, y), (λ y. omega (arith, y), (λ y. omega (arith, y), tt))) (sym (f [] 0 refl)) 2 (omega arith))

-- ---- UNMAP

module _ (os : List Object) (ms : List Mapping) (s a len : ℕ) where
  numbers-refuse : Refusals (unmap_number_checks_at os s a len) 0
  unfolding unmap_number_checks
  numbers-refuse = (λ y. omega (arith, y), (λ y. omega (arith, y), (λ y. omega (arith, y), tt)))

  -- an errno that these checks give is the answer
  by-check : (n : Errno) (r : Result Edit Errno) → number_of n ≡ first (unmap_checks_at os ms s a len) 0 → r ≡ Err n → decided r ≡ unmap_edit_at os ms s a len
  unfolding unmap_edit
  by-check n r e k = settle-refused (number_of n) (first (unmap_checks_at os ms s a len) 0) (decided r) _ e (number-some n) (ap decided k)

  -- the numbers refuse
  pub by-numbers : (n : Errno) (r : Result Edit Errno) → number_of n ≡ first (unmap_number_checks_at os s a len) 0 → r ≡ Err n → decided r ≡ unmap_edit_at os ms s a len
  unfolding unmap_checks
  by-numbers n r e k =
      by-check n r
      (first-stays (unmap_number_checks_at os s a len) 0 (number_of n) (first (removal_checks ms s a len) 0) e (number-some n) ∙ sym (first-append (unmap_number_checks_at os s a len) (removal_checks ms s a len) 0)) k

  module _ (ew : 0 ≡ first (unmap_number_checks_at os s a len) 0) (q : Range) (eq : q ≡ range_asked a len) (v : Removal) (ev : v ≡ removal_of s q ms) (all : Bool) (ea : all ≡ asks_all a len) where
    removal-are : (k : ℕ) → k ≡ first (removal_by all v.cut v.some) 0 → k ≡ first (unmap_checks_at os ms s a len) 0
    unfolding unmap_checks removal_checks removal_of
    removal-are k ek =
        ek ∙ rw (ev, eq, ea)
        (first_goes (unmap_number_checks_at os s a len) 0 (first (removal_checks ms s a len) 0) numbers-refuse ew ∙ sym (first-append (unmap_number_checks_at os s a len) (removal_checks ms s a len) 0))

    -- a mapping is cut, or none goes
    pub by-removal : (n : Errno) (r : Result Edit Errno) → number_of n ≡ first (removal_by all v.cut v.some) 0 → r ≡ Err n → decided r ≡ unmap_edit_at os ms s a len
    by-removal n r e k = by-check n r (removal-are (number_of n) e) k

    -- the mappings inside go
    pub by-clearing : (r : Edit) (o : Object) → 0 ≡ first (removal_by all v.cut v.some) 0 → o ≡ free_object → r ≡ accept v.bytes (Clear s q) o → r ≡ unmap_edit_at os ms s a len
    unfolding unmap_edit removal_of
    by-clearing r o e eo er = settle-taken 0 (first (unmap_checks_at os ms s a len) 0) r _ (removal-are 0 e) refl (er ∙ rw (eo, ev, eq))
