-- Lists of records whose mappings of space s weigh the same: a test of some mapping of the space holds in both or in neither, and as many bytes go.
use Rattle.std.specs.Prelude.{ℕ, ◌≡◌, refl, Bool, true, false, not, ◌&&◌, List, ltb, Option, None, Some}
use Rattle.std.proofs.Common.{sym, ap, ◌∙◌, arith}
use Rattle.lists.specs.Tests.{only_if, only_if-and}
use Rattle.lists.specs.Search.{any, any-cong, seek, seek-none, seek-any_false}
use Rattle.lists.specs.Each.{Each-of}
use Rattle.lists.specs.Sums.{sum_of-cong, sum_of-keep, count_of, count_of-any}
use Rattle.ranges.specs.declared.Range.{Range}
use Rattle.ranges.specs.Ranges.{share, inside, span}
use Rattle.rules_table.specs.declared.Mapping.{Mapping}
use Rattle.rules_table.specs.Records.{used, of_space, extent, touches, within, cut_by}
use Rattle.rules_table.specs.Charge.{free_mapping}
use Rattle.rules_calls.specs.Unmap.{removed_bytes}
use Rattle.rules_calls.specs.Landing.{taken}
use Rattle.rules_history.specs.Alike.{Shape, shape, mappings_weigh}
use Rattle.rules_calls.specs.Edits.{is_none}

-- how many mappings of the space pass a test of their shape
count-weigh : (p : Shape → Bool) (s : ℕ) (ms : List Mapping) → count_of (λ m. of_space s m && p (shape m)) ms ≡ mappings_weigh (λ x. only_if (p x) 1) s ms
unfolding count_of mappings_weigh
count-weigh p s ms =
    sum_of-cong (λ m. only_if (of_space s m && p (shape m)) 1) (λ m. only_if (of_space s m) (only_if (p (shape m)) 1)) ms
    (Each-of _ ms (λ m. sym (only_if-and (of_space s m) (p (shape m)) 1)))

-- the bytes that go, as a weight
removed-weigh : (s : ℕ) (r : Range) (ms : List Mapping) → removed_bytes s r ms ≡ mappings_weigh (λ x. only_if (inside (span x.address x.length) r) x.length) s ms
unfolding removed_bytes mappings_weigh within extent
removed-weigh s r ms =
    sum_of-keep (λ (m : Mapping). m.length) (within s r) ms
    ∙ sum_of-cong (λ m. only_if (within s r m) m.length) (λ m. only_if (of_space s m) (only_if (inside (extent m) r) m.length)) ms
    (Each-of _ ms (λ m. sym (only_if-and (of_space s m) (inside (extent m) r) m.length)))

-- the test of a cut mapping, the space first
cut-test : (s : ℕ) (r : Range) (m : Mapping) → cut_by s r m ≡ (of_space s m && (share r (span m.address m.length) && not (inside (span m.address m.length) r)))
unfolding cut_by touches extent
cut-test s r m = regroup (of_space s m) (share r (extent m)) (not (inside (extent m) r))
  where
    regroup : (a b c : Bool) → (a && b && c) ≡ (a && (b && c))
    regroup true b c = refl
    regroup false b c = refl

module _ (s : ℕ) (ms ns : List Mapping) (h : (w : Shape → ℕ) → mappings_weigh w s ms ≡ mappings_weigh w s ns) where
  -- THE LAW: a test of some mapping of the space
  pub any-mapping : (p : Shape → Bool) → any (λ m. of_space s m && p (shape m)) ms ≡ any (λ m. of_space s m && p (shape m)) ns
  any-mapping p =
      sym (count_of-any (λ m. of_space s m && p (shape m)) ms)
      ∙ ap (ltb 0) (count-weigh p s ms ∙ h (λ x. only_if (p x) 1) ∙ sym (count-weigh p s ns))
      ∙ count_of-any (λ m. of_space s m && p (shape m)) ns

  pub touches-alike : (r : Range) → any (touches s r) ms ≡ any (touches s r) ns
  unfolding touches extent
  touches-alike r = any-mapping (λ x. share r (span x.address x.length))

  pub within-alike : (r : Range) → any (within s r) ms ≡ any (within s r) ns
  unfolding within extent
  within-alike r = any-mapping (λ x. inside (span x.address x.length) r)

  pub cut-alike : (r : Range) → any (cut_by s r) ms ≡ any (cut_by s r) ns
  cut-alike r = regrouped ms ∙ any-mapping (λ x. share r (span x.address x.length) && not (inside (span x.address x.length) r)) ∙ sym (regrouped ns)
    where
      regrouped : (ls : List Mapping) → any (cut_by s r) ls ≡ any (λ m. of_space s m && (share r (span m.address m.length) && not (inside (span m.address m.length) r))) ls
      regrouped ls = any-cong (cut_by s r) (λ m. of_space s m && (share r (span m.address m.length) && not (inside (span m.address m.length) r))) ls (cut-test s r)

  pub taken-alike : (n x : ℕ) → taken ms s n x ≡ taken ns s n x
  unfolding taken
  taken-alike n x = touches-alike (span x n)

  pub removed-alike : (r : Range) → removed_bytes s r ms ≡ removed_bytes s r ns
  removed-alike r = removed-weigh s r ms ∙ h (λ x. only_if (inside (span x.address x.length) r) x.length) ∙ sym (removed-weigh s r ns)

-- none is found exactly if none is free
found-free : (ms : List Mapping) → is_none (free_mapping ms) ≡ not (any (λ m. not (used m)) ms)
unfolding free_mapping
found-free ms = go (seek (λ m. not (used m)) 0 ms) (any (λ m. not (used m)) ms) refl refl
  where
    go : (o : Option ℕ) (b : Bool) → seek (λ m. not (used m)) 0 ms ≡ o → any (λ m. not (used m)) ms ≡ b → is_none o ≡ not (any (λ m. not (used m)) ms)
    go None b e f = sym (ap (λ (x : Bool). not x) (seek-none (λ m. not (used m)) 0 ms e))
    go (Some n) true e f = sym (ap (λ (x : Bool). not x) f)
    go (Some n) false e f = let g = seek-any_false (λ m. not (used m)) 0 ms f in let z : ◌≡◌ {A = ℕ} 0 1 = cc in absurd (omega arith)

pub free-alike : (ms ns : List Mapping) → count_of (λ m. not (used m)) ms ≡ count_of (λ m. not (used m)) ns → is_none (free_mapping ms) ≡ is_none (free_mapping ns)
free-alike ms ns h =
    found-free ms
    ∙ ap (λ (x : Bool). not x) (sym (count_of-any (λ m. not (used m)) ms) ∙ ap (ltb 0) h ∙ count_of-any (λ m. not (used m)) ns)
    ∙ sym (found-free ns)
