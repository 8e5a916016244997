-- The search for the next free range, from address to address: past what holds one, up to the first that is clear.
use Rattle.std.specs.Prelude.{Option, None, Some}
use Prim.Native.Nat.{ℕ, ◌+◌, ◌≤◌, ◌<◌}
use mathlib.Core.Path.{◌≡◌, sym, ◌∙◌}
use mathlib.Core.List.{List}
use native.Mathlib.Omega.{arith}
use Rattle.ranges.specs.declared.Range.{Range}
use Rattle.ranges.specs.Ranges.{U64MAX, range}
use Rattle.freeranges.specs.Free.{U64END, free_from}
use Rattle.freeranges.proofs.From.{skipped, none-past, first_run}
use Rattle.freeranges.specs.Scan.{cover_of, cover_clear, cover_from, cover_held, run_end, run_end-most}
use Rattle.freeranges.specs.Scan.{run_end-from, run_end-free, run_end-stop, gap_of, gap_none, gap_first}

-- the search has come from x₀ to x, and passed nothing free
pub record Reached (rs : List Range) (x₀ x : ℕ) : Type 0 where
  pub fits : x ≤ U64MAX
  pub same : free_from x₀ rs ≡ free_from x rs

module _ (rs : List Range) (x₀ x : ℕ) (reached : Reached rs x₀ x) (c : Option ℕ) (v : c ≡ cover_of rs x) where
  pub gap_found : c ≡ None → (e : ℕ) → e ≡ run_end rs x → Some (range x e) ≡ gap_of (free_from x₀ rs)
  gap_found w e q =
      let first = first_run rs x (run_end rs x) (run_end-from x rs reached.fits) (omega (arith, run_end-most x rs))
      (run_end-free x rs (cover_clear rs x (sym w ∙ v))) (run_end-stop x rs) in
      rw (q, reached.same, first) (gap_first (range x (run_end rs x)) (free_from (run_end rs x + 1) rs))

  module _ (l : ℕ) (w : c ≡ Some l) where
    pub gap_on : l < U64MAX → Reached rs x₀ (l + 1)
    gap_on h = record {
      fits = omega arith;
      same = reached.same ∙ skipped rs x (l + 1) (omega (arith, cover_from rs x l (sym w ∙ v))) (λ a p q f. cover_held rs x l (sym w ∙ v) a p (omega arith));
    }

    pub gap_end : l ≡ U64MAX → None ≡ gap_of (free_from x₀ rs)
    gap_end h =
        rw (reached.same, skipped rs x U64END (omega (arith, reached.fits)) (λ a p q f. cover_held rs x l (sym w ∙ v) a p (omega arith)), none-past rs)
        gap_none

    pub gap_further : x < l + 1
    gap_further = omega (arith, cover_from rs x l (sym w ∙ v))
