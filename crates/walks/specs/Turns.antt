-- The turns of a loop over n places: how many are done, and that each leaves fewer.
use mathlib.Core.WellFounded.InvImage
use mathlib.Core.WellFounded.{WellFounded}
use Rattle.std.specs.Prelude.{ℕ, ◌-◌, ◌≤◌, ◌<◌}
use lib.WfN.{lt-wf_rel}

module _ (n : ℕ) where
  abbrev pub Upto : Type 0
  Upto = (i : ℕ) × (i ≤ n)

  abbrev pub Nearer : Upto → Upto → Type 0
  Nearer j i = n - j.0 < n - i.0

  pub Nearer-wf : WellFounded Nearer
  Nearer-wf = InvImage.wf (λ (i : Upto). n - i.0) lt-wf_rel.wf
