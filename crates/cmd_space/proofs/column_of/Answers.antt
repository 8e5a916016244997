-- Each call gives the next number.
use Rattle.std.proofs.Common.{arith, refl}
use Rattle.std.specs.Prelude.{◌≡◌}
use Rattle.std.proofs.lemmas.Grind.{common_steps}
use Rattle.cmd_space.proofs.Listing.{column-filled}
use Rattle.cmd_space.proofs.column_of.Goals as goal

pub returns : goal.returns
returns g c = let a = c.args in column-filled (λ f. (f.0.now ≡ a.area.now) × (f.1.now ≡ a.off) × (f.2.now ≡ a.count)) a.off a.count a.area.now (λ f q i y p h. (grind (arith, common_steps, h, p), grind (arith, common_steps, h, p))) _ _ _ (refl, refl, refl) c.from_fn.ensures.items
