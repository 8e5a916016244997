-- Each call of the closure reads the word of its place.
use Rattle.std.proofs.Common.{◌≡◌, ◌+◌, ◌-◌, ◌∙◌, ℕ, List, Bor, rules, arith}
use Rattle.std.proofs.Math.Path.{refl}
use Rattle.layout_objects.proofs.Parts.{filled}
use Rattle.layout_objects.proofs.Slot.words_at.Goals as goal

pub returns : goal.returns
returns g c =
    let w = c.words-words in
    let n : c.args.from + g.row.N - c.args.from ≡ g.row.N = omega arith in
    filled _ (λ (p : record { 0 : Bor (List ℕ) }). p.0.now ≡ w.result.now) w.result.now (λ p q k y s d. search rules) _ _ _ refl c.from_fn.ensures.items (w.ensures.1 ∙ n)
    ∙ rw n at w.ensures.0
