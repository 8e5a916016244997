-- Told byte by byte.
use Prim.Native.Nat.{ℕ, ◌<◌}
use mathlib.Core.Path.{◌≡◌}
use lib.ListN.{length, get_or}
use Rattle.std.proofs.Common.{rules}
use Rattle.std.specs.Prelude.{IsTrue, ◌↔◌}
use Rattle.wire.proofs.Widths.{zeros-told}
use Rattle.wire.proofs.all_zero.Goals as goal

pub returns : goal.returns
returns c =
    let told : IsTrue c.all.result ↔ ((k : ℕ) → k < length c.args.b.now → get_or c.args.b.now k 0 ≡ 0) = search rules in
    zeros-told _ _ told
