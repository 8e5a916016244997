-- Told place by place.
use Prim.Native.Nat.{ℕ, ◌≤◌, ◌<◌}
use lib.ListN.{length, get_or}
use Rattle.std.proofs.Common.{rules}
use Rattle.std.specs.Prelude.{IsTrue, ◌↔◌}
use Rattle.rangelists.proofs.Listing.{valid-told}
use Rattle.rangelists.proofs.Ranges.is_valid.Goals as goal

pub returns : goal.returns
returns c =
    let told : IsTrue c.all.result ↔ ((k : ℕ) → k < length c.args.self.now.starts.now → get_or c.args.self.now.starts.now k 0 ≤ get_or c.args.self.now.lasts.now k 0) = search rules in
    valid-told _ _ c.args.self.now.even _ told
