use mathlib.Core.Bool.{true}
use mathlib.Core.Path.{◌≡◌}
use Rattle.rules_table.specs.Charge.{backing_pages}
use Rattle.plan_commands.proofs.Counting.{pages_left}
use Rattle.plan_commands.proofs.charging.pages_of.Given as goal

abbrev pub invariant-loop-m : goal.invariant-loop-m
invariant-loop-m l = pages_left l.backing l.m-index l.ms ≡ backing_pages (λ m. true) l.ms l.backing
