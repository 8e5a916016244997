-- What is told, or refused, by the result and the words.
use Rattle.std.specs.Prelude.{Ok, Err}
use Prim.Native.Nat.{ℕ}
use mathlib.Core.Path.{◌≡◌, refl, sym, ap, ◌∙◌}
use mathlib.Core.List.{List}
use lib.IntN.{ℤ}
use Rattle.rules_calls.specs.Results.{signed_result}
use Rattle.rules_reasons.specs.declared.Reason.{Reason}
use Rattle.rules_reasons.specs.Explain.{Explained}
use Rattle.rules_reasons.specs.Explain.{reason_words, tool_errno, told_words}

module _ (e : Explained) (r : ℤ) (vs : List ℕ) where
  pub refused-so : (n : ℕ) → e ≡ Err n → r ≡ signed_result n → (r ≡ signed_result (tool_errno e)) × (vs ≡ told_words e vs)
  refused-so n q er = (er ∙ sym (ap (λ (x : Explained). signed_result (tool_errno x)) q), sym (ap (λ (x : Explained). told_words x vs) q))

  pub told-so : (q : Reason) (k : ℕ) (vs' : List ℕ) → e ≡ Ok q → r ≡ signed_result k → k ≡ 0 → vs' ≡ reason_words q → (r ≡ signed_result (tool_errno e)) × (vs' ≡ told_words e vs)
  told-so q k vs' f er z ev = (er ∙ ap signed_result z ∙ sym (ap (λ (x : Explained). signed_result (tool_errno x)) f), ev ∙ sym (ap (λ (x : Explained). told_words x vs) f))
