-- The same command by command: where the result is below zero, table and bytes are as they were. No command but IOVA_RANGES writes at any refusal.
use Rattle.std.specs.Prelude.{ℕ, ◌≡◌, false, eqb, pos, negsuc}
use Rattle.std.proofs.Common.{ap, ◌∙◌, eqb-true}
use mathlib.Core.List.{List, []}
use Rattle.lists.specs.Tests.{by-test}
use Rattle.rules_calls.specs.Results.{signed_result}
use Rattle.opening.specs.Signed.{result-zero, result-suc}
use Rattle.rules_table.specs.declared.Table.{Table}
use Rattle.rules_calls.specs.declared.Command.TheVariants.{Destroy, IoasAlloc, AllowIovas, Copy, Map, Unmap}
use Rattle.rules_calls.specs.Requests.{number}
use Rattle.rules_calls.specs.Answers.{outcome}
use Rattle.rules_calls.specs.Ranges.{replies_to}
use Rattle.rules_calls.specs.Call.{call_edit}
use Rattle.rules_calls.specs.Named.{map_call, map_answer, map_bytes, copy_call, copy_answer, copy_bytes, unmap_call, unmap_answer, unmap_bytes, alloc_call, alloc_answer, alloc_bytes, destroy_answer, allow_answer, ranges_call, ranges_result, ranges_reply, ranges_written}
use Rattle.edits.specs.Replies.{unwritten}
use Rattle.laws_refusal.specs.Edits.{outcome-refused, errno-of}
use Rattle.laws_refusal.specs.Silent.{silent-call}

module _ (t : Table) (bytes : List ℕ) where
  -- the table, whatever the request
  stays : (request : ℕ) (area : List ℕ) (k : ℕ) → (outcome t (call_edit t request bytes area)).result ≡ negsuc k → (outcome t (call_edit t request bytes area)).table ≡ t
  stays request area k r = outcome-refused t (call_edit t request bytes area) (silent-call t request bytes area) k r

  pub map_refused : (k : ℕ) → (map_answer t bytes).result ≡ negsuc k → ((map_answer t bytes).table ≡ t) × (map_bytes t bytes ≡ bytes)
  unfolding map_answer map_bytes
  map_refused k r = (stays (number Map) [] k r, unwritten 8 32 (map_call t bytes).errno (map_call t bytes).value bytes (errno-of t (map_call t bytes) k r))

  pub copy_refused : (k : ℕ) → (copy_answer t bytes).result ≡ negsuc k → ((copy_answer t bytes).table ≡ t) × (copy_bytes t bytes ≡ bytes)
  unfolding copy_answer copy_bytes
  copy_refused k r = (stays (number Copy) [] k r, unwritten 8 24 (copy_call t bytes).errno (copy_call t bytes).value bytes (errno-of t (copy_call t bytes) k r))

  pub unmap_refused : (k : ℕ) → (unmap_answer t bytes).result ≡ negsuc k → ((unmap_answer t bytes).table ≡ t) × (unmap_bytes t bytes ≡ bytes)
  unfolding unmap_answer unmap_bytes
  unmap_refused k r = (stays (number Unmap) [] k r, unwritten 8 16 (unmap_call t bytes).errno (unmap_call t bytes).value bytes (errno-of t (unmap_call t bytes) k r))

  pub alloc-refused : (k : ℕ) → (alloc_answer t bytes).result ≡ negsuc k → ((alloc_answer t bytes).table ≡ t) × (alloc_bytes t bytes ≡ bytes)
  unfolding alloc_answer alloc_bytes
  alloc-refused k r = (stays (number IoasAlloc) [] k r, unwritten 4 8 (alloc_call t bytes).errno (alloc_call t bytes).value bytes (errno-of t (alloc_call t bytes) k r))

  pub destroy_refused : (k : ℕ) → (destroy_answer t bytes).result ≡ negsuc k → (destroy_answer t bytes).table ≡ t
  unfolding destroy_answer
  destroy_refused k r = stays (number Destroy) [] k r

  pub allow-refused : (area : List ℕ) (k : ℕ) → (allow_answer t bytes area).result ≡ negsuc k → (allow_answer t bytes area).table ≡ t
  unfolding allow_answer
  allow-refused area k r = stays (number AllowIovas) area k r

  -- IOVA_RANGES writes where it answers 0 or 90, and nowhere else
  no-reply : (area : List ℕ) → (ranges_result t bytes area ≡ pos 0 → ⊥) → (ranges_result t bytes area ≡ negsuc 89 → ⊥) → replies_to (ranges_call t bytes area) ≡ false
  unfolding ranges_result
  no-reply area z n =
      by-test (eqb (ranges_call t bytes area) 0) (λ e. absurd (z (ap signed_result (eqb-true (ranges_call t bytes area) 0 e) ∙ result-zero)))
      (λ e. rw e (by-test (eqb (ranges_call t bytes area) 90) (λ f. absurd (n (ap signed_result (eqb-true (ranges_call t bytes area) 90 f) ∙ result-suc 89))) (λ f. f)))

  pub ranges-refused : (area : List ℕ) → (ranges_result t bytes area ≡ pos 0 → ⊥) → (ranges_result t bytes area ≡ negsuc 89 → ⊥) → (ranges_reply t bytes area ≡ bytes) × (ranges_written t bytes area ≡ area)
  unfolding ranges_reply ranges_written
  ranges-refused area z n = (rw (no-reply area z n), rw (no-reply area z n))
