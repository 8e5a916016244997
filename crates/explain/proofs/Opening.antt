-- The opening by its reasons.
use Rattle.std.specs.Prelude.{Option, Some, Ok, Err}
use Prim.Native.Nat.{ℕ, ◌≤◌, ◌<◌}
use mathlib.Core.Path.{◌≡◌, refl, sym, ap, ◌∙◌}
use mathlib.Core.Bool.{Bool, false}
use mathlib.Core.List.{List, [], ◌∷◌}
use native.Mathlib.Omega.{arith}
use lib.ListN.{length, get_or}
use borrow.Author.Tests.{ltb-false}
use Rattle.lists.specs.Tests.{by-test}
use Rattle.lists.specs.Checks.{Check, when, first, first-nil, first-fires, first_passes, first-stays, first_goes, Refusals, passed}
use Rattle.wire.specs.Fields.{field}
use Rattle.rules_table.specs.declared.Object.{Object}
use Rattle.rules_table.specs.declared.Mapping.{Mapping}
use Rattle.rules_calls.specs.Map.{map_fields}
use Rattle.rules_calls.specs.Copy.{copy_fields}
use Rattle.landing.specs.declared.Target.{Target}
use Rattle.rules_calls.specs.declared.Command.{Command}
use Rattle.rules_calls.specs.Opening.{Opening}
use Rattle.rules_calls.specs.declared.Unopened.TheVariants.{NoSizeField, SizeTooSmall, SizePastBytes, TailNotZero}
use Rattle.rules_calls.specs.Requests.{request_of, lookup, row_of}
use Rattle.rules_calls.specs.Opening.{size_field, size_checks, open_checks, open_row, opened}
use Rattle.opening.specs.Opened.{row_command}
use Rattle.rules_reasons.specs.declared.Reason.{Reason}
use Rattle.rules_reasons.specs.declared.Reason.TheVariants as reason
use Rattle.rules_reasons.specs.Reasons.{named, open_names, map_reason, copy_reason}
use Rattle.rules_reasons.specs.Explain.{open_or}
use Rattle.reason_words.specs.Words.{Tells, code_refuses}
use Rattle.cmd_explain.proofs.Naming.{short-first}
use Rattle.cmd_explain.specs.Numbered.{map_reason_at, copy_reason_at}
use Rattle.explain.specs.Answered.{opening_reason}

module _ (c : Command) where
  -- one check more, on both sides
  next : (b : Bool) (o : Opening) (n : Reason) (cs : List (Check Opening)) (ds : List (Check Reason)) → opening_reason o ≡ n → opening_reason (first cs (Ok c)) ≡ first ds reason.Accepted
      → opening_reason (first (when b o ∷ cs) (Ok c)) ≡ first (when b n ∷ ds) reason.Accepted
  next b o n cs ds e rest =
      by-test b
      (λ t. ap (λ (q : Opening). opening_reason q) (first-fires (when b o) cs (Ok c) t) ∙ e ∙ sym (first-fires (when b n) ds reason.Accepted t))
      (λ t. ap (λ (q : Opening). opening_reason q) (first_passes (when b o) cs (Ok c) t) ∙ rest ∙ sym (first_passes (when b n) ds reason.Accepted t))

  named-is : (known : ℕ) (bytes : List ℕ) → opening_reason (first (open_checks known bytes) (Ok c)) ≡ open_or known bytes reason.Accepted
  unfolding open_or open_checks size_checks named
  named-is known bytes =
      next _ (Err NoSizeField) reason.NoSizeField _ _ refl
      (next _ (Err SizeTooSmall) reason.SizeTooSmall _ _ refl
      (next _ (Err SizePastBytes) reason.SizePastBytes _ _ refl
      (next _ (Err TailNotZero) reason.TailNotZero [] [] refl
      (ap (λ (q : Opening). opening_reason q) (first-nil (Ok c)) ∙ sym (first-nil reason.Accepted)))))

  -- what the code finds of a listed request
  pub opened-is : (request : ℕ) (bytes : List ℕ) (row : Option (Command × ℕ)) (known : ℕ) (o : Opening) (r : Reason) → row ≡ row_of (lookup request) → row ≡ Some (c, known) → o ≡ opened request bytes → r ≡ opening_reason o
      → r ≡ open_or (request_of c).size bytes reason.Accepted
  unfolding opened
  opened-is request bytes row known o r e f g k =
      k ∙ ap (λ (q : Opening). opening_reason q) (g ∙ ap (λ (q : Option Command). open_row q bytes) (row_command request c known (sym e ∙ f))) ∙ named-is (request_of c).size bytes

module _ (known : ℕ) (bytes : List ℕ) where
  abbrev checks : List (Check Reason)
  checks = named (open_checks known bytes) open_names

  refuse : Refusals checks reason.Accepted
  unfolding open_checks size_checks named
  refuse = (code_refuses _ (λ y. omega (arith, y)), (code_refuses _ (λ y. omega (arith, y)), (code_refuses _ (λ y. omega (arith, y)), (code_refuses _ (λ y. omega (arith, y)), tt))))

  module _ (o : Reason) (e : o ≡ open_or known bytes reason.Accepted) where
    -- the opening refuses
    pub open_refused : (why : Reason) → (o ≡ reason.Accepted → ⊥) → Tells (open_or known bytes why) o
    unfolding open_or open_checks size_checks named
    open_refused why h = record {
      reason = first-stays checks reason.Accepted o why e h;
      short = short-first checks o e (omega arith, (omega arith, (omega arith, (omega arith, tt))));
    }

    -- or passes
    pub open_passed : (why r : Reason) → o ≡ reason.Accepted → Tells why r → Tells (open_or known bytes why) r
    unfolding open_or
    open_passed why r z t = record { reason = t.reason ∙ first_goes checks reason.Accepted why refuse (sym z ∙ e); short = t.short }

    check : o ≡ reason.Accepted → (i : ℕ) → i < 4 → (get_or checks i (when false reason.Accepted)).fires ≡ false
    unfolding open_or open_checks size_checks named
    check z i h = passed checks reason.Accepted (when false reason.Accepted) refuse (sym e ∙ z) i h

    -- and then the known bytes are there
    pub open_long : o ≡ reason.Accepted → known ≤ length bytes
    unfolding open_or open_checks size_checks named
    open_long z = omega (arith, ltb-false (size_field bytes) known (check z 1 (omega arith)), ltb-false (length bytes) (size_field bytes) (check z 2 (omega arith)))

-- ---- the fields of a command, as they are read

pub map_read : (limit : ℕ) (os : List Object) (ms : List Mapping) (bytes : List ℕ) (t : Target) (z memory : ℕ) (r : Reason) → t.space ≡ field 4 bytes 8 → t.flags ≡ field 4 bytes 4 → t.length ≡ field 8 bytes 24 → t.address ≡ field 8 bytes 32
    → z ≡ field 4 bytes 12 → memory ≡ field 8 bytes 16 → Tells (map_reason_at limit os ms t z memory) r → Tells (map_reason limit os ms (map_fields bytes)) r
map_read limit os ms bytes t z memory r es ef en ea ez em h = record { reason = h.reason ∙ rw (es, ef, en, ea, ez, em); short = h.short }

pub copy_read : (os : List Object) (ms : List Mapping) (bytes : List ℕ) (t : Target) (source from : ℕ) (r : Reason) → t.space ≡ field 4 bytes 8 → t.flags ≡ field 4 bytes 4 → t.length ≡ field 8 bytes 16 → t.address ≡ field 8 bytes 24
    → source ≡ field 4 bytes 12 → from ≡ field 8 bytes 32 → Tells (copy_reason_at os ms t source from) r → Tells (copy_reason os ms (copy_fields bytes)) r
copy_read os ms bytes t source from r es ef en ea eo ey h = record { reason = h.reason ∙ rw (es, ef, en, ea, eo, ey); short = h.short }
