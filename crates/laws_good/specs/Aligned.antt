-- The alignment by which attach judges the mappings of a space is the alignment that the space has in the table after it.
use Rattle.std.specs.Prelude.{ℕ, ◌<◌, max, ◌≡◌, refl, false, List, length, get_or, set}
use Rattle.std.proofs.Common.{ap, ◌∙◌, eq-eqb}
use Rattle.alignment.specs.Highest.{highest, highest-set}
use Rattle.rules_table.specs.declared.Object.{Object}
use Rattle.rules_table.specs.Records.{is_attached, free_object}
use Rattle.table.specs.Homes.{loose-home}
use Rattle.rules_table.specs.Spaces.{page_for, alignment}
use Rattle.rules_calls.specs.Attach.{alignment_with, attached_object}

pub alignment-attached : (os : List Object) (s i : ℕ) → i < length os → is_attached (get_or os i free_object).kind ≡ false
    → alignment (set os i (attached_object (get_or os i free_object) s)) s ≡ alignment_with os s (get_or os i free_object)
unfolding alignment alignment_with page_for attached_object
alignment-attached os s i h e =
    highest-set (page_for s) os i (attached_object (get_or os i free_object) s) free_object h (rw (loose-home (get_or os i free_object).kind s e))
    ∙ ap (λ (b : ℕ). max b (highest (page_for s) os)) (rw (eq-eqb s s refl))
