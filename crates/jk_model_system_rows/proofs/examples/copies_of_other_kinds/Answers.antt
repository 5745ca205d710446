-- They aren't two arrays of one kind.
use Rattle.std.proofs.Common.{◌≡◌, ℕ, pos, negsuc, [], ◌∷◌, Some, None, codes, refl, sym, ap, ◌∙◌}
use Rattle.jk_model.specs.declared.identifiers.CapId.{CapId}
use Rattle.jk_model.specs.declared.values.Value.TheVariants as Held
use Rattle.jk_model_classes.specs.declared.records.BaseRef.TheVariants as Base
use Rattle.jk_model_classes.specs.Classes.{OBJECT}
use Rattle.jk_model_typing.specs.FrameTypes.{array_type}
use Rattle.jk_model_domains.specs.Objects.{class_type}
use Rattle.jk_model_heaps.proofs.ArraysInHeaps.{that_array}
use Rattle.jk_model_system_rows.specs.ArrayCopies.{ArrayCopy, ArrayPair, number_kind, of_other_kinds}
use Rattle.jk_model_system_rows.specs.Examples.{ints}
use Rattle.jk_model_system_rows.proofs.ArraysOfExamples.{heap, text_is_no_array}
use Rattle.jk_model_system_rows.proofs.examples.copies_of_other_kinds.Goals as goal

no_array : (k : CapId) (a : ℕ) → Held.Cap k ≡ Held.Obj a → ⊥
no_array k a e = cc

abbrev from_text : ArrayCopy
from_text = record { source = Held.Obj 6; from = pos 0; target = Held.Obj 1; to = pos 0; count = pos 0 }

abbrev to_capability : ArrayCopy
to_capability = record { source = Held.Obj 1; from = pos 0; target = Held.Cap (record { 0 = 0 }); to = pos 0; count = pos 0 }

abbrev truths_to_bytes : ArrayCopy
truths_to_bytes = record { source = Held.Obj 2; from = pos 0; target = Held.Obj 3; to = pos 0; count = pos 0 }

abbrev ints_to_objects : ArrayCopy
ints_to_objects = record { source = Held.Obj 1; from = negsuc 0; target = Held.Obj 4; to = pos 9; count = pos 1 }

truths_are_no_bytes : Some Base.Bool ≡ Some Base.Byte → ⊥
truths_are_no_bytes e = cc

ints_are_no_references : Some Base.Int ≡ None → ⊥
ints_are_no_references e = cc

truths_and_bytes : ArrayPair heap truths_to_bytes → ⊥
truths_and_bytes p =
    let source = that_array heap (Held.Obj 2) 2 (array_type 0 Base.Bool) (ints (0 ∷ 1 ∷ [])) p.source refl refl in
    let target = that_array heap (Held.Obj 3) 3 (array_type 0 Base.Byte) (ints (0 ∷ 1 ∷ [])) p.target refl refl in
    truths_are_no_bytes (ap number_kind (sym source.element) ∙ p.one_kind ∙ ap number_kind target.element)

ints_and_objects : ArrayPair heap ints_to_objects → ⊥
ints_and_objects p =
    let source = that_array heap (Held.Obj 1) 1 (array_type 0 Base.Int) (ints (1 ∷ 2 ∷ 3 ∷ 4 ∷ [])) p.source refl refl in
    let target = that_array heap (Held.Obj 4) 4 (class_type OBJECT) (Held.Obj 6 ∷ Held.Obj 1 ∷ []) p.target refl refl in
    ints_are_no_references (ap number_kind (sym source.element) ∙ p.one_kind ∙ ap number_kind target.element)

pub returns-clause-text : goal.returns-clause-text
returns-clause-text c = (from_text, refl, of_other_kinds refl (λ p. text_is_no_array 6 (codes "a") refl p.source) refl)

pub returns-clause-capability : goal.returns-clause-capability
returns-clause-capability c =
    (to_capability, refl, of_other_kinds refl (λ p. no_array (record { 0 = 0 }) p.target.name p.target.refers) refl)

pub returns-clause-truths_and_bytes : goal.returns-clause-truths_and_bytes
returns-clause-truths_and_bytes c = (truths_to_bytes, refl, of_other_kinds refl truths_and_bytes refl)

pub returns-clause-ints_and_objects : goal.returns-clause-ints_and_objects
returns-clause-ints_and_objects c = (ints_to_objects, refl, of_other_kinds refl ints_and_objects refl)
