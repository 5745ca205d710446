-- The arrays between which the examples copy, and values that are none.
use Rattle.std.proofs.Common.{◌≡◌, ℕ, List, [], ◌∷◌, Some, refl, sym, ap, ◌∙◌}
use Rattle.std.proofs.lemmas.Option.{same_Some}
use Rattle.jk_model.specs.declared.values.Value.{Value}
use Rattle.jk_model.specs.declared.values.Value.TheVariants as Held
use Rattle.jk_model_classes.specs.declared.records.BaseRef.TheVariants as Base
use Rattle.jk_model_classes.specs.declared.records.TypeRef.{TypeRef}
use Rattle.jk_model_classes.specs.Classes.{OBJECT}
use Rattle.jk_model_typing.specs.FrameTypes.{STRING, array_type}
use Rattle.jk_model_domains.specs.Objects.{Array, NamedObject, Text, class_type, object_named}
use Rattle.jk_model_heaps.specs.References.{IsHeapArray}
use Rattle.jk_model_system_rows.specs.Examples.{arrays, ints}

abbrev pub heap : List NamedObject
heap = arrays.heap

abbrev pub four_ints : IsHeapArray heap (Held.Obj 1)
four_ints = record { name = 1; refers = refl; element = array_type 0 Base.Int; items = ints (1 ∷ 2 ∷ 3 ∷ 4 ∷ []); object = refl }

abbrev pub two_objects : IsHeapArray heap (Held.Obj 4)
two_objects = record { name = 4; refers = refl; element = class_type OBJECT; items = Held.Obj 6 ∷ Held.Obj 1 ∷ []; object = refl }

abbrev pub two_texts : IsHeapArray heap (Held.Obj 5)
two_texts = record { name = 5; refers = refl; element = class_type STRING; items = Held.Null ∷ Held.Null ∷ []; object = refl }

array_or_text : (t : TypeRef) (items : List Value) (units : List ℕ) → Array t items ≡ Text units → ⊥
array_or_text t items units e = cc

same_name : (a b : ℕ) → Held.Obj a ≡ Held.Obj b → b ≡ a
same_name a b e = cc

pub text_is_no_array : (n : ℕ) (units : List ℕ) → object_named heap n ≡ Some (Text units) → IsHeapArray heap (Held.Obj n) → ⊥
text_is_no_array n units stands a =
    array_or_text a.element a.items units
    (same_Some (Array a.element a.items) (Text units) (sym a.object ∙ ap (object_named heap) (same_name n a.name a.refers) ∙ stands))
