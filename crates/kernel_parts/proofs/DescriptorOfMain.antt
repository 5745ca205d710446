-- The descriptor of `main` is the text of a type.
use Rattle.std.proofs.Common.{◌≤◌, [], ◌∷◌, None, codes, refl, arith}
use Rattle.jk_model.specs.declared.descriptors.Base.TheVariants as Said
use Rattle.jk_model.specs.declared.descriptors.FieldType.{FieldType}
use Rattle.jk_model.specs.declared.descriptors.MethodType.{MethodType}
use Rattle.jk_model.specs.Descriptors.{IsMethodText}
use Rattle.model_lemmas.proofs.NamesByTest.{string_name}

abbrev texts : FieldType
texts = record { dims = 1; base = Said.Class (codes "java/lang/String") }

-- one parameter, an array of texts, and no result
abbrev pub type_of_main : MethodType
type_of_main = record { params = texts ∷ []; result = None }

few : 1 ≤ 255
few = omega arith

pub main-text : IsMethodText (codes "([Ljava/lang/String;)V") type_of_main
main-text = ((((few, string_name), tt), tt), refl)
