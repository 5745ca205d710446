-- What holds by one meaning of names holds by another that is the same name by name.
use Rattle.std.proofs.Common.{◌≡◌, ℕ, List, ◌∙◌, Option, Some, None}
use Rattle.jk_model.specs.declared.class_file.ClassFile.{ClassFile}
use Rattle.jk_model.specs.declared.descriptors.Base.{Base}
use Rattle.jk_model.specs.declared.descriptors.Base.TheVariants.{Byte, Char, Double, Float, Int, Long, Short, Bool as Boolean, Class}
use Rattle.jk_model.specs.declared.descriptors.FieldType.{FieldType}
use Rattle.jk_model.specs.declared.identifiers.ClassId.{ClassId}
use Rattle.jk_model_classes.specs.declared.records.BaseRef.{BaseRef}
use Rattle.jk_model_classes.specs.declared.records.TypeRef.{TypeRef}
use Rattle.jk_model_classes.specs.LinkRules.{LinkScope}
use Rattle.jk_model_classes.specs.SystemRecords.{AreTypesFor, IsBaseFor, IsResultFor, IsTypeFor}
use Rattle.jk_model_classes.specs.Worlds.{NamedClass}
use Rattle.jk_model_folders.specs.LinkedClasses.{NamesClassAt}
use Rattle.class_linker.specs.KnownTypes.{Meaning}
use Rattle.class_linker.specs.LinkedFiles.{HasNames}
use Rattle.class_linker.specs.TextsSaid.{NamesClassBy}

base_for : (m n : Meaning) (base : Base) (ref : BaseRef) → ((name : List ℕ) → n name ≡ m name) → IsBaseFor m base ref → IsBaseFor n base ref
base_for m n Byte ref same h = h
base_for m n Char ref same h = h
base_for m n Int ref same h = h
base_for m n Long ref same h = h
base_for m n Short ref same h = h
base_for m n Boolean ref same h = h
base_for m n (Class name) ref same (c, is, e) = (c, same name ∙ is, e)
base_for m n Double ref same h = absurd h
base_for m n Float ref same h = absurd h

pub type_for : (m n : Meaning) (t : FieldType) (ref : TypeRef) → ((name : List ℕ) → n name ≡ m name) → IsTypeFor m t ref → IsTypeFor n t ref
type_for m n t ref same h = (h.0, base_for m n t.base ref.base same h.1)

pub types_for : (m n : Meaning) (types : List FieldType) (refs : List TypeRef) → ((name : List ℕ) → n name ≡ m name) → AreTypesFor m types refs
    → AreTypesFor n types refs
types_for m n types refs same h = record { as_many = h.as_many; each = λ i t ref at at2. type_for m n t ref same (h.each i t ref at at2) }

pub result_for : (m n : Meaning) (t : Option FieldType) (ref : Option TypeRef) → ((name : List ℕ) → n name ≡ m name) → IsResultFor m t ref → IsResultFor n t ref
result_for m n None ref same h = h
result_for m n (Some t) ref same (r, e, is) = (r, e, type_for m n t r same is)

pub class_for : (c : ClassFile) (names : List NamedClass) (i : ℕ) (class : ClassId) (s : LinkScope) → HasNames names s → NamesClassBy names c.pool i class
    → NamesClassAt s c i class
class_for c names i class s same (name, at, is) = (name, at, same name ∙ is)
