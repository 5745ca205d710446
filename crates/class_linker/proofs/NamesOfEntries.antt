-- The classes that the names of Class entries say, of a file that breaks no rule.
use Rattle.std.proofs.Common.{◌≡◌, ◌≢◌, ℕ, ◌<◌, ◌⊎◌, ◌↔◌, Bool, List, length, inl, inr, sym, ◌∙◌, ap, subst, arith, Some}
use Rattle.std.specs.Prelude.{IsTrue}
use Rattle.jk_model.specs.declared.class_file.ClassFile.{ClassFile}
use Rattle.jk_model.specs.declared.descriptors.Base.TheVariants.{Class}
use Rattle.jk_model.specs.declared.descriptors.FieldType.{FieldType}
use Rattle.jk_model.specs.declared.output.Rule.TheVariants.{C7}
use Rattle.jk_model.specs.Descriptors.{IsClassName, IsFieldText}
use Rattle.jk_model_classes.specs.ClassNames.{BeginsArray}
use Rattle.jk_model_classes.specs.Items.{Entry}
use Rattle.jk_model_classes.specs.Members.{ClassAt, TextAt}
use Rattle.jk_model_classes.specs.References.{IsDescriptorEntry, Mentions}
use Rattle.jk_model_classes.specs.Worlds.{NamedClass, class_named}
use Rattle.model_lemmas.proofs.ClassNamesDecided.{class_or_not}
use Rattle.descriptors.proofs.NoTextBeginsAnother.{one_field}
use Rattle.class_lemmas.proofs.ClassesInDescriptors.{some_dims}
use Rattle.class_lemmas.proofs.ArraysHaveNoNames.{no_array, array_begins}
use Rattle.class_lemmas.proofs.OneText.{one_text}
use Rattle.class_linker.specs.KnownReferences.{Adds, AreKnown, IsGoodName, IsNameEntry, IsNamedBy, RefersBy}
use Rattle.class_linker.specs.KnownTypes.{Meaning}
use Rattle.class_linker.specs.LinkedFiles.{IsLinkable}
use Rattle.class_linker.proofs.KnownOnce.{text_within}
use Rattle.class_linker.proofs.NumbersAdded.{adds_as}

-- ---- What the rules say.

pub good_name : (c : ClassFile) (names : List NamedClass) → IsLinkable c names → (i : ℕ) (units : List ℕ) → TextAt c.pool i units
    → IsNameEntry c.pool i → IsGoodName (class_named names) units
good_name c names h i units text (j, e, at, same) =
    let named : ClassAt c.pool j units = (i, at ∙ ap Some same, text) in
    record { form = λ never. h.alone C7 (Entry j) (inl (units, named, never)); known = λ name is. h.known j name (inl (units, named, is)) }

pub known_descriptor : (c : ClassFile) (names : List NamedClass) → IsLinkable c names → (i : ℕ) (units : List ℕ) → TextAt c.pool i units
    → IsDescriptorEntry c i → AreKnown (class_named names) (Mentions units)
known_descriptor c names h i units text descriptor name is = h.known i name (inr (units, descriptor, text, is))

-- ---- Names of arrays.

array_dims : (units : List ℕ) (t : FieldType) → BeginsArray units → IsFieldText units t → t.dims ≢ 0
array_dims units t (rest, e) text = some_dims t.dims t.base rest (sym text.1 ∙ e)

-- the name of an array says a type
pub array_form : (m : Meaning) (units : List ℕ) → IsGoodName m units → BeginsArray units → ((t : FieldType) → IsFieldText units t → ⊥) → ⊥
array_form m units good array none =
    good.form (λ form. elim form [ inl class ↦ no_array units array class | inr type ↦ none type.0 type.2 ])

-- whose class it names
pub array_names : (units : List ℕ) (t : FieldType) (name : List ℕ) → BeginsArray units → IsFieldText units t → t.base ≡ Class name → IsNamedBy units name
array_names units t name array text is = inr (t, text, array_dims units t array text, is)

-- and no others
array_named : (units : List ℕ) (t : FieldType) (name : List ℕ) → BeginsArray units → IsFieldText units t → IsNamedBy units name → t.base ≡ Class name
array_named units t name array text (inl (class, same)) = absurd (no_array units array class)
array_named units t name array text (inr (u, other, some, is)) =
    subst (λ (x : FieldType). x.base ≡ Class name) (one_field units u t other text) is

pub adds_array : (m : Meaning) (units : List ℕ) (t : FieldType) (a b : List ℕ) → BeginsArray units → IsFieldText units t
    → Adds m (λ name. t.base ≡ Class name) a b → Adds m (IsNamedBy units) a b
adds_array m units t a b array text h =
    adds_as m (λ name. t.base ≡ Class name) (IsNamedBy units) a b (λ name. array_names units t name array text) (λ name. array_named units t name array text) h

-- ---- Names of classes.

pub class_form : (m : Meaning) (units : List ℕ) → IsGoodName m units → (BeginsArray units → ⊥) → IsClassName units
class_form m units good plain = elim (class_or_not units) [
  | inl class ↦ class
  | inr never ↦ absurd (good.form (λ form. elim form [ inl class ↦ never class | inr array ↦ plain (array_begins units array) ]))
]

one_name : (units name : List ℕ) → (BeginsArray units → ⊥) → IsNamedBy units name → name ≡ units
one_name units name plain (inl (class, same)) = same
one_name units name plain (inr (t, text, some, is)) = absurd (plain (array_begins units (t, omega (arith, some), text)))

pub adds_name : (m : Meaning) (units : List ℕ) (a b : List ℕ) → IsGoodName m units → (BeginsArray units → ⊥)
    → Adds m (λ name. name ≡ units) a b → Adds m (IsNamedBy units) a b
adds_name m units a b good plain h =
    adds_as m (λ name. name ≡ units) (IsNamedBy units) a b (λ name same. inl (class_form m units good plain, same)) (λ name. one_name units name plain) h

-- ---- A text at an index.

pub adds_text : (m : Meaning) (c : ClassFile) (i : ℕ) (units read : List ℕ) (is_name is_descriptor : Bool) (a b : List ℕ) → TextAt c.pool i units
    → read ≡ units → (IsTrue is_name ↔ IsNameEntry c.pool i) → (IsTrue is_descriptor ↔ IsDescriptorEntry c i)
    → Adds m (λ name. (IsTrue is_name × IsNamedBy read name) ⊎ (IsTrue is_descriptor × Mentions read name)) a b → Adds m (RefersBy c i) a b
adds_text m c i units read is_name is_descriptor a b text same name_is descriptor_is h =
    adds_as m (λ name. (IsTrue is_name × IsNamedBy read name) ⊎ (IsTrue is_descriptor × Mentions read name)) (RefersBy c i) a b to from h
  where
    to : (name : List ℕ) → (IsTrue is_name × IsNamedBy read name) ⊎ (IsTrue is_descriptor × Mentions read name) → RefersBy c i name
    to name (inl (t, is)) = (units, text, inl (name_is.0 t, subst (λ (us : List ℕ). IsNamedBy us name) same is))
    to name (inr (t, is)) = (units, text, inr (descriptor_is.0 t, subst (λ (us : List ℕ). Mentions us name) same is))

    from : (name : List ℕ) → RefersBy c i name → (IsTrue is_name × IsNamedBy read name) ⊎ (IsTrue is_descriptor × Mentions read name)
    from name (us, at, inl (e, is)) =
        let one : us ≡ read = one_text c.pool i us units at text ∙ sym same in
        inl (name_is.1 e, subst (λ (w : List ℕ). IsNamedBy w name) one is)
    from name (us, at, inr (e, is)) =
        let one : us ≡ read = one_text c.pool i us units at text ∙ sym same in
        inr (descriptor_is.1 e, subst (λ (w : List ℕ). Mentions w name) one is)

pub refers_within : (c : ClassFile) (i : ℕ) (name : List ℕ) → RefersBy c i name → i < length c.pool
refers_within c i name (units, text, by) = text_within c.pool i units text
