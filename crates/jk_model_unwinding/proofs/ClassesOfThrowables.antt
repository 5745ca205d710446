-- An ArithmeticException is a RuntimeException, no Error, and implements no interface; a throwable of the examples implements one.
use Rattle.std.proofs.Common.{◌≡◌, ℕ, IsTrue, inl, inr, List, [], ◌∷◌, Some, refl, sym, subst, ◌∙◌, arith}
use Rattle.std.proofs.lemmas.Option.{same_Some}
use Rattle.jk_model.specs.declared.identifiers.ClassId.{ClassId}
use Rattle.jk_model.specs.declared.values.Value.TheVariants as Held
use Rattle.jk_model_classes.specs.Classes.{superclasses}
use Rattle.jk_model_domains.specs.NumberRows.{ARITHMETIC_EXCEPTION}
use Rattle.jk_model_domains.specs.Objects.{NamedObject, Object, Plain, class_type, object_named, type_of}
use Rattle.jk_model_heaps.specs.Capabilities.{KnownCapabilities}
use Rattle.jk_model_heaps.specs.Instances.{IsA, IsInstance}
use Rattle.jk_model_heaps.specs.SystemClasses.{ERROR, EXCEPTION_IN_INITIALIZER_ERROR}
use Rattle.jk_model_heaps.proofs.TypesApart.{are_apart, are_without, implemented_by, never_a}
use Rattle.jk_model_unwinding.specs.Examples.{MARK, MINE, RUNTIME_EXCEPTION, classes}

pub is_runtime_exception : IsA classes (class_type ARITHMETIC_EXCEPTION) (class_type RUNTIME_EXCEPTION)
is_runtime_exception = inr (inl (refl, inl (1, omega arith, refl)))

pub mine_is_mark : IsA classes (class_type MINE) (class_type MARK)
mine_is_mark = inr (inl (refl, inr ((_, refl, refl), (1, omega arith, refl))))

pub failure_is_error : IsA classes (class_type EXCEPTION_IN_INITIALIZER_ERROR) (class_type ERROR)
failure_is_error = inr (inl (refl, inl (2, omega arith, refl)))

-- an object of a class that isn't the other, nor below it, and doesn't implement it
pub no_instance : (caps : KnownCapabilities) (heap : List NamedObject) (a : ℕ) (c d : ClassId) → IsTrue (are_apart c d)
    → IsTrue (are_without (superclasses classes c) d) → IsTrue (are_without (implemented_by classes c) d)
    → object_named heap a ≡ Some (Plain c (Held.Null ∷ [])) → IsInstance classes caps heap (Held.Obj a) (class_type d) → ⊥
no_instance caps heap a c d other above implemented stands (object, is, below) =
    let same : Plain c (Held.Null ∷ []) ≡ object = same_Some (Plain c (Held.Null ∷ [])) object (sym stands ∙ is) in
    never_a classes c d other above implemented 0 (subst (λ (o : Object). IsA classes (type_of o) (class_type d)) (sym same) below)

pub arithmetic_is_no_error : (caps : KnownCapabilities) (heap : List NamedObject) (a : ℕ)
    → object_named heap a ≡ Some (Plain ARITHMETIC_EXCEPTION (Held.Null ∷ [])) → IsInstance classes caps heap (Held.Obj a) (class_type ERROR) → ⊥
arithmetic_is_no_error caps heap a stands = no_instance caps heap a ARITHMETIC_EXCEPTION ERROR refl refl refl stands

pub arithmetic_is_no_mark : (caps : KnownCapabilities) (heap : List NamedObject) (a : ℕ)
    → object_named heap a ≡ Some (Plain ARITHMETIC_EXCEPTION (Held.Null ∷ [])) → IsInstance classes caps heap (Held.Obj a) (class_type MARK) → ⊥
arithmetic_is_no_mark caps heap a stands = no_instance caps heap a ARITHMETIC_EXCEPTION MARK refl refl refl stands
