-- Classes and types of which one isn't an instance of the other, by tests that compute.
use Rattle.std.proofs.Common.{◌≡◌, ◌≢◌, ℕ, zero, suc, ◌==◌, Bool, not, IsTrue, List, [], ◌∷◌, flat_map, Contains, inl, inr, sym, ap, subst, arith}
use Rattle.std.specs.List.{list_all}
use Rattle.std.proofs.lemmas.Bool.{and_parts}
use Rattle.std.proofs.lemmas.Bool.Decides.{nat_tests}
use Rattle.std.proofs.lemmas.Option.{same_Some}
use Rattle.jk_model.specs.declared.identifiers.ClassId.{ClassId}
use Rattle.jk_model_classes.specs.declared.records.BaseRef.TheVariants as Base
use Rattle.jk_model_classes.specs.declared.records.ClassRecord.{ClassRecord}
use Rattle.jk_model_classes.specs.declared.records.TypeRef.{TypeRef}
use Rattle.jk_model_classes.specs.Classes.{Implements, OBJECT, own_interfaces, superclasses}
use Rattle.jk_model_classes.specs.Stubs.{ImplementsRemote}
use Rattle.jk_model_typing.specs.FrameTypes.{array_type}
use Rattle.jk_model_heaps.specs.Instances.{IsA, IsAboveArrays, IsClassA}
use Rattle.jk_model_heaps.specs.SystemClasses.{CLONEABLE, REMOTE, SERIALIZABLE}

-- ---- Classes by number.

abbrev pub are_apart : ClassId → ClassId → Bool
are_apart a b = not (a.0 == b.0)

pub apart : (a b : ClassId) → IsTrue (are_apart a b) → a ≢ b
apart a b test e = let same : a.0 ≡ b.0 = ap (λ (c : ClassId). c.0) e in grind (arith, nat_tests)

-- none of the classes is this one
abbrev pub are_without : List ClassId → ClassId → Bool
are_without cs c = list_all (λ (d : ClassId). are_apart d c) cs

pub without : (cs : List ClassId) (c : ClassId) → IsTrue (are_without cs c) → Contains cs c → ⊥
without [] c test (k, low, is) = absurd (omega (arith, low))
without (d ∷ cs) c test (zero, low, is) = apart d c (and_parts (are_apart d c) (are_without cs c) test).0 is
without (d ∷ cs) c test (suc k, low, is) = without cs c (and_parts (are_apart d c) (are_without cs c) test).1 (k, omega (arith, low), is)

-- ---- What stands above a class, and what it implements.

abbrev pub implemented_by : List ClassRecord → ClassId → List ClassId
implemented_by classes a = flat_map (λ (c : ClassId). c ∷ own_interfaces classes c) (superclasses classes a)

pub implements_not : (classes : List ClassRecord) (a i : ClassId) → IsTrue (are_without (implemented_by classes a) i) → Implements classes a i → ⊥
implements_not classes a i test h = without (implemented_by classes a) i test h.1

-- of classes without the tenth one, which is jk/Remote
pub never_remote : (classes : List ClassRecord) (a : ClassId) → IsTrue (are_without (implemented_by classes a) REMOTE)
    → ImplementsRemote classes a → ⊥
never_remote classes a test (remote, named, implements) =
    let number : 10 ≡ remote.0 = same_Some 10 remote.0 named in
    let same : REMOTE ≡ remote = ap (λ (n : ℕ). let c : ClassId = record { 0 = n } in c) number in
    implements_not classes a REMOTE test (subst (λ (c : ClassId). Implements classes a c) (sym same) implements)

-- ---- Types.

pub same_class : (a b : ClassId) → Base.Class a ≡ Base.Class b → a ≡ b
same_class a b e = cc

pub class_of_type : (m n : ℕ) (a b : ClassId) → array_type m (Base.Class a) ≡ array_type n (Base.Class b) → a ≡ b
class_of_type m n a b e = same_class a b (ap (λ (t : TypeRef). t.base) e)

module _ (classes : List ClassRecord) (a b : ClassId) (other : IsTrue (are_apart a b)) (above : IsTrue (are_without (superclasses classes a) b))
    (implemented : IsTrue (are_without (implemented_by classes a) b)) where
  pub no_class_a : IsClassA classes (Base.Class a) (Base.Class b) → ⊥
  no_class_a (inl below) = without (superclasses classes a) b above below
  no_class_a (inr implements) = implements_not classes a b implemented implements

  -- of as many dimensions
  pub never_a : (n : ℕ) → IsA classes (array_type n (Base.Class a)) (array_type n (Base.Class b)) → ⊥
  never_a n (inl same) = apart a b other (class_of_type n n a b same)
  never_a n (inr (inl (dims, is))) = no_class_a is
  never_a n (inr (inr (lower, above))) = absurd (omega (arith, lower))

-- a class that isn't one of the three that all arrays are of
pub not_above_arrays : (b : ClassId) → IsTrue (are_apart b OBJECT) → IsTrue (are_apart b SERIALIZABLE) → IsTrue (are_apart b CLONEABLE)
    → IsAboveArrays (Base.Class b) → ⊥
not_above_arrays b no_object no_serializable no_cloneable (inl e) = apart b OBJECT no_object (same_class b OBJECT e)
not_above_arrays b no_object no_serializable no_cloneable (inr (inl e)) = apart b SERIALIZABLE no_serializable (same_class b SERIALIZABLE e)
not_above_arrays b no_object no_serializable no_cloneable (inr (inr e)) = apart b CLONEABLE no_cloneable (same_class b CLONEABLE e)

-- an array of a class's objects is of no class but those three
pub array_is_no : (classes : List ClassRecord) (a b : ClassId) → IsTrue (are_apart a b) → IsTrue (are_apart b OBJECT)
    → IsTrue (are_apart b SERIALIZABLE) → IsTrue (are_apart b CLONEABLE) → IsA classes (array_type 1 (Base.Class a)) (array_type 0 (Base.Class b)) → ⊥
array_is_no classes a b other no_object no_serializable no_cloneable (inl same) = apart a b other (class_of_type 1 0 a b same)
array_is_no classes a b other no_object no_serializable no_cloneable (inr (inl (dims, is))) = absurd (omega (arith, dims))
array_is_no classes a b other no_object no_serializable no_cloneable (inr (inr (lower, above))) =
    not_above_arrays b no_object no_serializable no_cloneable above
