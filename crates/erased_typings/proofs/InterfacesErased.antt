-- Interfaces as marked classes: nothing is below one but itself, where no class has one for its parent, and no instruction pushes
-- one, since types are read with java/lang/Object in the place of interfaces.
use Rattle.std.proofs.Common.{◌≡◌, ℕ, zero, suc, ◌+◌, ◌<◌, Bool, true, false, IsTrue, inl, inr, List, [], ◌∷◌, length, map, take, Option, Some, None, Contains, refl, sym, ap, ◌∙◌, subst, arith, if◌then◌else◌}
use Rattle.std.specs.Prelude.{slice_get}
use Rattle.std.specs.List.{AllByRecursion}
use Rattle.std.specs.Option.{option_map_or}
use Rattle.std.proofs.lemmas.Bool.{false≢true}
use Rattle.std.proofs.lemmas.Option.{slice_get_within}
use Rattle.list_lemmas.proofs.ItemsByPlace.{slice_get-from_take, item_there}
use Rattle.jk_model.specs.declared.identifiers.ClassId.{ClassId}
use Rattle.jk_model.specs.declared.identifiers.MemberId.{MemberId}
use Rattle.jk_model.specs.SystemTable.{SystemClass, system_classes}
use Rattle.jk_model.proofs.EachItem.{all_weaker}
use Rattle.jk_model.specs.Flags.{has, INTERFACE}
use Rattle.jk_model_classes.specs.declared.records.BaseRef.{BaseRef}
use Rattle.jk_model_classes.specs.declared.records.BaseRef.TheVariants as Base
use Rattle.jk_model_classes.specs.declared.records.ClassRecord.{ClassRecord}
use Rattle.jk_model_classes.specs.declared.records.TypeRef.{TypeRef}
use Rattle.jk_model_classes.specs.Classes.{record_of, superclasses, AreOrdered, IsInterface, OBJECT, is_interface_record}
use Rattle.jk_model_classes.specs.SystemRecords.{AreSystemRecords}
use Rattle.jk_model_typing.specs.declared.frames.FrameType.{FrameType}
use Rattle.jk_model_typing.specs.declared.frames.VType.{VType}
use Rattle.jk_model_typing.specs.declared.frames.VType.TheVariants.{Ref}
use Rattle.jk_model_typing.specs.FrameTypes.{erased_base, of_class, of_type, value_of, base_value, dims_value, array_type, throwable, STRING, THROWABLE}
use Rattle.jk_model_typing.specs.Scopes.{CodeScope}
use Rattle.jk_model_typing.specs.Typing.{FrameAt, IsLeastTyping}
use Rattle.class_table.proofs.StandingAbove.{parent-lower, superclasses-cases}
use Rattle.erased_typings.specs.ErasedFrames.{HaveClassParents, IsErasedBase, IsErasedType, IsErasedFrame}
use Rattle.erased_typings.proofs.MarkedTypes.{is_marked, IsPlain, IsPlainFrame, AreMarks}
use Rattle.erased_typings.proofs.MarkedRows.{PushesPlain}
use Rattle.erased_typings.proofs.MarkedTypings.{BeginsPlain, least-plain}

abbrev pub is_interface : List ClassRecord → ClassId → Bool
is_interface classes c = is_interface_record (record_of classes c)

-- ---- The records of system classes in front of others.

module _ (classes : List ClassRecord) (system : AreSystemRecords (take (length system_classes) classes)) where
  -- the flags of a system class are those of its entry
  system_flags : (n : ℕ) (entry : SystemClass) → slice_get system_classes n ≡ Some entry
      → (r : ClassRecord) × (slice_get classes n ≡ Some r) × (r.flags ≡ entry.flags)
  system_flags n entry at =
      let low : n < length (take (length system_classes) classes) = rw (system.as_many) (slice_get_within system_classes n entry at) in
      let found = item_there (take (length system_classes) classes) n low in
      (found.0, slice_get-from_take classes (length system_classes) n found.0 found.1, (system.each n entry found.0 at found.1).flags)

  plain_by : (n : ℕ) (o : Option SystemClass) → slice_get system_classes n ≡ o
      → option_map_or (λ (entry : SystemClass). has entry.flags INTERFACE) o true ≡ false → is_interface classes (record { 0 = n }) ≡ false
  plain_by n None at plain = absurd (false≢true (sym plain))
  plain_by n (Some entry) at plain =
      let r = system_flags n entry at in
      ap (λ (o : Option ClassRecord). is_interface_record o) r.1 ∙ ap (λ (flags : ℕ). has flags INTERFACE) r.2 ∙ plain

  object_plain : is_interface classes OBJECT ≡ false
  object_plain = plain_by 0 (slice_get system_classes 0) refl refl

  string_plain : is_interface classes STRING ≡ false
  string_plain = plain_by 3 (slice_get system_classes 3) refl refl

  throwable_plain : is_interface classes THROWABLE ≡ false
  throwable_plain = plain_by 9 (slice_get system_classes 9) refl refl

  -- ---- Types are read without interfaces.

  class_read : (c : ClassId) (b : Bool) → is_interface classes c ≡ b → is_interface classes (if b then OBJECT else c) ≡ false
  class_read c true e = object_plain
  class_read c false e = e

  base_read : (base : BaseRef) → is_marked (is_interface classes) (erased_base classes base) ≡ false
  base_read (Base.Class c) = class_read c (is_interface classes c) refl
  base_read base = refl

  type_read : (t : TypeRef) → IsPlain (is_interface classes) (of_type classes t)
  type_read t = base_read t.base

  base_value_read : (base : BaseRef) → IsPlain (is_interface classes) (base_value classes base)
  base_value_read Base.Long = tt
  base_value_read (Base.Class c) = type_read (array_type 0 (Base.Class c))
  base_value_read base = tt

  dims_value_read : (dims : ℕ) (base : BaseRef) → IsPlain (is_interface classes) (dims_value classes dims base)
  dims_value_read zero base = base_value_read base
  dims_value_read (suc dims) base = type_read (array_type (suc dims) base)

  value_read : (t : TypeRef) → IsPlain (is_interface classes) (value_of classes t)
  value_read t = dims_value_read t.dims t.base

  values_read : (ts : List TypeRef) → AllByRecursion (IsPlain (is_interface classes)) (map (value_of classes) ts)
  values_read [] = tt
  values_read (t ∷ ts) = (value_read t, values_read ts)

  results_read : (o : Option TypeRef)
      → AllByRecursion (IsPlain (is_interface classes)) (option_map_or (λ (t : TypeRef). value_of classes t ∷ []) o [])
  results_read None = tt
  results_read (Some t) = (value_read t, tt)

  caught_read : (o : Option ClassId)
      → IsPlain (is_interface classes) (elim o as (λ _. VType) [ Some c ↦ of_class classes c | None ↦ throwable ])
  caught_read None = throwable_plain
  caught_read (Some c) = type_read (array_type 0 (Base.Class c))

-- ---- Scopes.

module _ (s : CodeScope) (system : AreSystemRecords (take (length system_classes) s.classes)) where
  pushes_read : PushesPlain s (is_interface s.classes)
  pushes_read =
      record {
        own = type_read s.classes system (array_type 0 (Base.Class s.self));
        text = string_plain s.classes system;
        types = λ i t dims leads. type_read s.classes system (array_type dims t.base);
        fields = λ i c m field uses. value_read s.classes system field.kind;
        results = λ i c m method uses. results_read s.classes system method.result;
        constructed = λ i c m method uses. type_read s.classes system (array_type 0 (Base.Class c));
      }

  begins_read : BeginsPlain s (is_interface s.classes)
  begins_read =
      record {
        parameters = values_read s.classes system s.method.params;
        caught = λ h is. caught_read s.classes system h.class;
      }

-- ---- What is below an interface.

parent_is : (o : Option ClassId) (p : ClassId) → option_map_or (λ (q : ClassId). q ∷ []) o [] ≡ p ∷ [] → o ≡ Some p
parent_is None p e = absurd cc
parent_is (Some q) p e = let same : q ≡ p = cc in ap (λ (c : ClassId). Some c) same

parent_by : (o : Option ClassRecord) (p : ClassId)
    → option_map_or (λ (r : ClassRecord). option_map_or (λ q. q ∷ []) r.parent []) o [] ≡ p ∷ []
    → (r : ClassRecord) × (o ≡ Some r) × (r.parent ≡ Some p)
parent_by None p e = absurd cc
parent_by (Some r) p e = (r, refl, parent_is r.parent p e)

interface_by : (o : Option ClassRecord) → is_interface_record o ≡ true → (r : ClassRecord) × (o ≡ Some r) × IsTrue (has r.flags INTERFACE)
interface_by None e = absurd cc
interface_by (Some r) e = (r, refl, e)

module _ (classes : List ClassRecord) (ordered : AreOrdered classes) (parents : HaveClassParents classes) where
  below_interface : (h : ℕ) (a b : ClassId) → a.0 < h → Contains (superclasses classes a) b → is_interface classes b ≡ true → is_interface classes a ≡ true
  below_interface zero a b low above e = absurd (omega arith)
  below_interface (suc h) a b low above e = elim (superclasses-cases classes ordered a b above) [
    | inl same ↦ rw same e
    | inr (p, only, higher) ↦
        let (r, is, parent) = parent_by (record_of classes a) p only in
        let lower = parent-lower classes ordered a p only in
        let up = below_interface h p b (omega arith) higher e in
        absurd (parents a p r is parent (interface_by (record_of classes p) up))
  ]

  module _ (system : AreSystemRecords (take (length system_classes) classes)) where
    marks_interfaces : AreMarks classes (is_interface classes)
    marks_interfaces =
        record {
          object = object_plain classes system;
          below = λ a b above e. below_interface (a.0 + 1) a b (omega arith) above e;
        }

-- ---- Least typings.

plain-interface : (classes : List ClassRecord) (c : ClassId) → is_interface classes c ≡ false → IsInterface classes c → ⊥
plain-interface classes c e (r, is, flagged) =
    false≢true (sym e ∙ ap (λ (o : Option ClassRecord). is_interface_record o) is ∙ flagged)

base_erased : (classes : List ClassRecord) (base : BaseRef) → is_marked (is_interface classes) base ≡ false → IsErasedBase classes base
base_erased classes (Base.Class c) e = plain-interface classes c e
base_erased classes base e = tt

type_erased : (classes : List ClassRecord) (v : VType) → IsPlain (is_interface classes) v → IsErasedType classes v
type_erased classes (Ref t) h = base_erased classes t.base h
type_erased classes v h = tt

pub least-erased : (classes : List ClassRecord) (m : MemberId) (frames : List (Option FrameType)) (place : ℕ) (f : FrameType)
    → AreOrdered classes → AreSystemRecords (take (length system_classes) classes) → HaveClassParents classes
    → IsLeastTyping classes m frames → FrameAt frames place f → IsErasedFrame classes f
least-erased classes m frames place f ordered system parents least at =
    let s : CodeScope = least.typing.scope in
    let same : s.classes ≡ classes = least.typing.scope_is.all in
    let system_here : AreSystemRecords (take (length system_classes) s.classes) =
    subst (λ all. AreSystemRecords (take (length system_classes) all)) (sym same) system in
    let pushes : PushesPlain s (is_interface classes) = subst (λ all. PushesPlain s (is_interface all)) same (pushes_read s system_here) in
    let begins : BeginsPlain s (is_interface classes) = subst (λ all. BeginsPlain s (is_interface all)) same (begins_read s system_here) in
    let plain : IsPlainFrame (is_interface classes) f =
    least-plain classes m frames least.typing (is_interface classes) (marks_interfaces classes ordered parents system) ordered pushes begins
    least.least place f at in
    record {
      locals = all_weaker (IsPlain (is_interface classes)) (IsErasedType classes) f.locals (type_erased classes) plain.0;
      stack = all_weaker (IsPlain (is_interface classes)) (IsErasedType classes) f.stack (type_erased classes) plain.1;
    }
