-- A receiver fits the class of the method that is called at it, and `this` of a constructor, since no method of the system has code.
use Rattle.std.proofs.Common.{inl, inr, ◌≡◌, ◌+◌, ◌<◌, ◌≤◌, List, length, refl, sym, subst, ◌∙◌, arith}
use Rattle.std.proofs.lemmas.Bool.{cases_lt}
use Rattle.std.proofs.lemmas.Option.{slice_get_within}
use Rattle.list_lemmas.proofs.ItemsByPlace.{item_there}
use Rattle.model_lemmas.proofs.SameNumbers.{same_class}
use Rattle.jk_model.specs.SystemTable.{system_classes}
use Rattle.jk_model.specs.declared.identifiers.ClassId.{ClassId}
use Rattle.jk_model.specs.declared.identifiers.MemberId.{MemberId}
use Rattle.jk_model.specs.declared.values.Value.{Value}
use Rattle.jk_model.specs.declared.values.Value.TheVariants as Held
use Rattle.jk_model_classes.specs.declared.records.Body.TheVariants as Does
use Rattle.jk_model_classes.specs.declared.records.ClassRecord.{ClassRecord}
use Rattle.jk_model_classes.specs.declared.records.LinkedCode.{LinkedCode}
use Rattle.jk_model_classes.specs.declared.records.MethodRecord.{MethodRecord}
use Rattle.jk_model_classes.specs.Classes.{IsSubclass, OBJECT}
use Rattle.jk_model_classes.specs.Lookups.{MethodIs}
use Rattle.jk_model_typing.specs.declared.frames.VType.TheVariants.{FreshThis}
use Rattle.jk_model_typing.specs.FrameTypes.{RefFits, STRING, array_type, erased, of_class}
use Rattle.jk_model_typing.specs.Scopes.{CodeScope}
use Rattle.jk_model_domains.specs.Objects.{NamedObject, Object, Array, Plain, Task, Text, CAPABILITY, TASK, class_type, type_of}
use Rattle.jk_model_domains.specs.ValueTypes.{ObjectFits, ValueFits}
use Rattle.jk_model_heaps.specs.Instances.{RunsAs, run_class}
use Rattle.class_lemmas.proofs.CodeOfMethods.{system_has_none}
use Rattle.class_table.proofs.StandingAbove.{superclasses-lower}
use Rattle.heap_laws.specs.SoundCodes.{AreSoundCodes}
use Rattle.system_facts.proofs.SystemEntries.{entry_of, method_entry}
use Rattle.row_laws.proofs.InstancesFitTypes.{class_fits, instance_fits}

-- a method with code is of no system class
pub of_a_folder : (classes : List ClassRecord) → AreSoundCodes classes → (m : MemberId) (method : MethodRecord) (code : LinkedCode)
    → MethodIs classes m method → method.body ≡ Does.Linked code → length system_classes ≤ m.class.0
of_a_folder classes sound m method code (r, is, at) body = elim (cases_lt m.class.0 (length system_classes)) [
  | inr above ↦ above
  | inl low ↦
      let entry = item_there system_classes m.class.0 low in
      let said = entry_of classes sound.system m.class entry.0 r entry.1 is in
      let listed = item_there entry.0.methods m.index (omega (arith, slice_get_within r.methods m.index method at, said.method_count)) in
      let same = method_entry classes sound.system m entry.0 listed.0 method entry.1 listed.1 (r, is, at) in
      absurd (system_has_none _ code (sym same.body ∙ body))
]

module _ (s : CodeScope) (heap : List NamedObject) (sound : AreSoundCodes s.classes) where
  -- an object fits each class above the one at which methods are looked for
  object_fits : (o : Object) (d : ClassId) → IsSubclass s.classes (run_class o) d → RefFits s.classes (type_of o) (erased s.classes (class_type d))
  object_fits (Plain c fields) d below = class_fits s.classes sound c d below
  object_fits (Array element items) d below =
      let low = superclasses-lower s.classes sound.ordered OBJECT d below in
      let object : OBJECT ≡ d = same_class OBJECT d (omega (arith, low)) in
      subst (λ (c : ClassId). RefFits s.classes (array_type (element.dims + 1) element.base) (erased s.classes (class_type c))) object
      (instance_fits s.classes sound (array_type (element.dims + 1) element.base) (class_type OBJECT) (inr (inr (omega arith, inl refl))))
  object_fits (Text units) d below = class_fits s.classes sound STRING d below
  object_fits (Task n) d below = class_fits s.classes sound TASK d below

  pub receiver_fits : (v : Value) (c d : ClassId) → RunsAs heap v c → IsSubclass s.classes c d → ValueFits s heap v (of_class s.classes d)
  receiver_fits (Held.Obj a) c d (o, is, run) below =
      (o, is, object_fits o d (subst (λ (x : ClassId). IsSubclass s.classes x d) run below))
  receiver_fits (Held.Cap k) c d run below = class_fits s.classes sound CAPABILITY d (subst (λ (x : ClassId). IsSubclass s.classes x d) run below)
  receiver_fits (Held.Int n) c d run below = absurd run
  receiver_fits (Held.Long n) c d run below = absurd run
  receiver_fits Held.Null c d run below = absurd run
  receiver_fits Held.Unset c d run below = absurd run

  -- nothing of a system class stands below a class of a folder
  none_below : (c : ClassId) → length system_classes ≤ s.self.0 → c.0 < length system_classes → IsSubclass s.classes c s.self → ⊥
  none_below c high low below = omega (arith, high, low, superclasses-lower s.classes sound.ordered c s.self below)

  object_begins : (o : Object) → length system_classes ≤ s.self.0 → IsSubclass s.classes (run_class o) s.self → ObjectFits s o FreshThis
  object_begins (Plain c fields) high below = (c, (fields, refl), below)
  object_begins (Array element items) high below = absurd (none_below OBJECT high (omega arith) below)
  object_begins (Text units) high below = absurd (none_below STRING high (omega arith) below)
  object_begins (Task n) high below = absurd (none_below TASK high (omega arith) below)

  pub receiver_begins : (v : Value) (c : ClassId) → length system_classes ≤ s.self.0 → RunsAs heap v c → IsSubclass s.classes c s.self
      → ValueFits s heap v FreshThis
  receiver_begins (Held.Obj a) c high (o, is, run) below =
      (o, is, object_begins o high (subst (λ (x : ClassId). IsSubclass s.classes x s.self) run below))
  receiver_begins (Held.Cap k) c high run below =
      absurd (none_below CAPABILITY high (omega arith) (subst (λ (x : ClassId). IsSubclass s.classes x s.self) run below))
  receiver_begins (Held.Int n) c high run below = absurd run
  receiver_begins (Held.Long n) c high run below = absurd run
  receiver_begins Held.Null c high run below = absurd run
  receiver_begins Held.Unset c high run below = absurd run
