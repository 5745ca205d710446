-- What is known of the `main` that a start finds: its class is among the domain's names, it takes one array of texts, and a frame that begins it with such
-- an array fits, also while it needs a class first.
use Rattle.std.proofs.Common.{inl, inr, ◌≡◌, ℕ, ◌-◌, ◌≤◌, List, [], ◌∷◌, length, replicate, Option, Some, None, Contains, codes, refl, sym, ap, subst, ◌∙◌, arith}
use Rattle.std.specs.List.{AllByRecursion}
use Rattle.std.proofs.lemmas.Bool.{and_parts}
use Rattle.std.proofs.lemmas.Option.{same_Some}
use Rattle.class_lemmas.proofs.OneRecord.{one_method}
use Rattle.descriptors.proofs.NoTextBeginsAnother as Texts
use Rattle.jk_model.specs.Flags.{has, PUBLIC, STATIC}
use Rattle.jk_model.specs.declared.descriptors.Base.TheVariants as Said
use Rattle.jk_model.specs.declared.descriptors.FieldType.{FieldType}
use Rattle.jk_model.specs.declared.descriptors.MethodType.{MethodType}
use Rattle.jk_model.specs.declared.identifiers.ClassId.{ClassId}
use Rattle.jk_model.specs.declared.identifiers.MemberId.{MemberId}
use Rattle.jk_model.specs.declared.values.Value.{Value}
use Rattle.jk_model.specs.declared.values.Value.TheVariants as Held
use Rattle.jk_model.specs.Descriptors.{IsMethodText}
use Rattle.jk_model_classes.specs.declared.records.BaseRef.TheVariants as Base
use Rattle.jk_model_classes.specs.declared.records.ClassRecord.{ClassRecord}
use Rattle.jk_model_classes.specs.declared.records.LinkedCode.{LinkedCode}
use Rattle.jk_model_classes.specs.declared.records.MethodRecord.{MethodRecord}
use Rattle.jk_model_classes.specs.declared.records.TypeRef.{TypeRef}
use Rattle.jk_model_classes.specs.Classes.{OBJECT, method_walk, record_of}
use Rattle.jk_model_classes.specs.Lookups.{IsFirstOn, IsMethodOf}
use Rattle.jk_model_classes.specs.SystemRecords.{AreTypesFor}
use Rattle.jk_model_classes.specs.Worlds.{IsNamed, NamedClass, class_named}
use Rattle.jk_model_typing.specs.FrameTypes.{STRING, array_type}
use Rattle.jk_model_frames.specs.Frames.{FrameState, as_locals, called_frame, locals_of}
use Rattle.jk_model_domains.specs.Objects.{NamedObject}
use Rattle.jk_model_heaps.specs.CalledFrames.{call_head}
use Rattle.jk_model_sealing.specs.FittingFrames.{FitsAsTop}
use Rattle.jk_model_sealing.specs.SealedInsides.{IsKnownValue, Surroundings}
use Rattle.jk_model_sealing.specs.SealedRuns.{AreSealedFrames}
use Rattle.jk_model_machine_state.specs.Machines.{DomainState, Machine}
use Rattle.jk_model_runs.specs.Sealed.{surroundings}
use Rattle.jk_model_runs.specs.Starts.{IsMain}
use Rattle.list_lemmas.proofs.ItemsByPlace.{mapped_at}
use Rattle.list_lemmas.proofs.ItemsOfLists.{Contains-at, place_of}
use Rattle.list_lemmas.proofs.LastItems.{each-append}
use Rattle.model_lemmas.proofs.NamesByTest.{string_name}
use Rattle.heap_laws.specs.FittingOutcomes.{AreOfTypes, IsOfType}
use Rattle.heap_laws.specs.SoundTables.{IsSoundTable}
use Rattle.row_laws.proofs.BegunMethods.{called_fits, given_fits}
use Rattle.row_laws.proofs.NamesStayKnown.{unset-known}
use Rattle.sound_folders.proofs.NamesOfTables.{meant-from, system_meant}
use Rattle.sound_folders.proofs.WalksWithin.{StandsWithin, method_walk-within}
use Rattle.sound_folders.specs.NamesAndTypes.{HasOwnNames}
use Rattle.system_facts.proofs.SystemEntries.{entry_of}
use Rattle.system_facts.specs.SystemTypes.{HaveSystemClasses}
use Rattle.machine_laws.specs.SoundMachines.{HasSoundClasses, tables_of}

-- ---- Its type: one parameter, an array of texts, and no result.

abbrev texts : FieldType
texts = record { dims = 1; base = Said.Class (codes "java/lang/String") }

abbrev type_of_main : MethodType
type_of_main = record { params = texts ∷ []; result = None }

few_dimensions : 1 ≤ 255
few_dimensions = omega arith

main_text : IsMethodText (codes "([Ljava/lang/String;)V") type_of_main
main_text = ((((few_dimensions, string_name), tt), tt), refl)

abbrev pub array_of_texts : TypeRef
array_of_texts = array_type 1 (Base.Class STRING)

one_array : (meaning : List ℕ → Option ClassId) (refs : List TypeRef) → AreTypesFor meaning (texts ∷ []) refs
    → meaning (codes "java/lang/String") ≡ Some STRING → refs ≡ array_of_texts ∷ []
one_array meaning [] are is = let many : length {A = TypeRef} [] ≡ length (texts ∷ []) = are.as_many in absurd (omega arith)
one_array meaning (ref ∷ []) are is =
    let each = are.each 0 texts ref refl refl in
    let same : each.1.0 ≡ STRING = same_Some each.1.0 STRING (sym each.1.1 ∙ is) in
    let base : ref.base ≡ Base.Class STRING = each.1.2 ∙ ap Base.Class same in
    λ i. array_type (each.0 i) (base i) ∷ []
one_array meaning (ref ∷ other ∷ refs) are is =
    let many : length (ref ∷ other ∷ refs) ≡ length (texts ∷ []) = are.as_many in absurd (omega arith)

-- in each domain java/lang/String means the class of the system
string_meant : (classes : List ClassRecord) (table : List NamedClass) → HaveSystemClasses classes → IsSoundTable classes table
    → HasOwnNames classes table → class_named table (codes "java/lang/String") ≡ Some STRING
string_meant classes table system sound own =
    let knows = sound.knows_system STRING (omega arith) in
    let called = own.own knows.0 STRING knows.1 in
    let entry = system_meant (codes "java/lang/String") STRING refl in
    let said = entry_of classes system STRING entry.0 called.0 entry.1 called.1 in
    subst (λ (name : List ℕ). class_named table name ≡ Some STRING) (sym called.2 ∙ said.name ∙ entry.2) (meant-from table own.once knows.0 STRING knows.1)

-- ---- A frame that begins it, and needs a class first.

abbrev pub needing : ClassId → FrameState → FrameState
needing class f = record f { head = record f.head { need = Some class } }

module _ (m : Machine) (d : DomainState) (known : HasSoundClasses m) (on : Contains m.domains d) (class : ClassId) (main : MemberId) (code : LinkedCode)
    (is : IsMain m class main code) (named : IsNamed d.table class) where
  abbrev around : Surroundings
  around = surroundings m d

  table_there : Contains (tables_of m) d.table
  table_there =
      let at = place_of m.domains d on in
      Contains-at (tables_of m) at.0 d.table (mapped_at (λ (e : DomainState). e.table) m.domains at.0 d at.1)

  first : IsFirstOn (IsMethodOf m.classes (codes "main") is.type) (method_walk m.classes class) main
  first = is.found

  around_known : (c : ClassId) → IsNamed d.table c → (r : ClassRecord) → record_of m.classes c ≡ Some r → StandsWithin (IsNamed d.table) r
  around_known c knows r at =
      let there = (known.tables d on).closed c knows in
      subst (StandsWithin (IsNamed d.table)) (same_Some there.0 r (sym there.1 ∙ at))
      (record { parent = there.2.parent; interfaces = there.2.interfaces })

  pub main_named : IsNamed d.table main.class
  main_named =
      method_walk-within (IsNamed d.table) m.classes around_known ((known.tables d on).knows_system OBJECT (omega arith)) class main.class named
      (Contains-at (method_walk m.classes class) first.place main.class first.visited)

  kind_is : is.method.kind ≡ type_of_main
  kind_is =
      let suits = first.member.suits in
      ap (λ (x : MethodRecord). x.kind) (one_method m.classes main is.method suits.0 is.is_method suits.1)
      ∙ suits.3 ∙ Texts.one_method (codes "([Ljava/lang/String;)V") is.type type_of_main is.text main_text

  params_are : is.method.params ≡ array_of_texts ∷ []
  params_are =
      let said = known.linked.types d.table table_there main is.method is.is_method main_named in
      one_array (class_named d.table) is.method.params
      (subst (λ (kind : MethodType). AreTypesFor (class_named d.table) kind.params is.method.params) kind_is said.0)
      (string_meant m.classes d.table known.codes.system (known.tables d on) (known.linked.own_names d.table table_there))

  -- with this argument
  module _ (heap : List NamedObject) (a : Value) (typed : IsOfType around heap array_of_texts a)
      (room : length (locals_of (a ∷ [])) ≤ code.max_locals) where
    abbrev begun : FrameState
    begun = called_frame (call_head main code) (a ∷ [])

    begun_fits : FitsAsTop m.classes heap begun
    begun_fits =
        let flags = and_parts (has is.method.flags PUBLIC) (has is.method.flags STATIC) is.flags in
        let given : AreOfTypes around heap is.method.params (a ∷ []) =
        subst (λ (types : List TypeRef). AreOfTypes around heap types (a ∷ [])) (sym params_are) (typed, tt) in
        called_fits around known.codes heap main is.method code is.is_method is.body (a ∷ [])
        (given_fits around known.codes heap main is.method code is.is_method is.body (a ∷ []) (inl (flags.1, given))) begun (room, refl)

    needing_fits : FitsAsTop m.classes heap begun → FitsAsTop m.classes heap (needing class begun)
    needing_fits (inl empty) = let never : Some main ≡ None = empty.no_method in absurd cc
    needing_fits (inr (stands, (typing, holds))) =
        inr (
          inr ((λ none. cc), refl),
          (
            record {
              method = typing.method;
              is_method = typing.is_method;
              scope = typing.scope;
              is_scope = typing.is_scope;
              room = typing.room;
              frames = typing.frames;
              is_least = typing.is_least;
              type = typing.type;
              stands = typing.stands;
            },
            record { locals = holds.locals; stack = holds.stack },
          ),
        )

    locals_known : (v : Value) → IsKnownValue around.caps heap v → AllByRecursion (IsKnownValue around.caps heap) (as_locals v)
    locals_known (Held.Int n) h = (h, tt)
    locals_known (Held.Long n) h = (h, (tt, tt))
    locals_known Held.Null h = (h, tt)
    locals_known (Held.Obj o) h = (h, tt)
    locals_known (Held.Cap k) h = (h, tt)
    locals_known Held.Unset h = (h, tt)

    pub main_frames : AreSealedFrames around (FitsAsTop m.classes heap) heap (needing class begun ∷ [])
    main_frames = record {
      fit = needing_fits begun_fits;
      initialise = (inl (refl, λ none. cc), tt);
      at_home = ((main_named, named, tt), tt);
      known = (
        (
          each-append (IsKnownValue around.caps heap) (locals_of (a ∷ [])) (replicate (code.max_locals - length (locals_of (a ∷ []))) Held.Unset)
              (each-append (IsKnownValue around.caps heap) (as_locals a) [] (locals_known a typed.1) tt)
              (unset-known around.caps heap (code.max_locals - length (locals_of (a ∷ [])))),
          tt,
        ),
        tt,
      );
    }
