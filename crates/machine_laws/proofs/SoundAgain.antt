-- The classes with those of an accepted folder keep what steps rest on, field by field.
use Rattle.std.proofs.Common.{◌≡◌, ◌≢◌, ℕ, ◌+◌, ◌<◌, ◌≤◌, inl, inr, IsTrue, List, [], ◌∷◌, ◌++◌, length, Option, Some, None, Contains, refl, sym, ap, subst, ◌∙◌, arith}
use Rattle.std.proofs.lemmas.Bool.{cases_lt}
use Rattle.std.proofs.lemmas.List.{take-append-le}
use Rattle.std.proofs.lemmas.Option.{none-some}
use Rattle.std.specs.Prelude.{IsFalse}
use Rattle.list_lemmas.proofs.ItemsByPlace.{item_there, slice_get-in_take}
use Rattle.list_lemmas.proofs.ItemsOfLists.{place_of, Contains-none}
use Rattle.jk_model.specs.Flags.{has, ABSTRACT, INTERFACE, STATIC}
use Rattle.jk_model.specs.SystemTable.{system_classes}
use Rattle.jk_model.specs.declared.identifiers.ClassId.{ClassId}
use Rattle.jk_model.specs.declared.identifiers.DomainId.{DomainId}
use Rattle.jk_model.specs.declared.identifiers.MemberId.{MemberId}
use Rattle.jk_model.specs.declared.instructions.Instr.{Instr}
use Rattle.jk_model_classes.specs.Classes.{record_of, AreOrdered, IsInterface, OBJECT, field_walk, method_walk}
use Rattle.jk_model_classes.specs.Lookups.{FieldIs, MethodIs}
use Rattle.jk_model_classes.specs.Members.{CLINIT, INIT}
use Rattle.jk_model_classes.specs.SystemRecords.{AreSystemRecords}
use Rattle.jk_model_classes.specs.Worlds.{NamedClass, WorldRecord}
use Rattle.jk_model_classes.specs.declared.records.ClassRecord.{ClassRecord}
use Rattle.jk_model_classes.specs.declared.records.FieldRecord.{FieldRecord}
use Rattle.jk_model_classes.specs.declared.records.Link.{Link}
use Rattle.jk_model_classes.specs.declared.records.LinkedCode.{LinkedCode}
use Rattle.jk_model_classes.specs.declared.records.MethodRecord.{MethodRecord}
use Rattle.jk_model_classes.specs.declared.records.TypeRef.{TypeRef}
use Rattle.jk_model_classes.specs.declared.sharing.Offer.{Offer}
use Rattle.jk_model_classes.specs.declared.sharing.Stub.{Stub}
use Rattle.jk_model_typing.specs.Scopes.{CodeScope, IsScopeOf, is_static}
use Rattle.jk_model_typing.specs.Typing.{IsLeastTyping}
use Rattle.jk_model_typing.specs.declared.frames.FrameType.{FrameType}
use Rattle.jk_model_folders.specs.FolderRules.{link_scope}
use Rattle.jk_model_folders.specs.LinkedClasses.{IsEntryType}
use Rattle.jk_model_folders.specs.Loads.{Loads, MayLoad}
use Rattle.jk_model_folders.specs.declared.files.FolderFiles.{FolderFiles}
use Rattle.class_growth.proofs.MoreClasses.{record-kept, has_class-by_record, is_interface-before, is_interface-still}
use Rattle.class_growth.proofs.ScopesKept.{scope-before}
use Rattle.class_growth.specs.ScopesOver.{among}
use Rattle.erased_typings.proofs.LeastKept.{least-stays}
use Rattle.system_facts.specs.ClosedClasses.{IsClosedClass}
use Rattle.system_facts.specs.SystemTypes.{HaveSystemClasses}
use Rattle.heap_laws.specs.NamedWell.{NamesWell}
use Rattle.heap_laws.specs.SoundCodes.{IsRunnable, IsDecoded, SuitsType, AreSoundCodes}
use Rattle.sound_folders.proofs.FoundByLinks.{type-found}
use Rattle.sound_folders.proofs.NewClasses.{all, added, system_few}
use Rattle.sound_folders.proofs.SoundAgain.{AreTyped}
use Rattle.sound_folders.specs.LinkedWorlds.{AreLinked}
use Rattle.machine_laws.proofs.BodiesOfMethods.{runs, own_code, no_system_body, decoded}
use Rattle.machine_laws.proofs.ConstantsOfFields.{constant_suits}
use Rattle.machine_laws.proofs.FlagsOfMembers.{HaveOneMark, interface_field, interface_method, static_method, one_mark, clinit_flags}
use Rattle.machine_laws.proofs.LinkedAgain.{linked_new, sound_table}
use Rattle.machine_laws.proofs.NamesOfNewCode.{new_names}
use Rattle.machine_laws.proofs.NamesStay.{names_stay}
use Rattle.machine_laws.proofs.NewMembers.{IsNew, IsNewMethod, class_cases, field_cases, method_cases, method_of, new_class}
use Rattle.machine_laws.proofs.ParentsOfClasses.{has_parent, class_parent, open_parent, interface_parent, listed_interface}
use Rattle.machine_laws.proofs.TypesOfMethods.{few_params, constructor_result, clinit_types}
use Rattle.machine_laws.specs.SoundFolders.{AreSound, AcceptsFiles}
use Rattle.jk_model_classes.specs.declared.records.Body.TheVariants as Does
use Rattle.jk_model_classes.specs.declared.records.Link.TheVariants as To

module _ {f : FolderFiles} {w : WorldRecord} {into : List ℕ} {first : ClassId} {table : List NamedClass} {offers : List Offer} {stubs : List Stub}
    {new : WorldRecord} (l : Loads f w into first table offers stubs new) where
  -- no type that an entry says has more dimensions than a class file can say
  dims_by : (self : ClassId) (units : List ℕ) (t : TypeRef) → IsEntryType (link_scope l.placed self) units t → t.dims ≤ 255
  dims_by self units t (inl (simple, (class, meant, e))) = subst (λ (x : TypeRef). x.dims ≤ 255) (sym e) (omega arith)
  dims_by self units t (inr (type, dims, text, fits)) = omega (arith, fits.0, text.0.0)

  few_dimensions_new : (c : ClassId) (r : ClassRecord) (n : IsNew l c r) (t : TypeRef) → Contains r.links (To.Class t) → t.dims ≤ 255
  few_dimensions_new c r n t on =
      let place = place_of r.links (To.Class t) on in
      let self : ClassId = record { 0 = length w.classes + n.k } in
      let (units, at, is) = type-found (link_scope l.placed self) n.own.file r.links n.own.links place.0 t place.1 in
      dims_by self units t is

  module _ (may : MayLoad w) (tables : List (List NamedClass)) (sound : AreSound w.classes tables)
      (linked : AreLinked w.classes tables) (ordered : AreOrdered (all l)) where
    system_again : HaveSystemClasses (all l)
    system_again =
        subst AreSystemRecords (sym (take-append-le (length system_classes) w.classes (added l) (system_few l may))) sound.codes.system

    low_of : (c : ClassId) (r : ClassRecord) → record_of w.classes c ≡ Some r → c.0 < length w.classes
    low_of c r is = has_class-by_record w.classes c r is

    marks_again : HaveOneMark (all l)
    marks_again m method is private = elim (method_cases l m method is) [
      | inl old ↦ sound.codes.private_methods m method old private
      | inr n ↦ one_mark l m method n private
    ]

    -- ---- Classes.

    of_system_again : (c : ClassId) (r : ClassRecord) → record_of (all l) c ≡ Some r → r.home ≡ None → c.0 < length system_classes
    of_system_again c r is none = elim (class_cases l c r is) [
      | inl old ↦ sound.codes.of_system c r old none
      | inr n ↦ absurd (none-some l.placed.home (sym none ∙ n.own.is_record.at_home))
    ]

    homed_again : (c : ClassId) (r : ClassRecord) → record_of (all l) c ≡ Some r → r.home ≢ None → (p : ClassId) × (r.parent ≡ Some p)
    homed_again c r is foreign = elim (class_cases l c r is) [
      | inl old ↦ sound.codes.homed c r old foreign
      | inr n ↦ has_parent l c r n
    ]

    class_parents_again : (c p : ClassId) (r : ClassRecord) → record_of (all l) c ≡ Some r → r.parent ≡ Some p → IsInterface (all l) p → ⊥
    class_parents_again c p r is parent interface = elim (class_cases l c r is) [
      | inl old ↦ sound.codes.class_parents c p r old parent
          (is_interface-before w.classes (added l) p ((linked.closed.each c r old).parent p parent) interface)
      | inr n ↦ class_parent l c r n may p parent interface
    ]

    open_parents_again : (c p : ClassId) (r : ClassRecord) → length system_classes ≤ c.0 → record_of (all l) c ≡ Some r → r.parent ≡ Some p
        → IsClosedClass p → ⊥
    open_parents_again c p r high is parent closed = elim (class_cases l c r is) [
      | inl old ↦ sound.codes.open_parents c p r high old parent closed
      | inr n ↦ open_parent l c r n may p parent closed
    ]

    interface_parents_again : (c : ClassId) (r : ClassRecord) → record_of (all l) c ≡ Some r → IsTrue (has r.flags INTERFACE) → r.parent ≡ Some OBJECT
    interface_parents_again c r is flag = elim (class_cases l c r is) [
      | inl old ↦ sound.codes.interface_parents c r old flag
      | inr n ↦ interface_parent l c r n flag
    ]

    listed_again : (c i : ClassId) (r : ClassRecord) → record_of (all l) c ≡ Some r → Contains r.interfaces i → IsInterface (all l) i
    listed_again c i r is on = elim (class_cases l c r is) [
      | inl old ↦ is_interface-still w.classes (added l) i (sound.codes.listed_interfaces c i r old on)
      | inr n ↦ listed_interface l c r n may i on
    ]

    -- ---- Fields and methods.

    interface_fields_again : (m : MemberId) (field : FieldRecord) → IsInterface (all l) m.class → FieldIs (all l) m field → IsTrue (has field.flags STATIC)
    interface_fields_again m field interface is = elim (field_cases l m field is) [
      | inl old ↦ sound.codes.interface_fields m field (is_interface-before w.classes (added l) m.class (low_of m.class old.0 old.1) interface) old
      | inr n ↦ interface_field l m field n interface
    ]

    constants_again : (m : MemberId) (field : FieldRecord) → FieldIs (all l) m field → SuitsType field.kind field.constant
    constants_again m field is = elim (field_cases l m field is) [
      | inl old ↦ sound.codes.constants m field old
      | inr n ↦ constant_suits l m field n
    ]

    interface_methods_again : (m : MemberId) (method : MethodRecord) → IsInterface (all l) m.class → MethodIs (all l) m method
        → method.name ≢ CLINIT → IsTrue (has method.flags ABSTRACT)
    interface_methods_again m method interface is differ = elim (method_cases l m method is) [
      | inl old ↦ sound.codes.interface_methods m method (is_interface-before w.classes (added l) m.class (low_of m.class old.0 old.1) interface) old differ
      | inr n ↦ interface_method l m method n interface differ
    ]

    static_methods_again : (m : MemberId) (method : MethodRecord) → MethodIs (all l) m method → IsTrue (is_static method)
        → IsFalse (has method.flags ABSTRACT)
    static_methods_again m method is static = elim (method_cases l m method is) [
      | inl old ↦ sound.codes.static_methods m method old static
      | inr n ↦ static_method l m method n static
    ]

    bodies_again : (m : MemberId) (method : MethodRecord) → MethodIs (all l) m method → IsFalse (has method.flags ABSTRACT) → IsRunnable method.body
    bodies_again m method is concrete = elim (method_cases l m method is) [
      | inl old ↦ sound.codes.bodies m method old concrete
      | inr n ↦ runs l m method n concrete
    ]

    system_bodies_again : (m : MemberId) (method : MethodRecord) (r : ClassRecord) (n : ℕ) → MethodIs (all l) m method
        → record_of (all l) m.class ≡ Some r → method.body ≡ Does.System n → r.home ≡ None
    system_bodies_again m method r k is there body = elim (method_cases l m method is) [
      | inl old ↦ sound.codes.system_bodies m method r k old
          (sym (record-kept w.classes (added l) m.class (low_of m.class old.0 old.1)) ∙ there) body
      | inr n ↦ absurd (no_system_body l m method n k body)
    ]

    initialisers_again : (m : MemberId) (method : MethodRecord) → MethodIs (all l) m method → method.name ≡ CLINIT
        → ((code : LinkedCode) × (method.body ≡ Does.Linked code)) × IsTrue (is_static method) × (method.params ≡ []) × (method.result ≡ None)
    initialisers_again m method is named = elim (method_cases l m method is) [
      | inl old ↦ sound.codes.initialisers m method old named
      | inr n ↦
          let flags = clinit_flags l m method n named in
          let types = clinit_types l m method n named in (
            own_code l m method n (subst (λ (x : ℕ). IsFalse (has x ABSTRACT)) (sym flags) refl),
            subst (λ (x : ℕ). IsTrue (has x STATIC)) (sym flags) refl,
            types.0,
            types.1,
          )
    ]

    constructors_again : (m : MemberId) (method : MethodRecord) → MethodIs (all l) m method → method.name ≡ INIT → method.result ≡ None
    constructors_again m method is named = elim (method_cases l m method is) [
      | inl old ↦ sound.codes.constructors m method old named
      | inr n ↦ constructor_result l m method n named
    ]

    few_params_again : (m : MemberId) (method : MethodRecord) → MethodIs (all l) m method → length method.params ≤ 255
    few_params_again m method is = elim (method_cases l m method is) [
      | inl old ↦ sound.codes.few_params m method old
      | inr n ↦ few_params l m method n
    ]

    -- ---- What entries lead to.

    no_link : (c : ClassId) (r : ClassRecord) (link : Link) → record_of (all l) c ≡ Some r → r.home ≡ None → Contains r.links link → ⊥
    no_link c r link is none on =
        let low = of_system_again c r is none in
        let entry = item_there system_classes c.0 low in
        let said = system_again.each c.0 entry.0 r entry.1 (slice_get-in_take (all l) (length system_classes) c.0 r low is) in
        Contains-none link (subst (λ (xs : List Link). Contains xs link) said.links on)

    found_fields_again : (c named : ClassId) (r : ClassRecord) (m : MemberId) → record_of (all l) c ≡ Some r → Contains r.links (To.Field named m)
        → Contains (field_walk (all l) named) m.class
    found_fields_again c named r m is on = by r.home refl
      where
        by : (home : Option DomainId) → r.home ≡ home → Contains (field_walk (all l) named) m.class
        by None e = absurd (no_link c r (To.Field named m) is e on)
        by (Some d) e =
            (((linked_new l may tables sound linked ordered).around c r is (λ none. none-some d (sym none ∙ e))).fields named m on).1

    found_methods_again : (c named : ClassId) (r : ClassRecord) (m : MemberId) → record_of (all l) c ≡ Some r → Contains r.links (To.Method named m)
        → Contains (method_walk (all l) named) m.class
    found_methods_again c named r m is on = by r.home refl
      where
        by : (home : Option DomainId) → r.home ≡ home → Contains (method_walk (all l) named) m.class
        by None e = absurd (no_link c r (To.Method named m) is e on)
        by (Some d) e =
            (((linked_new l may tables sound linked ordered).around c r is (λ none. none-some d (sym none ∙ e))).methods named m on).1

    few_dimensions_again : (c : ClassId) (r : ClassRecord) (t : TypeRef) → record_of (all l) c ≡ Some r → Contains r.links (To.Class t) → t.dims ≤ 255
    few_dimensions_again c r t is on = elim (class_cases l c r is) [
      | inl old ↦ sound.codes.few_dimensions c r t old on
      | inr n ↦ few_dimensions_new c r n t on
    ]

    -- ---- Code.

    module _ (m : MemberId) (s : CodeScope) (scope : IsScopeOf (all l) m s) where
      before : m.class.0 < length w.classes → IsScopeOf w.classes m (among s w.classes)
      before low = scope-before w.classes (added l) m s low scope

      new_method : length w.classes ≤ m.class.0 → IsNewMethod l m s.method
      new_method high = method_of l m s.method scope.class scope.class_is (new_class l m.class scope.class high scope.class_is) scope.method

      decoded_again : IsDecoded s.code
      decoded_again = elim (cases_lt m.class.0 (length w.classes)) [
        | inl low ↦ sound.codes.decoded m (among s w.classes) (before low)
        | inr high ↦ decoded l m s.method (new_method high) s.code scope.body
      ]

      typed_again : AreTyped first (all l) → (frames : List (Option FrameType)) × IsLeastTyping (all l) m frames
      typed_again typed = elim (cases_lt m.class.0 (length w.classes)) [
        | inl low ↦
            let least = sound.codes.typed m (among s w.classes) (before low) in
            (least.0, least-stays w.classes (added l) m least.0 ordered linked.closed (system_few l may) least.1)
        | inr high ↦ typed m s scope (omega (arith, high, l.first_is))
      ]

      names_again : (i : Instr) → Contains s.code.instrs i → NamesWell s i
      names_again i on = elim (cases_lt m.class.0 (length w.classes)) [
        | inl low ↦
            names_stay w.classes (added l) linked.closed m s low scope i (sound.codes.names m (among s w.classes) i (before low) on)
        | inr high ↦ new_names l may marks_again m s scope high i on
      ]

    codes_again : AreTyped first (all l) → AreSoundCodes (all l)
    codes_again typed =
        record {
          ordered = ordered;
          system = system_again;
          of_system = of_system_again;
          homed = homed_again;
          class_parents = class_parents_again;
          open_parents = open_parents_again;
          interface_parents = interface_parents_again;
          listed_interfaces = listed_again;
          interface_fields = interface_fields_again;
          interface_methods = interface_methods_again;
          constants = constants_again;
          static_methods = static_methods_again;
          private_methods = marks_again;
          bodies = bodies_again;
          system_bodies = system_bodies_again;
          initialisers = initialisers_again;
          constructors = constructors_again;
          few_params = few_params_again;
          found_fields = found_fields_again;
          found_methods = found_methods_again;
          few_dimensions = few_dimensions_again;
          decoded = decoded_again;
          typed = λ m s scope. typed_again m s scope typed;
          names = λ m s i scope on. names_again m s scope i on;
        }

    pub sound_again : AreTyped first (all l) → AreSound (all l) (tables ++ table ∷ [])
    sound_again typed = record { codes = codes_again typed; each = sound_table l may tables sound linked ordered }

-- ---- With what an accepted folder gives.

module _ {f : FolderFiles} {old : WorldRecord} {into : List ℕ} {first : ClassId} {table : List NamedClass} {offers : List Offer}
    {stubs : List Stub} {new : WorldRecord} (a : AcceptsFiles f old into first table offers stubs new) (tables : List (List NamedClass))
    (sound : AreSound old.classes tables) (linked : AreLinked old.classes tables) where
  same : new.classes ≡ all a.loads
  same = ap (λ (x : WorldRecord). x.classes) a.loads.world ∙ a.loads.is_placed.classes

  ordered_all : AreOrdered (all a.loads)
  ordered_all = subst AreOrdered same a.ordered

  pub accepted_sound : AreSound new.classes (tables ++ table ∷ [])
  accepted_sound =
      subst (λ (xs : List ClassRecord). AreSound xs (tables ++ table ∷ [])) (sym same)
      (sound_again a.loads a.may tables sound linked ordered_all (subst (λ (xs : List ClassRecord). AreTyped first xs) same a.typed))

  pub accepted_linked : AreLinked new.classes (tables ++ table ∷ [])
  accepted_linked =
      subst (λ (xs : List ClassRecord). AreLinked xs (tables ++ table ∷ [])) (sym same)
      (linked_new a.loads a.may tables sound linked ordered_all)
