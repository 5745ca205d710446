-- The system classes alone are sound, by their table.
use Rattle.std.proofs.Common.{◌≡◌, ◌≢◌, ℕ, ◌≤◌, ◌<◌, inr, Bool, true, false, ◌&&◌, IsTrue, List, [], length, Option, Some, None, slice_get, Contains, refl, sym, ap, subst, ◌∙◌, arith, bytes_eq, eqb-true, take_all}
use Rattle.std.proofs.lemmas.Bool.{false≢true, leb-true}
use Rattle.std.proofs.lemmas.Option.{slice_get_within, same_Some}
use Rattle.std.proofs.lemmas.Slice.Eq.{bytes_eq-Decides}
use Rattle.std.specs.List.{list_all}
use Rattle.std.specs.Option.{option_map_or}
use Rattle.std.specs.Prelude.{◌||◌, ◌==◌, not, IsFalse, nat_le, option_map}
use Rattle.list_lemmas.proofs.ItemsByPlace.{item_there, mapped_at}
use Rattle.list_lemmas.proofs.ItemsOfLists.{place_of, passed_at, Contains-none}
use Rattle.list_lemmas.proofs.TestsAndOrders.{so_not}
use Rattle.model_lemmas.proofs.SameNumbers.{same_class}
use Rattle.jk_model.specs.Flags.{has, ABSTRACT, INTERFACE, PRIVATE, STATIC}
use Rattle.jk_model.specs.SystemTable.{SystemClass, SystemField, SystemMethod, system_classes, parent_number, interface_numbers, method_number}
use Rattle.jk_model.specs.declared.identifiers.ClassId.{ClassId}
use Rattle.jk_model.specs.declared.identifiers.MemberId.{MemberId}
use Rattle.jk_model_classes.specs.Classes.{record_of, IsInterface, OBJECT}
use Rattle.jk_model_classes.specs.Lookups.{FieldIs, MethodIs}
use Rattle.jk_model_classes.specs.Members.{CLINIT, INIT}
use Rattle.jk_model_classes.specs.SystemRecords.{AreSystemRecords, IsSystemRecord, IsSystemMethodAt}
use Rattle.jk_model_classes.specs.declared.records.ClassRecord.{ClassRecord}
use Rattle.jk_model_classes.specs.declared.records.FieldRecord.{FieldRecord}
use Rattle.jk_model_classes.specs.declared.records.Link.{Link}
use Rattle.jk_model_classes.specs.declared.records.MethodRecord.{MethodRecord}
use Rattle.jk_model_classes.specs.declared.records.TypeRef.{TypeRef}
use Rattle.jk_model_typing.specs.Scopes.{is_static}
use Rattle.erased_typings.proofs.SystemParents.{system_parents}
use Rattle.system_facts.proofs.TypesRead.{method_types-read}
use Rattle.system_facts.specs.DescriptorReader.{MethodTypes, method_types}
use Rattle.heap_laws.specs.SoundCodes.{AreSoundCodes, SuitsType}
use Rattle.sound_folders.proofs.FirstClasses.{entry-of, first-linked, first-sound, never_scope}
use Rattle.sound_folders.specs.LinkedWorlds.{AreLinked}
use Rattle.machine_laws.specs.SoundFolders.{AreSound}
use Rattle.jk_model_classes.specs.declared.records.Link.TheVariants as To

-- ---- Tests on entries of the table.

abbrev of_each_method : (SystemClass → SystemMethod → Bool) → SystemClass → Bool
of_each_method test c = list_all (test c) c.methods

abbrev of_each_field : (SystemClass → SystemField → Bool) → SystemClass → Bool
of_each_field test c = list_all (test c) c.fields

abbrev never_both : SystemClass → SystemMethod → Bool
never_both c m = not (has m.flags STATIC && has m.flags ABSTRACT)

abbrev is_abstract_there : SystemClass → SystemMethod → Bool
is_abstract_there c m = not (has c.flags INTERFACE) || has m.flags ABSTRACT

abbrev is_static_there : SystemClass → SystemField → Bool
is_static_there c f = not (has c.flags INTERFACE) || has f.flags STATIC

abbrev is_no_initialiser : SystemClass → SystemMethod → Bool
is_no_initialiser c m = not (bytes_eq m.name CLINIT)

abbrev answers_nothing : Option MethodTypes → Bool
answers_nothing o = option_map_or (λ (t : MethodTypes). option_map_or (λ (r : TypeRef). false) t.result true) o false

abbrev is_quiet : SystemClass → SystemMethod → Bool
is_quiet c m = not (bytes_eq m.name INIT) || answers_nothing (method_types m.descriptor)

abbrev takes_few : SystemClass → SystemMethod → Bool
takes_few c m = option_map_or (λ (t : MethodTypes). nat_le (length t.params) 255) (method_types m.descriptor) false

abbrev is_no_private : SystemClass → SystemMethod → Bool
is_no_private c m = not (has m.flags PRIVATE)

abbrev is_object : Option ℕ → Bool
is_object o = option_map_or (λ (n : ℕ). n == 0) o false

abbrev extends_object : SystemClass → Bool
extends_object c = not (has c.flags INTERFACE) || is_object (parent_number c)

abbrev is_interface_number : Option ℕ → Bool
is_interface_number o =
    option_map_or (λ (n : ℕ). option_map_or (λ (c : SystemClass). has c.flags INTERFACE) (slice_get system_classes n) false) o false

abbrev lists_interfaces : SystemClass → Bool
lists_interfaces c = list_all is_interface_number (interface_numbers c)

or_else : (a b : Bool) → not a || b ≡ true → a ≡ true → b ≡ true
or_else true b test holds = test
or_else false b test holds = absurd (false≢true holds)

not_both : (a b : Bool) → not (a && b) ≡ true → a ≡ true → b ≡ false
not_both true true test holds = absurd (false≢true test)
not_both true false test holds = refl
not_both false b test holds = absurd (false≢true holds)

-- ---- Records.

module _ (classes : List ClassRecord) (system : AreSystemRecords classes) where
  number_of : (c : ClassId) (r : ClassRecord) → record_of classes c ≡ Some r → c.0 < length system_classes
  number_of c r is = omega (arith, slice_get_within classes c.0 r is, system.as_many)

  -- what a test says of each method of the table it says of a method's entry
  module _ (m : MemberId) (method : MethodRecord) (is : MethodIs classes m method) where
    method_entry : (class : SystemClass) × (e : SystemMethod) × IsSystemRecord m.class.0 class is.0
        × IsSystemMethodAt (method_number m.class.0 m.index) e method
        × ((test : SystemClass → SystemMethod → Bool) → list_all (of_each_method test) system_classes ≡ true → test class e ≡ true)
    method_entry =
        let of = entry-of classes system m.class is.0 is.1 in
        let few = slice_get_within is.0.methods m.index method is.2 in
        let e = item_there of.0.methods m.index (omega (arith, few, of.2.method_count)) in (
          of.0,
          e.0,
          of.2,
          of.2.methods m.index e.0 method e.1 is.2,
          λ test all.
              passed_at (test of.0) of.0.methods m.index e.0 (passed_at (of_each_method test) system_classes m.class.0 of.0 all of.1) e.1,
        )

    types_read : method_types method_entry.1.descriptor ≡ Some (record { params = method.params; result = method.result })
    types_read =
        let said = method_entry.3 in
        method_types-read method_entry.1.descriptor method.kind method.params method.result said.text said.params said.result

    interface_flags : IsInterface classes m.class → has method_entry.0.flags INTERFACE ≡ true
    interface_flags (r, there, flag) =
        let same : r ≡ is.0 = same_Some r is.0 (sym there ∙ is.1) in
        subst (λ (x : ℕ). IsTrue (has x INTERFACE)) (ap (λ (x : ClassRecord). x.flags) same ∙ method_entry.2.flags) flag

    abstract_there : IsInterface classes m.class → IsTrue (has method.flags ABSTRACT)
    abstract_there interface =
        subst (λ (x : ℕ). IsTrue (has x ABSTRACT)) (sym method_entry.3.flags)
        (or_else (has method_entry.0.flags INTERFACE) (has method_entry.1.flags ABSTRACT) (method_entry.4 is_abstract_there refl)
        (interface_flags interface))

    static_there : IsTrue (is_static method) → IsFalse (has method.flags ABSTRACT)
    static_there static =
        subst (λ (x : ℕ). IsFalse (has x ABSTRACT)) (sym method_entry.3.flags)
        (not_both (has method_entry.1.flags STATIC) (has method_entry.1.flags ABSTRACT) (method_entry.4 never_both refl)
        (subst (λ (x : ℕ). IsTrue (has x STATIC)) method_entry.3.flags static))

    no_initialiser : method.name ≢ CLINIT
    no_initialiser named =
        so_not (bytes_eq method_entry.1.name CLINIT) (method_entry.4 is_no_initialiser refl)
        ((bytes_eq-Decides method_entry.1.name CLINIT).1 (sym method_entry.3.name ∙ named))

    no_private : IsTrue (has method.flags PRIVATE) → ⊥
    no_private private =
        so_not (has method_entry.1.flags PRIVATE) (method_entry.4 is_no_private refl)
        (subst (λ (x : ℕ). IsTrue (has x PRIVATE)) method_entry.3.flags private)

    few_there : length method.params ≤ 255
    few_there =
        let few : takes_few method_entry.0 method_entry.1 ≡ true = method_entry.4 takes_few refl in
        leb-true (length method.params) 255
        (sym (ap (λ (o : Option MethodTypes). option_map_or (λ (t : MethodTypes). nat_le (length t.params) 255) o false) types_read) ∙ few)

    result_by : (result : Option TypeRef) → option_map_or (λ (r : TypeRef). false) result true ≡ true → result ≡ None
    result_by None e = refl
    result_by (Some r) e = absurd (false≢true e)

    constructor_there : method.name ≡ INIT → method.result ≡ None
    constructor_there named =
        let init : bytes_eq method_entry.1.name INIT ≡ true = (bytes_eq-Decides method_entry.1.name INIT).1 (sym method_entry.3.name ∙ named) in
        let quiet = or_else (bytes_eq method_entry.1.name INIT) (answers_nothing (method_types method_entry.1.descriptor))
        (method_entry.4 is_quiet refl) init in
        result_by method.result (sym (ap answers_nothing types_read) ∙ quiet)

  static_field : (m : MemberId) (field : FieldRecord) → IsInterface classes m.class → FieldIs classes m field → IsTrue (has field.flags STATIC)
  static_field m field (q, there, flag) (r, is, at) =
      let of = entry-of classes system m.class r is in
      let e = item_there of.0.fields m.index (omega (arith, slice_get_within r.fields m.index field at, of.2.field_count)) in
      let said = of.2.fields m.index e.0 field e.1 at in
      let same : q ≡ r = same_Some q r (sym there ∙ is) in
      let over = subst (λ (x : ℕ). IsTrue (has x INTERFACE)) (ap (λ (x : ClassRecord). x.flags) same ∙ of.2.flags) flag in
      let test = passed_at (is_static_there of.0) of.0.fields m.index e.0
      (passed_at (of_each_field is_static_there) system_classes m.class.0 of.0 refl of.1) e.1 in
      subst (λ (x : ℕ). IsTrue (has x STATIC)) (sym said.flags) (or_else (has of.0.flags INTERFACE) (has e.0.flags STATIC) test over)

  no_constant : (m : MemberId) (field : FieldRecord) → FieldIs classes m field → SuitsType field.kind field.constant
  no_constant m field (r, is, at) =
      let of = entry-of classes system m.class r is in
      let e = item_there of.0.fields m.index (omega (arith, slice_get_within r.fields m.index field at, of.2.field_count)) in
      subst (SuitsType field.kind) (sym (of.2.fields m.index e.0 field e.1 at).constant) tt

  object_by : (o : Option ClassId) → is_object (option_map (λ (c : ClassId). c.0) o) ≡ true → o ≡ Some OBJECT
  object_by None e = absurd (false≢true e)
  object_by (Some p) e = ap Some (same_class p OBJECT (eqb-true p.0 0 e))

  interface_parent : (c : ClassId) (r : ClassRecord) → record_of classes c ≡ Some r → IsTrue (has r.flags INTERFACE) → r.parent ≡ Some OBJECT
  interface_parent c r is flag =
      let of = entry-of classes system c r is in
      let over = subst (λ (x : ℕ). IsTrue (has x INTERFACE)) of.2.flags flag in
      let test = or_else (has of.0.flags INTERFACE) (is_object (parent_number of.0)) (passed_at extends_object system_classes c.0 of.0 refl of.1) over in
      object_by r.parent (ap is_object of.2.parent ∙ test)

  flagged : (i : ClassId) (q : ClassRecord) → record_of classes i ≡ Some q → is_interface_number (Some i.0) ≡ true → IsTrue (has q.flags INTERFACE)
  flagged i q is test =
      let of = entry-of classes system i q is in
      let flag : has of.0.flags INTERFACE ≡ true =
      sym (ap (λ (o : Option SystemClass). option_map_or (λ (c : SystemClass). has c.flags INTERFACE) o false) of.1) ∙ test in
      subst (λ (x : ℕ). IsTrue (has x INTERFACE)) (sym of.2.flags) flag

  listed_there : (c i : ClassId) (r : ClassRecord) → record_of classes c ≡ Some r → Contains r.interfaces i → IsInterface classes i
  listed_there c i r is on =
      let of = entry-of classes system c r is in
      let place = place_of r.interfaces i on in
      let at : slice_get (interface_numbers of.0) place.0 ≡ Some (Some i.0) =
      ap (λ (xs : List (Option ℕ)). slice_get xs place.0) (sym of.2.interfaces)
      ∙ mapped_at (λ (c : ClassId). Some c.0) r.interfaces place.0 i place.1 in
      let test = passed_at is_interface_number (interface_numbers of.0) place.0 (Some i.0) (passed_at lists_interfaces system_classes c.0 of.0 refl of.1) at in
      let low = (((first-linked classes system).closed.each c r is).interfaces i on) in
      let q = item_there classes i.0 low in
      (q.0, q.1, flagged i q.0 q.1 test)

  no_links : (c : ClassId) (r : ClassRecord) (link : Link) → record_of classes c ≡ Some r → Contains r.links link → ⊥
  no_links c r link is on = Contains-none link (subst (λ (xs : List Link). Contains xs link) (entry-of classes system c r is).2.links on)

  system_codes : AreSoundCodes classes
  system_codes =
      record {
        ordered = (first-sound classes system).ordered;
        system = subst AreSystemRecords (sym (take_all (length system_classes) classes (omega (arith, system.as_many)))) system;
        of_system = λ c r is home. number_of c r is;
        homed = λ c r is foreign. absurd (foreign (entry-of classes system c r is).2.home);
        class_parents = system_parents classes system;
        open_parents = λ c p r high is parent closed. omega (arith, high, number_of c r is);
        interface_parents = interface_parent;
        listed_interfaces = listed_there;
        interface_fields = static_field;
        interface_methods = λ m method interface is other. abstract_there m method is interface;
        constants = no_constant;
        static_methods = λ m method is static. static_there m method is static;
        private_methods = λ m method is private. absurd (no_private m method is private);
        bodies = λ m method is concrete. inr (method_number m.class.0 m.index, (method_entry m method is).3.body);
        system_bodies = λ m method r n is there body. (entry-of classes system m.class r there).2.home;
        initialisers = λ m method is named. absurd (no_initialiser m method is named);
        constructors = λ m method is named. constructor_there m method is named;
        few_params = λ m method is. few_there m method is;
        found_fields = λ c named r m is on. absurd (no_links c r (To.Field named m) is on);
        found_methods = λ c named r m is on. absurd (no_links c r (To.Method named m) is on);
        few_dimensions = λ c r t is on. absurd (no_links c r (To.Class t) is on);
        decoded = λ m s scope. absurd (never_scope classes system m s scope);
        typed = λ m s scope. absurd (never_scope classes system m s scope);
        names = λ m s i scope on. absurd (never_scope classes system m s scope);
      }

  pub system_sound : AreSound classes []
  system_sound = record { codes = system_codes; each = λ table on. absurd (Contains-none table on) }

  pub system_linked : AreLinked classes []
  system_linked = first-linked classes system
