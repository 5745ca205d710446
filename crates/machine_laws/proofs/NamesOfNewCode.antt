-- The instructions of a new method name what they need.
use Rattle.std.proofs.Common.{◌≡◌, ℕ, ◌≤◌, List, length, Some, slice_get, Contains, sym, ap, subst, ◌∙◌}
use Rattle.std.proofs.lemmas.Option.{same_Some}
use Rattle.model_lemmas.proofs.SameNumbers.{same_class}
use Rattle.jk_model.specs.declared.identifiers.ClassId.{ClassId}
use Rattle.jk_model.specs.declared.identifiers.MemberId.{MemberId}
use Rattle.jk_model.specs.declared.instructions.Instr.{Instr}
use Rattle.jk_model_classes.specs.Classes.{IsInterface}
use Rattle.jk_model_classes.specs.Lookups.{FieldIs, MethodIs}
use Rattle.jk_model_classes.specs.Worlds.{NamedClass, WorldRecord}
use Rattle.jk_model_classes.specs.declared.records.ClassRecord.{ClassRecord}
use Rattle.jk_model_classes.specs.declared.records.FieldRecord.{FieldRecord}
use Rattle.jk_model_classes.specs.declared.records.Link.{Link}
use Rattle.jk_model_classes.specs.declared.records.MethodRecord.{MethodRecord}
use Rattle.jk_model_classes.specs.declared.sharing.Offer.{Offer}
use Rattle.jk_model_classes.specs.declared.sharing.Stub.{Stub}
use Rattle.jk_model_typing.specs.FrameTypes.{array_type}
use Rattle.jk_model_typing.specs.Scopes.{CodeScope, IsScopeOf}
use Rattle.jk_model_folders.specs.Loads.{Loads, MayLoad}
use Rattle.jk_model_folders.specs.declared.files.FolderFiles.{FolderFiles}
use Rattle.heap_laws.specs.NamedWell.{NamesWell, MayBeMade}
use Rattle.sound_folders.proofs.NewClasses.{all}
use Rattle.machine_laws.proofs.FieldsNamedWell.{static_named, object_named, own_final_named}
use Rattle.machine_laws.proofs.InstructionsOfFiles.{own_class}
use Rattle.machine_laws.proofs.MethodsNamedWell.{interface_named, class_named_there, static_called, object_called, concrete_called, constructor_called, no_initialiser_called, own_private_called}
use Rattle.machine_laws.proofs.NewMembers.{IsNewMethod, method_of, new_class}
use Rattle.machine_laws.proofs.ObjectsMadeWell.{may_be_made}
use Rattle.machine_laws.proofs.FlagsOfMembers.{HaveOneMark}
use Rattle.jk_model_classes.specs.declared.records.BaseRef.TheVariants as Base
use Rattle.jk_model_classes.specs.declared.records.Link.TheVariants as To

module _ {f : FolderFiles} {w : WorldRecord} {into : List ℕ} {first : ClassId} {table : List NamedClass} {offers : List Offer} {stubs : List Stub}
    {new : WorldRecord} (l : Loads f w into first table offers stubs new) (may : MayLoad w) (marks : HaveOneMark (all l))
    (m : MemberId) (s : CodeScope) (scope : IsScopeOf (all l) m s) (high : length w.classes ≤ m.class.0) (i : Instr) (on : Contains s.code.instrs i) where
  n : IsNewMethod l m s.method
  n = method_of l m s.method scope.class scope.class_is (new_class l m.class scope.class high scope.class_is) scope.method

  links : s.links ≡ n.class.links
  links = scope.links ∙ ap (λ (r : ClassRecord). r.links) (same_Some scope.class n.class (sym scope.class_is ∙ n.class_is))

  led : (index : ℕ) (link : Link) → slice_get s.links index ≡ Some link → slice_get n.class.links index ≡ Some link
  led index link leads = subst (λ (xs : List Link). slice_get xs index ≡ Some link) links leads

  self_is : own_class l m s.method n ≡ s.self
  self_is = sym (scope.self ∙ same_class m.class (own_class l m s.method n) n.of.number)

  field_here : (t : MemberId) (field : FieldRecord) → FieldIs s.classes t field → FieldIs (all l) t field
  field_here t field is = subst (λ (xs : List ClassRecord). FieldIs xs t field) scope.all is

  method_here : (t : MemberId) (called : MethodRecord) → MethodIs s.classes t called → MethodIs (all l) t called
  method_here t called is = subst (λ (xs : List ClassRecord). MethodIs xs t called) scope.all is

  pub new_names : NamesWell s i
  new_names =
      record {
        static_field = λ t field test (class, (index, operand, leads), is).
            static_named l m s.method n s.code scope.body i on index operand class t (led index (To.Field class t) leads) field
            (field_here t field is) test;
        object_field = λ t field test (class, (index, operand, leads), is).
            object_named l m s.method n s.code scope.body i on index operand class t (led index (To.Field class t) leads) field
            (field_here t field is) test;
        own_final_field = λ t field test (class, (index, operand, leads), is) final.
            own_final_named l m s.method n s.code scope.body i on index operand class t (led index (To.Field class t) leads) field
            (field_here t field is) test final
            ∙ self_is;
        static_method = λ t called op (class, (index, operand, leads), is).
            static_called l m s.method n s.code scope.body i on index operand class t (led index (To.Method class t) leads) called
            (method_here t called is) op;
        object_method = λ t called test (class, (index, operand, leads), is).
            object_called l m s.method n s.code scope.body i on index operand class t (led index (To.Method class t) leads) called
            (method_here t called is) test;
        concrete_method = λ t called op (class, (index, operand, leads), is).
            concrete_called l m s.method n s.code scope.body i on index operand class t (led index (To.Method class t) leads) called
            (method_here t called is) op;
        constructor_call = λ t called test (class, (index, operand, leads), is) named.
            constructor_called l m s.method n s.code scope.body i on index operand class t (led index (To.Method class t) leads) called
            (method_here t called is) test named;
        no_initialiser_call = λ t called test (class, (index, operand, leads), is) named.
            no_initialiser_called l m s.method n s.code scope.body i on index operand class t (led index (To.Method class t) leads) called
            (method_here t called is) named;
        own_private_method = λ t called test (class, (index, operand, leads), is) private.
            own_private_called l m s.method n s.code scope.body i on index operand class t (led index (To.Method class t) leads) called
            (method_here t called is) private (marks t called (method_here t called is) private)
            ∙ self_is;
        interface_call = λ c t op (index, operand, leads).
            subst (λ (xs : List ClassRecord). IsInterface xs c) (sym scope.all)
            (interface_named l m s.method n s.code scope.body i on index operand c t (led index (To.Method c t) leads) may op);
        class_call = λ c t test other (index, operand, leads) interface.
            class_named_there l m s.method n s.code scope.body i on index operand c t (led index (To.Method c t) leads) test other
            (subst (λ (xs : List ClassRecord). IsInterface xs c) scope.all interface);
        new_object = λ c op (index, operand, leads).
            subst (λ (xs : List ClassRecord). MayBeMade xs c) (sym scope.all)
            (may_be_made l may m s.method n s.code scope.body i on index operand c (led index (To.Class (array_type 0 (Base.Class c))) leads) op);
      }
