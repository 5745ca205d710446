-- What an instruction names is what it needs with more classes behind too, where the classes that stood are closed.
use Rattle.std.proofs.Common.{List, ◌++◌, sym, subst}
use Rattle.jk_model.specs.declared.identifiers.ClassId.{ClassId}
use Rattle.jk_model.specs.declared.identifiers.MemberId.{MemberId}
use Rattle.jk_model.specs.declared.instructions.Instr.{Instr}
use Rattle.jk_model_classes.specs.Classes.{HasClass, IsInterface}
use Rattle.jk_model_classes.specs.Lookups.{FieldIs, MethodIs}
use Rattle.jk_model_classes.specs.declared.records.ClassRecord.{ClassRecord}
use Rattle.jk_model_classes.specs.declared.records.FieldRecord.{FieldRecord}
use Rattle.jk_model_classes.specs.declared.records.MethodRecord.{MethodRecord}
use Rattle.jk_model_typing.specs.Scopes.{CodeScope, IsScopeOf}
use Rattle.jk_model_heaps.specs.RunningCode.{NamesField, NamesMethod}
use Rattle.class_growth.proofs.MoreClasses.{field-before, method-before, is_interface-before, is_interface-still, record-still}
use Rattle.class_growth.proofs.ScopesKept.{scope-before, closed-scope, IsClosedScope}
use Rattle.class_growth.specs.ClosedClasses.{IsClosed}
use Rattle.class_growth.specs.ScopesOver.{among}
use Rattle.heap_laws.specs.NamedWell.{NamesWell, MayBeMade}
use Rattle.jk_model_classes.specs.declared.records.Link.TheVariants as To

module _ (classes more : List ClassRecord) (closed : IsClosed classes) (m : MemberId) (s : CodeScope) (low : HasClass classes m.class)
    (scope : IsScopeOf (classes ++ more) m s) (i : Instr) (names : NamesWell (among s classes) i) where
  there : IsClosedScope (among s classes)
  there = closed-scope classes closed m (among s classes) (scope-before classes more m s low scope)

  field_named : (t : MemberId) (field : FieldRecord) → NamesField s i t field → NamesField (among s classes) i t field
  field_named t field (class, (n, operand, leads), is) =
      let has = (there.links n (To.Field class t) leads).1 in
      (class, (n, operand, leads), field-before classes more t field has (subst (λ (xs : List ClassRecord). FieldIs xs t field) scope.all is))

  method_named : (t : MemberId) (called : MethodRecord) → NamesMethod s i t called → NamesMethod (among s classes) i t called
  method_named t called (class, (n, operand, leads), is) =
      let has = (there.links n (To.Method class t) leads).1 in
      (class, (n, operand, leads), method-before classes more t called has (subst (λ (xs : List ClassRecord). MethodIs xs t called) scope.all is))

  made_still : (c : ClassId) → MayBeMade classes c → MayBeMade (classes ++ more) c
  made_still c made =
      record {
        class = made.class;
        is_class = record-still classes more c made.class made.is_class;
        no_interface = made.no_interface;
        concrete = made.concrete;
        constructed = made.constructed;
      }

  pub names_stay : NamesWell s i
  names_stay =
      record {
        static_field = λ t field test is. names.static_field t field test (field_named t field is);
        object_field = λ t field test is. names.object_field t field test (field_named t field is);
        own_final_field = λ t field test is final. names.own_final_field t field test (field_named t field is) final;
        static_method = λ t called op is. names.static_method t called op (method_named t called is);
        object_method = λ t called test is. names.object_method t called test (method_named t called is);
        concrete_method = λ t called op is. names.concrete_method t called op (method_named t called is);
        constructor_call = λ t called test is named. names.constructor_call t called test (method_named t called is) named;
        no_initialiser_call = λ t called test is. names.no_initialiser_call t called test (method_named t called is);
        own_private_method = λ t called test is private. names.own_private_method t called test (method_named t called is) private;
        interface_call = λ c t op leads.
            subst (λ (xs : List ClassRecord). IsInterface xs c) (sym scope.all)
            (is_interface-still classes more c (names.interface_call c t op leads));
        class_call = λ c t test other (n, operand, leads) interface.
            names.class_call c t test other (n, operand, leads)
            (is_interface-before classes more c (there.links n (To.Method c t) leads).0
            (subst (λ (xs : List ClassRecord). IsInterface xs c) scope.all interface));
        new_object = λ c op named.
            subst (λ (xs : List ClassRecord). MayBeMade xs c) (sym scope.all) (made_still c (names.new_object c op named));
      }
