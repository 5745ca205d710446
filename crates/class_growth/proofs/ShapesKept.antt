-- In a scope whose classes are there, an instruction keeps its shape with more classes behind, and the classes that the shape
-- itself speaks of are there.
use Rattle.std.proofs.Common.{◌≡◌, ℕ, zero, suc, ◌+◌, Bool, true, false, List, [], ◌∷◌, ◌++◌, Option, Some, None, map, refl, sym, ap, subst, ◌∙◌, inl, inr, Contains, replicate, if◌then◌else◌}
use Rattle.std.specs.Prelude.{◌&&◌, ⊤, nat_le, find, option_map}
use Rattle.std.specs.List.{AllByRecursion, list_all}
use Rattle.std.specs.Option.{option_map_or, unwrap_or}
use Rattle.std.proofs.lemmas.Bool.{and_parts}
use Rattle.list_lemmas.proofs.ItemsOfLists.{Contains-here, Contains-there}
use Rattle.jk_model.specs.declared.identifiers.ClassId.{ClassId}
use Rattle.jk_model.specs.declared.identifiers.MemberId.{MemberId}
use Rattle.jk_model.specs.declared.instructions.Instr.{Instr}
use Rattle.jk_model.specs.Instructions.{Row, format_among}
use Rattle.jk_model_classes.specs.declared.records.ClassRecord.{ClassRecord}
use Rattle.jk_model_classes.specs.declared.records.FieldRecord.{FieldRecord}
use Rattle.jk_model_classes.specs.declared.records.Link.TheVariants as Link
use Rattle.jk_model_classes.specs.declared.records.Member.TheVariants.{Method}
use Rattle.jk_model_classes.specs.declared.records.MethodRecord.{MethodRecord}
use Rattle.jk_model_classes.specs.declared.records.TypeRef.{TypeRef}
use Rattle.jk_model_classes.specs.Classes.{HasClass}
use Rattle.jk_model_classes.specs.Lookups.{class_of}
use Rattle.jk_model_typing.specs.declared.frames.VType.{VType}
use Rattle.jk_model_typing.specs.declared.frames.VType.TheVariants.{Int, Long, Ref}
use Rattle.jk_model_typing.specs.declared.frames.Demand.{Demand}
use Rattle.jk_model_typing.specs.declared.frames.Demand.TheVariants.{Fitting, FittingBoth, Reference, Receiver, PutReceiver}
use Rattle.jk_model_typing.specs.FrameTypes.{array_type, of_class, value_of}
use Rattle.jk_model_typing.specs.Groups.{Group, Shape, Always, LoadsLocal, StoresLocal, IncrementsLocal, LoadsConstant, LoadsLong, ReturnsInt, ReturnsLong, ReturnsReference, ReturnsNothing, GetsStatic, PutsStatic, GetsField, PutsField, CallsVirtual, CallsSpecial, CallsStatic, CallsInterface, MakesObject, MakesArray, MakesArrays, Casts, Tests, MakesNumbers, NoGroup, Takes, Loads, Stores, Constructs, group_of, groups}
use Rattle.jk_model_typing.specs.Rows.{HasShape, UsesField, UsesMethod, Answers, arguments}
use Rattle.jk_model_typing.specs.Scopes.{CodeScope, LeadsToLink, parameter_values, result_values}
use Rattle.class_growth.specs.ClosedClasses.{HasType, HasClassesOfMethod}
use Rattle.class_growth.specs.ScopesOver.{with_more}
use Rattle.class_growth.proofs.MoreClasses.{field-still, method-still, subclass-still}
use Rattle.class_growth.proofs.TypesKept.{of_type-kept, of_class-kept, value_of-kept}
use Rattle.class_growth.proofs.ScopesKept.{IsClosedScope, field-closed, method-closed}

-- ---- The classes that demands and shapes speak of.

abbrev pub HasDemand : List ClassRecord → Demand → Type 0
HasDemand classes (Receiver named member) = HasClass classes named × HasClass classes (class_of member)
HasDemand classes (PutReceiver named m) = HasClass classes named × HasClass classes m.class
HasDemand classes _ = ⊤

abbrev pub HasShapes : List ClassRecord → Shape → Type 0
HasShapes classes (Takes demands gives) = AllByRecursion (HasDemand classes) demands
HasShapes classes (Loads demand n) = HasDemand classes demand
HasShapes classes (Stores demand n) = HasDemand classes demand
HasShapes classes (Constructs c m demands) = HasClass classes c × HasClass classes m.class × AllByRecursion (HasDemand classes) demands
HasShapes classes _ = ⊤

-- ---- Those of the table of instructions speak of none.

abbrev names_none : Demand → Bool
names_none (Receiver named member) = false
names_none (PutReceiver named m) = false
names_none _ = true

abbrev shape_names_none : Shape → Bool
shape_names_none (Takes demands gives) = list_all names_none demands
shape_names_none (Loads demand n) = names_none demand
shape_names_none (Stores demand n) = names_none demand
shape_names_none (Constructs c m demands) = false
shape_names_none _ = true

abbrev pub group_names_none : Group → Bool
group_names_none (Always shape) = shape_names_none shape
group_names_none (LoadsLocal demand) = names_none demand
group_names_none (StoresLocal demand) = names_none demand
group_names_none _ = true

module _ {F : Type 0} (test : F → Bool) (other : F) where
  passes_at : (b : Bool) (r : Row F) (o : Option (Row F)) → test r.format ≡ true → test (unwrap_or (option_map (λ r. r.format) o) other) ≡ true
      → test (unwrap_or (option_map (λ r. r.format) (if b then Some r else o)) other) ≡ true
  passes_at true r o here later = here
  passes_at false r o here later = later

  pub passes_among : (rows : List (Row F)) (op : ℕ) → test other ≡ true → list_all (λ (r : Row F). test r.format) rows ≡ true
      → test (format_among other rows op) ≡ true
  passes_among [] op none all = none
  passes_among (r ∷ rows) op none all =
      let both = and_parts (test r.format) (list_all (λ (r : Row F). test r.format) rows) all in
      passes_at (nat_le r.first op && nat_le op r.last) r (find (λ (r : Row F). nat_le r.first op && nat_le op r.last) rows) both.0
      (passes_among rows op none both.1)

pub group_of-names_none : (op : ℕ) → group_names_none (group_of op) ≡ true
group_of-names_none op = passes_among group_names_none NoGroup groups op refl refl

module _ (classes : List ClassRecord) where
  demand_none : (d : Demand) → names_none d ≡ true → HasDemand classes d
  demand_none (Receiver named member) h = absurd cc
  demand_none (PutReceiver named m) h = absurd cc
  demand_none d h = tt

  demands_none : (ds : List Demand) → list_all names_none ds ≡ true → AllByRecursion (HasDemand classes) ds
  demands_none [] h = tt
  demands_none (d ∷ ds) h =
      let both = and_parts (names_none d) (list_all names_none ds) h in
      (demand_none d both.0, demands_none ds both.1)

  shape_none : (shape : Shape) → shape_names_none shape ≡ true → HasShapes classes shape
  shape_none (Takes demands gives) h = demands_none demands h
  shape_none (Loads demand n) h = demand_none demand h
  shape_none (Stores demand n) h = demand_none demand h
  shape_none (Constructs c m demands) h = absurd cc
  shape_none shape h = tt

  fitting_all : (vs : List VType) → AllByRecursion (HasDemand classes) (map Fitting vs)
  fitting_all [] = tt
  fitting_all (v ∷ vs) = (tt, fitting_all vs)

  fitting_each : (n : ℕ) (v : VType) → AllByRecursion (HasDemand classes) (replicate n (Fitting v))
  fitting_each zero v = tt
  fitting_each (suc n) v = (tt, fitting_each n v)

-- ---- Members, and the values of their types.

map_same : {X Y : Type 0} (f g : X → Y) (xs : List X) → ((x : X) → Contains xs x → f x ≡ g x) → map f xs ≡ map g xs
map_same f g [] same = refl
map_same f g (x ∷ xs) same =
    rw (same x (Contains-here x xs), map_same f g xs (λ y on. same y (Contains-there y x xs on))) refl

module _ (s : CodeScope) (more : List ClassRecord) where
  pub parameters-kept : (method : MethodRecord) → HasClassesOfMethod s.classes method
      → parameter_values (with_more s more) method ≡ parameter_values s method
  parameters-kept method there =
      map_same (value_of (s.classes ++ more)) (value_of s.classes) method.params (λ t on. value_of-kept s.classes more t (there.params t on))

  results_by : (o : Option TypeRef) → ((t : TypeRef) → o ≡ Some t → HasType s.classes t)
      → option_map_or (λ (t : TypeRef). value_of (s.classes ++ more) t ∷ []) o [] ≡ option_map_or (λ (t : TypeRef). value_of s.classes t ∷ []) o []
  results_by None there = refl
  results_by (Some t) there = ap (λ v. v ∷ []) (value_of-kept s.classes more t (there t refl))

  results-kept : (method : MethodRecord) → HasClassesOfMethod s.classes method → result_values (with_more s more) method ≡ result_values s method
  results-kept method there = results_by method.result there.result

  module _ (closed : IsClosedScope s) (i : Instr) where
    answers-still : (v : VType) → Answers s v → Answers (with_more s more) v
    answers-still v (t, is, e) = (t, is, e ∙ sym (value_of-kept s.classes more t (closed.method.result t is)))

    pub type_there : (t : TypeRef) → LeadsToLink s i (Link.Class t) → HasType s.classes t
    type_there t leads = closed.links leads.0 (Link.Class t) leads.2

    module _ (c : ClassId) (m : MemberId) where
      field_there : (field : FieldRecord) → UsesField s i c m field → HasClass s.classes c × HasClass s.classes m.class
      field_there field (leads, is) = closed.links leads.0 (Link.Field c m) leads.2

      uses_field-still : (field : FieldRecord) → UsesField s i c m field → UsesField (with_more s more) i c m field
      uses_field-still field (leads, is) = (leads, field-still s.classes more m field is)

      pub field_value-kept : (field : FieldRecord) → UsesField s i c m field → value_of (s.classes ++ more) field.kind ≡ value_of s.classes field.kind
      field_value-kept field (leads, is) = value_of-kept s.classes more field.kind (field-closed s.classes closed.classes m field is)

      pub method_there : (method : MethodRecord) → UsesMethod s i c m method → HasClass s.classes c × HasClass s.classes m.class
      method_there method (leads, is) = closed.links leads.0 (Link.Method c m) leads.2

      uses_method-still : (method : MethodRecord) → UsesMethod s i c m method → UsesMethod (with_more s more) i c m method
      uses_method-still method (leads, is) = (leads, method-still s.classes more m method is)

      pub arguments-kept : (method : MethodRecord) → UsesMethod s i c m method → arguments (with_more s more) method ≡ arguments s method
      arguments-kept method (leads, is) = ap (map Fitting) (parameters-kept method (method-closed s.classes closed.classes m method is))

      pub method_results-kept : (method : MethodRecord) → UsesMethod s i c m method → result_values (with_more s more) method ≡ result_values s method
      method_results-kept method (leads, is) = results-kept method (method-closed s.classes closed.classes m method is)

    -- ---- Shapes.

    takes : {ds es : List Demand} {vs ws : List VType} (shape : Shape) → shape ≡ Takes ds vs → es ≡ ds → ws ≡ vs
        → AllByRecursion (HasDemand s.classes) ds → (shape ≡ Takes es ws) × HasShapes s.classes shape
    takes {ds = ds} {es = es} {vs = vs} {ws = ws} shape e demands gives there = (
      e ∙ ap (λ xs. Takes xs vs) (sym demands) ∙ ap (Takes es) (sym gives),
      subst (HasShapes s.classes) (sym e) there,
    )

    pub shape-still : (g : Group) (shape : Shape) → group_names_none g ≡ true → HasShape s i g shape
        → HasShape (with_more s more) i g shape × HasShapes s.classes shape
    shape-still (Always of_all) shape none e = (e, subst (HasShapes s.classes) (sym e) (shape_none s.classes of_all none))
    shape-still (LoadsLocal demand) shape none (n, a, e) =
        ((n, a, e), subst (HasShapes s.classes) (sym e) (demand_none s.classes demand none))
    shape-still (StoresLocal demand) shape none (n, a, e) =
        ((n, a, e), subst (HasShapes s.classes) (sym e) (demand_none s.classes demand none))
    shape-still IncrementsLocal shape none (n, a, e) = ((n, a, e), subst (HasShapes s.classes) (sym e) tt)
    shape-still LoadsConstant shape none (inl (n, leads, e)) = (inl (n, leads, e), subst (HasShapes s.classes) (sym e) tt)
    shape-still LoadsConstant shape none (inr (text, leads, e)) = (inr (text, leads, e), subst (HasShapes s.classes) (sym e) tt)
    shape-still LoadsLong shape none (n, leads, e) = ((n, leads, e), subst (HasShapes s.classes) (sym e) tt)
    shape-still ReturnsInt shape none (answers, e) = ((answers-still Int answers, e), subst (HasShapes s.classes) (sym e) (tt, tt))
    shape-still ReturnsLong shape none (answers, e) = ((answers-still Long answers, e), subst (HasShapes s.classes) (sym e) (tt, tt))
    shape-still ReturnsReference shape none (t, answers, e) =
        ((t, answers-still (Ref t) answers, e), subst (HasShapes s.classes) (sym e) (tt, tt))
    shape-still ReturnsNothing shape none (nothing, e) = ((nothing, e), subst (HasShapes s.classes) (sym e) tt)
    shape-still GetsStatic shape none (c, m, field, uses, e) =
        let t = takes shape e refl (ap (λ v. v ∷ []) (field_value-kept c m field uses)) tt in
        ((c, m, field, uses_field-still c m field uses, t.0), t.1)
    shape-still PutsStatic shape none (c, m, field, uses, e) =
        let t = takes shape e (ap (λ v. Fitting v ∷ []) (field_value-kept c m field uses)) refl (tt, tt) in
        ((c, m, field, uses_field-still c m field uses, t.0), t.1)
    shape-still GetsField shape none (c, m, field, uses, e) =
        let t = takes shape e refl (ap (λ v. v ∷ []) (field_value-kept c m field uses)) (field_there c m field uses, tt) in
        ((c, m, field, uses_field-still c m field uses, t.0), t.1)
    shape-still PutsField shape none (c, m, field, uses, e) =
        let t = takes shape e (ap (λ v. PutReceiver c m ∷ Fitting v ∷ []) (field_value-kept c m field uses)) refl (field_there c m field uses, (tt, tt)) in
        ((c, m, field, uses_field-still c m field uses, t.0), t.1)
    shape-still CallsVirtual shape none (c, m, method, uses, e) =
        let t = takes shape e (ap (λ ds. Receiver c (Method m) ∷ ds) (arguments-kept c m method uses)) (method_results-kept c m method uses)
        (method_there c m method uses, fitting_all s.classes (parameter_values s method)) in
        ((c, m, method, uses_method-still c m method uses, t.0), t.1)
    shape-still CallsSpecial shape none (c, m, method, uses, inl (named, e)) = (
      (
        c,
        m,
        method,
        uses_method-still c m method uses,
        inl (named, e ∙ ap (Constructs c m) (sym (arguments-kept c m method uses))),
      ),
      (let there = method_there c m method uses in
          subst (HasShapes s.classes) (sym e) (there.0, there.1, fitting_all s.classes (parameter_values s method))),
    )
    shape-still CallsSpecial shape none (c, m, method, uses, inr (named, below, e)) =
        let named_class = of_class-kept s.classes more c (method_there c m method uses).0 in
        let own_class = of_class-kept s.classes more s.self closed.self in
        let demands : FittingBoth (of_class (s.classes ++ more) c) (of_class (s.classes ++ more) s.self) ∷ arguments (with_more s more) method
        ≡ FittingBoth (of_class s.classes c) (of_class s.classes s.self) ∷ arguments s method
        = rw (named_class, own_class, arguments-kept c m method uses) refl in
        let t = takes shape e demands (method_results-kept c m method uses) (tt, fitting_all s.classes (parameter_values s method)) in
        ((c, m, method, uses_method-still c m method uses, inr (named, subclass-still s.classes more s.self c below, t.0)), t.1)
    shape-still CallsStatic shape none (c, m, method, uses, e) =
        let t = takes shape e (arguments-kept c m method uses) (method_results-kept c m method uses) (fitting_all s.classes (parameter_values s method)) in
        ((c, m, method, uses_method-still c m method uses, t.0), t.1)
    shape-still CallsInterface shape none (c, m, method, uses, e) =
        let t = takes shape e (ap (λ ds. Reference ∷ ds) (arguments-kept c m method uses)) (method_results-kept c m method uses)
        (tt, fitting_all s.classes (parameter_values s method)) in
        ((c, m, method, uses_method-still c m method uses, t.0), t.1)
    shape-still MakesObject shape none (c, names, e) = ((c, names, e), subst (HasShapes s.classes) (sym e) tt)
    shape-still MakesNumbers shape none (code, base, a, is, e) = ((code, base, a, is, e), subst (HasShapes s.classes) (sym e) (tt, tt))
    shape-still MakesArray shape none (t, leads, few, e) =
        let made = of_type-kept s.classes more (array_type (t.dims + 1) t.base) (type_there t leads) in
        let k = takes shape e refl (ap (λ v. v ∷ []) made) (tt, tt) in
        ((t, leads, few, k.0), k.1)
    shape-still MakesArrays shape none (t, n, leads, b, some, few, e) =
        let k = takes shape e refl (ap (λ v. v ∷ []) (of_type-kept s.classes more t (type_there t leads))) (fitting_each s.classes n Int) in
        ((t, n, leads, b, some, few, k.0), k.1)
    shape-still Casts shape none (t, leads, e) =
        let k = takes shape e refl (ap (λ v. v ∷ []) (of_type-kept s.classes more t (type_there t leads))) (tt, tt) in
        ((t, leads, k.0), k.1)
    shape-still Tests shape none (t, leads, e) = ((t, leads, e), subst (HasShapes s.classes) (sym e) (tt, tt))
    shape-still NoGroup shape none h = absurd h
