-- The class at which the methods of a receiver are looked for, by what the receiver fits. The domain knows that class.
use Rattle.std.proofs.Common.{inl, inr, ◌≡◌, ◌≢◌, ◌⊎◌, ℕ, ◌+◌, List, [], ◌∷◌, Contains, Option, Some, refl, sym, ap, subst, ◌∙◌, arith}
use Rattle.std.specs.Option.{option_map_or}
use Rattle.std.proofs.lemmas.Option.{same_Some}
use Rattle.list_lemmas.proofs.ItemsOfLists.{Contains-here}
use Rattle.jk_model.specs.declared.identifiers.ClassId.{ClassId}
use Rattle.jk_model.specs.declared.instructions.Instr.{Instr}
use Rattle.jk_model.specs.declared.opcodes.TheConstants.{INVOKESPECIAL}
use Rattle.jk_model.specs.declared.values.Value.{Value}
use Rattle.jk_model.specs.declared.values.Value.TheVariants as Held
use Rattle.jk_model_classes.specs.declared.records.BaseRef.TheVariants as Base
use Rattle.jk_model_classes.specs.declared.records.ClassRecord.{ClassRecord}
use Rattle.jk_model_classes.specs.declared.records.MethodRecord.{MethodRecord}
use Rattle.jk_model_classes.specs.declared.records.TypeRef.{TypeRef}
use Rattle.jk_model_classes.specs.Classes.{IsInterface, IsSubclass, OBJECT, is_interface_record, parents_of, record_of}
use Rattle.jk_model_classes.specs.Members.{INIT}
use Rattle.jk_model_classes.specs.Worlds.{IsNamed}
use Rattle.jk_model_typing.specs.declared.frames.VType.{VType}
use Rattle.jk_model_typing.specs.declared.frames.VType.TheVariants.{Unusable, Int, Long, Null, Ref, Fresh, FreshThis}
use Rattle.jk_model_typing.specs.FrameTypes.{RefFits, STRING, erased_class, of_class}
use Rattle.jk_model_typing.specs.Rows.{IsOwnOrParent, IsReference, MakesAt}
use Rattle.jk_model_typing.specs.Scopes.{CodeScope}
use Rattle.jk_model_domains.specs.Objects.{NamedObject, Object, Array, Plain, Task, Text, CAPABILITY, TASK, class_type, object_named, type_of}
use Rattle.jk_model_domains.specs.ValueTypes.{ValueFits}
use Rattle.jk_model_heaps.specs.Heaps.{named}
use Rattle.jk_model_heaps.specs.Instances.{RunsAs, run_class}
use Rattle.jk_model_heaps.specs.Workings.{Inside}
use Rattle.jk_model_sealing.specs.SealedInsides.{IsSealedInside, Surroundings}
use Rattle.class_table.proofs.StandingAbove.{is-own_superclass, superclasses-of_parent, superclasses-trans}
use Rattle.heap_laws.proofs.ObjectsAfterChanges.{found_stands}
use Rattle.heap_laws.specs.SoundCodes.{AreSoundCodes}
use Rattle.heap_laws.specs.SoundTables.{IsSoundTable}
use Rattle.row_laws.proofs.CallersFit.{one_class}
use Rattle.row_laws.proofs.ElementsOfArrays.{null_only, read_below}
use Rattle.row_laws.proofs.GivenToCalls.{SuitsCall, for_interface, for_made, for_special, for_this, for_virtual}

-- ---- Which class it is.

module _ (s : CodeScope) (heap : List NamedObject) (sound : AreSoundCodes s.classes) where
  reference_runs : (v : Value) (t : TypeRef) → ValueFits s heap v (Ref t) → (v ≡ Held.Null) ⊎ ((c : ClassId) × RunsAs heap v c)
  reference_runs (Held.Int n) t h = absurd h
  reference_runs (Held.Long n) t h = absurd h
  reference_runs Held.Null t h = inl refl
  reference_runs (Held.Obj a) t (o, is, fits) = inr (run_class o, (o, is, refl))
  reference_runs (Held.Cap k) t h = inr (CAPABILITY, refl)
  reference_runs Held.Unset t h = absurd h

  -- null, or there is one
  pub runs_or_null : (v : Value) (t : VType) → IsReference t → ValueFits s heap v t → (v ≡ Held.Null) ⊎ ((c : ClassId) × RunsAs heap v c)
  runs_or_null v Null k h = inl (null_only s heap v h)
  runs_or_null v (Ref t) k h = reference_runs v t h
  runs_or_null v Unusable k h = absurd k
  runs_or_null v Int k h = absurd k
  runs_or_null v Long k h = absurd k
  runs_or_null v (Fresh p) k h = absurd k
  runs_or_null v FreshThis k h = absurd k

  -- ---- Below the class of a type.

  same_or_below : (c d : ClassId) → RefFits s.classes (class_type c) (class_type d) → IsSubclass s.classes c d
  same_or_below c d (inl same) =
      let base : Base.Class c ≡ Base.Class d = ap (λ (t : TypeRef). t.base) same in
      let one : c ≡ d = cc in
      subst (IsSubclass s.classes c) one (is-own_superclass s.classes sound.ordered c)
  same_or_below c d (inr (inl (dims, below))) = below
  same_or_below c d (inr (inr (lower, object))) = absurd (omega (arith, lower))

  object_below : (o : Object) (d : ClassId) → RefFits s.classes (type_of o) (class_type d) → IsSubclass s.classes (run_class o) d
  object_below (Plain c fields) d fits = same_or_below c d fits
  object_below (Array element items) d (inl same) =
      let dims : element.dims + 1 ≡ 0 = ap (λ (t : TypeRef). t.dims) same in absurd (omega (arith, dims))
  object_below (Array element items) d (inr (inl (dims, below))) = absurd (omega (arith, dims))
  object_below (Array element items) d (inr (inr (lower, object))) =
      let same : Base.Class d ≡ Base.Class OBJECT = object in
      let one : OBJECT ≡ d = cc in
      subst (IsSubclass s.classes OBJECT) one (is-own_superclass s.classes sound.ordered OBJECT)
  object_below (Text units) d fits = same_or_below STRING d fits
  object_below (Task n) d fits = same_or_below TASK d fits

  receiver_read : (v : Value) (c d : ClassId) → RunsAs heap v c → ValueFits s heap v (of_class s.classes d)
      → IsSubclass s.classes c (erased_class s.classes d)
  receiver_read (Held.Obj a) c d (o, is, run) (p, also, fits) =
      let one : p ≡ o = same_Some p o (sym also ∙ is) in
      subst (λ (k : ClassId). IsSubclass s.classes k (erased_class s.classes d)) (sym run)
      (object_below o (erased_class s.classes d)
      (subst (λ (x : Object). RefFits s.classes (type_of x) (class_type (erased_class s.classes d))) one fits))
  receiver_read (Held.Cap k) c d run fits =
      subst (λ (x : ClassId). IsSubclass s.classes x (erased_class s.classes d)) (sym run) (same_or_below CAPABILITY (erased_class s.classes d) fits)
  receiver_read (Held.Int n) c d run fits = absurd run
  receiver_read (Held.Long n) c d run fits = absurd run
  receiver_read Held.Null c d run fits = absurd run
  receiver_read Held.Unset c d run fits = absurd run

  -- of a receiver that fits a class, below what is no interface above that one
  pub fitting_below : (v : Value) (c d up : ClassId) → RunsAs heap v c → ValueFits s heap v (of_class s.classes d)
      → (IsInterface s.classes up → ⊥) → IsSubclass s.classes d up → IsSubclass s.classes c up
  fitting_below v c d up runs fits none above =
      superclasses-trans s.classes sound.ordered c (erased_class s.classes d) up (receiver_read v c d runs fits)
      (read_below s.classes sound d up (is_interface_record (record_of s.classes d)) refl none above)

  -- ---- Objects whose constructor is called.

  pub made_runs : (v : Value) (place : ℕ) (c : ClassId) → MakesAt s place c → ValueFits s heap v (Fresh place) → RunsAs heap v c
  made_runs (Held.Obj a) place c makes (o, is, (d, made, (fields, plain))) =
      let one : d ≡ c = one_class s heap sound place c d makes made in
      (o, is, sym one ∙ ap run_class (sym plain))
  made_runs (Held.Int n) place c makes h = absurd h
  made_runs (Held.Long n) place c makes h = absurd h
  made_runs Held.Null place c makes h = absurd h
  made_runs (Held.Cap k) place c makes h = absurd h
  made_runs Held.Unset place c makes h = absurd h

  pub this_runs : (v : Value) → ValueFits s heap v FreshThis → (c : ClassId) × RunsAs heap v c × IsSubclass s.classes c s.self
  this_runs (Held.Obj a) (o, is, (c, (fields, plain), below)) = (c, (o, is, ap run_class (sym plain)), below)
  this_runs (Held.Int n) h = absurd h
  this_runs (Held.Long n) h = absurd h
  this_runs Held.Null h = absurd h
  this_runs (Held.Cap k) h = absurd h
  this_runs Held.Unset h = absurd h

  own_or_parent : (c : ClassId) → IsOwnOrParent s c → IsSubclass s.classes s.self c
  own_or_parent c (inl same) = subst (IsSubclass s.classes s.self) (sym same) (is-own_superclass s.classes sound.ordered s.self)
  own_or_parent c (inr (r, is, parent)) =
      let parents : parents_of s.classes s.self ≡ c ∷ [] =
      ap (λ (o : Option ClassRecord). option_map_or (λ (x : ClassRecord). option_map_or (λ q. q ∷ []) x.parent []) o []) is
      ∙ ap (λ (o : Option ClassId). option_map_or (λ q. q ∷ []) o []) parent in
      superclasses-of_parent s.classes sound.ordered s.self c c
      (subst (λ (cs : List ClassId). Contains cs c) (sym parents) (Contains-here c [])) (is-own_superclass s.classes sound.ordered c)

  -- ---- What a call of invokespecial finds.

  -- a constructor's receiver, or another one's, is of a class below the method's
  pub special_below : (i : Instr) (c up : ClassId) (method : MethodRecord) (v : Value) → i.op ≡ INVOKESPECIAL → SuitsCall s heap i c method v
      → (IsInterface s.classes up → ⊥) → IsSubclass s.classes c up → (v ≡ Held.Null → ⊥)
      → (class : ClassId) × RunsAs heap v class × IsSubclass s.classes class up
  special_below i c up method v op (for_virtual is fits) none above some = absurd (let both : 0xb6 ≡ 0xb7 = sym is ∙ op in omega (arith, both))
  special_below i c up method v op (for_interface is t k fits) none above some =
      absurd (let both : 0xb9 ≡ 0xb7 = sym is ∙ op in omega (arith, both))
  special_below i c up method v op (for_made is init place makes fits) none above some = (c, made_runs v place c makes fits, above)
  special_below i c up method v op (for_this is init own fits) none above some =
      let this = this_runs v fits in (
        this.0,
        this.1,
        superclasses-trans s.classes sound.ordered this.0 s.self up this.2
            (superclasses-trans s.classes sound.ordered s.self c up (own_or_parent c own) above),
      )
  special_below i c up method v op (for_special is other below fits) none above some = elim (reference_runs v _ fits) [
    | inl null ↦ absurd (some null)
    | inr (class, runs) ↦ (
      class,
      runs,
      fitting_below v class s.self up runs fits none (superclasses-trans s.classes sound.ordered s.self c up below above),
    )
  ]

  -- a receiver of another method than a constructor is of a class below what is above the running one
  pub special_above : (i : Instr) (c up : ClassId) (method : MethodRecord) (v : Value) → i.op ≡ INVOKESPECIAL → method.name ≢ INIT
      → SuitsCall s heap i c method v → (IsInterface s.classes up → ⊥) → IsSubclass s.classes s.self up → (v ≡ Held.Null → ⊥)
      → (class : ClassId) × RunsAs heap v class × IsSubclass s.classes class up
  special_above i c up method v op no_init (for_virtual is fits) none above some =
      absurd (let both : 0xb6 ≡ 0xb7 = sym is ∙ op in omega (arith, both))
  special_above i c up method v op no_init (for_interface is t k fits) none above some =
      absurd (let both : 0xb9 ≡ 0xb7 = sym is ∙ op in omega (arith, both))
  special_above i c up method v op no_init (for_made is init place makes fits) none above some = absurd (no_init init)
  special_above i c up method v op no_init (for_this is init own fits) none above some = absurd (no_init init)
  special_above i c up method v op no_init (for_special is other below fits) none above some = elim (reference_runs v _ fits) [
    | inl null ↦ absurd (some null)
    | inr (class, runs) ↦ (class, runs, fitting_below v class s.self up runs fits none above)
  ]

  -- what any call finds is null, or has a class
  pub suited_runs : (i : Instr) (c : ClassId) (method : MethodRecord) (v : Value) → SuitsCall s heap i c method v
      → (v ≡ Held.Null) ⊎ ((class : ClassId) × RunsAs heap v class)
  suited_runs i c method v (for_virtual is fits) = reference_runs v _ fits
  suited_runs i c method v (for_made is init place makes fits) = inr (c, made_runs v place c makes fits)
  suited_runs i c method v (for_this is init own fits) = let this = this_runs v fits in inr (this.0, this.1)
  suited_runs i c method v (for_special is other below fits) = reference_runs v _ fits
  suited_runs i c method v (for_interface is t k fits) = runs_or_null v t k fits

-- ---- The domain knows it.

module _ (around : Surroundings) (table : IsSoundTable around.classes around.table) (quota : ℕ) (inside : Inside)
    (sealed : IsSealedInside around quota inside) where
  object_known : (a : ℕ) (o : Object) → object_named inside.heap a ≡ Some o → IsNamed around.table (run_class o)
  object_known a (Plain c fields) is =
      (sealed.objects (named a (Plain c fields)) (found_stands a (Plain c fields) inside.heap is)).0
  object_known a (Array element items) is = table.knows_system OBJECT (omega arith)
  object_known a (Text units) is = table.knows_system STRING (omega arith)
  object_known a (Task n) is = table.knows_system TASK (omega arith)

  pub receiver_known : (v : Value) (c : ClassId) → RunsAs inside.heap v c → IsNamed around.table c
  receiver_known (Held.Obj a) c (o, is, run) = subst (IsNamed around.table) (sym run) (object_known a o is)
  receiver_known (Held.Cap k) c run = subst (IsNamed around.table) (sym run) (table.knows_system CAPABILITY (omega arith))
  receiver_known (Held.Int n) c run = absurd run
  receiver_known (Held.Long n) c run = absurd run
  receiver_known Held.Null c run = absurd run
  receiver_known Held.Unset c run = absurd run
