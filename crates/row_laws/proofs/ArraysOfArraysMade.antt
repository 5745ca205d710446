-- Arrays of arrays keep what is kept: each array that is made is sealed, and the one of the first count fits where it is pushed.
use Rattle.std.proofs.Common.{inl, inr, ◌≡◌, ℕ, zero, suc, ◌+◌, ◌-◌, ◌≤◌, ℤ, List, [], ◌∷◌, length, map, replicate, Contains, Option, Some, None, refl, sym, ap, subst, ◌∙◌, arith}
use Rattle.std.specs.Prelude.{flat_map, option_and_then, option_map}
use Rattle.std.specs.List.{AllByRecursion}
use Rattle.std.proofs.lemmas.List.{length-map, length-replicate}
use Rattle.std.proofs.lemmas.List.Elements.{Contains-append_cases, Contains-append_left, Contains-append_right}
use Rattle.list_lemmas.proofs.ItemsOfLists.{Contains-cases, Contains-here, Contains-none, Contains-there}
use Rattle.list_lemmas.proofs.TestsAndOrders.{same_pos}
use Rattle.jk_model.specs.declared.steps.Raise.TheVariants as Raised
use Rattle.jk_model.specs.declared.steps.Standing.TheVariants as Stands
use Rattle.jk_model.specs.declared.values.Value.{Value}
use Rattle.jk_model.specs.declared.values.Value.TheVariants as Held
use Rattle.jk_model_classes.specs.declared.records.BaseRef.{BaseRef}
use Rattle.jk_model_classes.specs.declared.records.ClassRecord.{ClassRecord}
use Rattle.jk_model_classes.specs.declared.records.Link.TheVariants as To
use Rattle.jk_model_classes.specs.declared.records.TypeRef.{TypeRef}
use Rattle.jk_model_typing.specs.declared.frames.Demand.TheVariants.{Fitting}
use Rattle.jk_model_typing.specs.declared.frames.VType.TheVariants.{Int}
use Rattle.jk_model_typing.specs.FrameTypes.{array_type, of_type, value_of}
use Rattle.jk_model_typing.specs.Scopes.{CodeScope}
use Rattle.jk_model_domains.specs.Objects.{NamedObject, Object, Array, object_named, type_of}
use Rattle.jk_model_domains.specs.ValueTypes.{HoldsDeclared, ValueFits}
use Rattle.jk_model_heaps.specs.Heaps.{Makes, named}
use Rattle.jk_model_heaps.specs.RunningCode.{RunsCode}
use Rattle.jk_model_heaps.specs.Workings.{GoesOnWith, Outcome, Setting, Working, with_heap}
use Rattle.jk_model_heap_rows.specs.ArrayTrees.{IsTree, Made, element_type}
use Rattle.jk_model_heap_rows.specs.NewObjectRows.{MakesArrays, count_of, counts_of}
use Rattle.jk_model_sealing.specs.SealedInsides.{IsNamedBase, IsSealedObject, Surroundings}
use Rattle.heap_laws.proofs.NewObjects.{zero_fits}
use Rattle.heap_laws.proofs.ObjectsAfterChanges.{made_there}
use Rattle.heap_laws.specs.FittingOutcomes.{IsOfType}
use Rattle.heap_laws.specs.RunningFrames.{RunsWell}
use Rattle.heap_laws.specs.SoundCodes.{AreSoundCodes}
use Rattle.row_laws.proofs.InstancesFitTypes.{instance_fits}
use Rattle.typing_lemmas.proofs.OneScope.{one_link}
use Rattle.row_laws.proofs.ClassesToMake.{type_known, type_short}
use Rattle.row_laws.proofs.HeapFramesLeft.{Keeps, declared_fits, fresh_raised, in_line, raised, shape_at, took}
use Rattle.row_laws.proofs.InsidesMade.{IsNoTask, made_keeps}

-- ---- Counts.

count_more : (o : Option ℕ) (others : Option (List ℕ)) (many : ℕ) (sizes : List ℕ)
    → ((more : List ℕ) → others ≡ Some more → length more ≡ many)
    → option_and_then (λ (count : ℕ). option_map (λ (counts : List ℕ). count ∷ counts) others) o ≡ Some sizes → length sizes ≡ suc many
count_more None others many sizes rest is = absurd cc
count_more (Some n) None many sizes rest is = absurd cc
count_more (Some n) (Some more) many sizes rest is =
    let same : n ∷ more ≡ sizes = cc in
    ap length (sym same) ∙ ap suc (rest more refl)

-- as many counts as were given
as_many_counts : (ks : List ℤ) (sizes : List ℕ) → counts_of ks ≡ Some sizes → length sizes ≡ length ks
as_many_counts [] [] is = refl
as_many_counts [] (n ∷ sizes) is = absurd cc
as_many_counts (k ∷ ks) sizes is = count_more (count_of k) (counts_of ks) (length ks) sizes (as_many_counts ks) is

-- ---- Trees of arrays in the heap in which they were made.

module _ (around : Surroundings) (sound : AreSoundCodes around.classes) (heap : List NamedObject) where
  -- an array is held where its type is declared
  array_held : (a dims : ℕ) (base : BaseRef) (o : Object) → 1 ≤ dims → object_named heap a ≡ Some o → type_of o ≡ array_type dims base
      → HoldsDeclared around.classes heap (Held.Obj a) (array_type dims base)
  array_held a zero base o some is same = absurd (omega (arith, some))
  array_held a (suc dims) base o some is same =
      (o, is, instance_fits around.classes sound (type_of o) (array_type (suc dims) base) (inl same))

  abbrev IsMadeWell : NamedObject → Type 0
  IsMadeWell e = IsSealedObject around heap e.object × IsNoTask e.object

  abbrev StandThere : List NamedObject → Type 0
  StandThere objects = (e : NamedObject) → Contains objects e → object_named heap e.name ≡ Some e.object

  -- its value is of its type, and its objects are sealed
  record TreeFits (t : TypeRef) (tree : Made) : Type 0 where
    value : IsOfType around heap t tree.value
    objects : (e : NamedObject) → Contains tree.objects e → IsMadeWell e

  abbrev objects_of : List Made → List NamedObject
  objects_of items = flat_map (λ (e : Made). e.objects) items

  abbrev values_of : List Made → List Value
  values_of items = map (λ (e : Made). e.value) items

  record TreesFit (t : TypeRef) (items : List Made) : Type 0 where
    values : AllByRecursion (λ (v : Value). IsOfType around heap t v) (values_of items)
    objects : (e : NamedObject) → Contains (objects_of items) e → IsMadeWell e

  trees_fit : (t : TypeRef) (P : Made → Type 0) → ((tree : Made) → P tree → StandThere tree.objects → TreeFits t tree) → (items : List Made)
      → AllByRecursion P items → StandThere (objects_of items) → TreesFit t items
  trees_fit t P each [] are there = record { values = tt; objects = λ e has. absurd (Contains-none e has) }
  trees_fit t P each (tree ∷ items) are there =
      let one = each tree are.0 (λ e has. there e (Contains-append_left tree.objects (objects_of items) e has)) in
      let more = trees_fit t P each items are.1 (λ e has. there e (Contains-append_right tree.objects (objects_of items) e has)) in
      record {
        values = (one.value, more.values);
        objects = λ e has. elim (Contains-append_cases tree.objects (objects_of items) e has) [
          | inl here ↦ one.objects e here
          | inr later ↦ more.objects e later
        ];
      }

  -- an array in front of what its items are
  array_fits : (t : TypeRef) (a : ℕ) (items : List Made) → IsNamedBase around.table t.base → 1 ≤ t.dims → t.dims ≤ 255
      → StandThere (named a (Array (element_type t) (values_of items)) ∷ objects_of items) → TreesFit (element_type t) items
      → TreeFits t (record { value = Held.Obj a; objects = named a (Array (element_type t) (values_of items)) ∷ objects_of items })
  array_fits t a items base some few there fit =
      let array : NamedObject = named a (Array (element_type t) (values_of items)) in
      let stands = there array (Contains-here array (objects_of items)) in
      let dims : t.dims - 1 + 1 ≡ t.dims = omega (arith, some) in
      let well : IsMadeWell array = ((base, omega (arith, few), fit.values), λ n e. absurd cc) in
      record {
        value = (
          array_held a t.dims t.base array.object some stands (ap (λ (n : ℕ). array_type n t.base) dims),
          (array.object, stands),
        );
        objects = λ e has. elim (Contains-cases e array (objects_of items) has) [
          | inl same ↦ subst IsMadeWell same well
          | inr later ↦ fit.objects e later
        ];
      }

  tree_fits : (t : TypeRef) (counts : List ℕ) → IsNamedBase around.table t.base → length counts ≤ t.dims → t.dims ≤ 255 → (tree : Made)
      → IsTree t counts tree → StandThere tree.objects → TreeFits t tree
  tree_fits t [] base deep few tree is there =
      subst (TreeFits t) (sym is) (record { value = zero_fits around heap t; objects = λ e has. absurd (Contains-none e has) })
  tree_fits t (n ∷ counts) base deep few tree (a, items, many, each, is) there =
      let objects : List NamedObject = named a (Array (element_type t) (values_of items)) ∷ objects_of items in
      let stand : StandThere objects = subst (λ (y : Made). StandThere y.objects) is there in
      let fit = trees_fit (element_type t) (IsTree (element_type t) counts)
      (λ tree is. tree_fits (element_type t) counts base (omega (arith, deep)) (omega (arith, few)) tree is) items each
      (λ e has. stand e (Contains-there e (named a (Array (element_type t) (values_of items))) (objects_of items) has)) in
      subst (TreeFits t) (sym is) (array_fits t a items base (omega (arith, deep)) few stand fit)

-- a reference as it is read
reference_read : (s : CodeScope) (heap : List NamedObject) (v : Value) (dims : ℕ) (base : BaseRef) → 1 ≤ dims
    → ValueFits s heap v (value_of s.classes (array_type dims base)) → ValueFits s heap v (of_type s.classes (array_type dims base))
reference_read s heap v zero base some fits = absurd (omega (arith, some))
reference_read s heap v (suc dims) base some fits = fits

-- ---- The row.

module _ (around : Surroundings) (x : Setting) (w new : Working) (outcome : Outcome) (runs : RunsWell around x w)
    (code : RunsCode around.classes w.frame) where
  module _ (h : MakesArrays x code.scope code.instr w new outcome) (sizes : List ℕ) (some : counts_of h.counts ≡ Some sizes) where
    abbrev Arrays : ℕ → List NamedObject → List ClassRecord → Type 0
    Arrays a heap classes =
        (made : List NamedObject) → IsTree h.kind sizes (record { value = Held.Obj a; objects = made })
        → Makes classes x.quota w.inside.heap made heap
        → GoesOnWith w (map Held.Int h.counts) (Held.Obj a ∷ []) (with_heap w.inside heap) new outcome → Keeps around x w runs code new outcome

    arrays_made : (a : ℕ) (heap : List NamedObject) → Arrays a heap around.classes
    arrays_made a heap made is_tree makes goes =
        let shape = shape_at around x w runs code 0xc5 h.op in
        let link : To.Class shape.0 ≡ To.Class h.kind = one_link code.scope code.instr (To.Class shape.0) (To.Class h.kind) shape.2 h.names in
        let same : shape.0 ≡ h.kind = cc in
        let dims : shape.0.dims ≡ h.kind.dims = ap (λ (t : TypeRef). t.dims) same in
        let many : shape.1 ≡ length h.counts = same_pos shape.1 (length h.counts) (sym shape.3 ∙ h.as_many) in
        let as_many : length sizes ≡ length h.counts = as_many_counts h.counts sizes some in
        let fit = tree_fits around runs.setting.codes heap h.kind sizes (type_known around x w runs code h.kind h.names)
        (omega (arith, as_many, many, shape.5, dims)) (type_short around x w runs code h.kind h.names)
        (record { value = Held.Obj a; objects = made }) is_tree
        (λ e has. made_there around.classes x.quota w.inside.heap made heap makes e has) in
        let kept = made_keeps around x w.inside runs.inside made heap makes fit.objects in
        let here = reference_read code.scope heap (Held.Obj a) h.kind.dims h.kind.base (omega (arith, shape.4, shape.5, dims))
        (declared_fits around x w runs code heap (Held.Obj a) h.kind fit.value.0) in
        took around x w runs code (replicate shape.1 (Fitting Int)) (of_type code.scope.classes shape.0 ∷ []) shape.6 (map Held.Int h.counts)
        (Held.Obj a ∷ []) (with_heap w.inside heap) new outcome goes (in_line code.instr 0xc5 h.op refl)
        (length-map h.counts Held.Int ∙ sym many ∙ sym (length-replicate shape.1 (Fitting Int))) kept (λ c. refl) (fit.value.1, tt)
        (subst (λ (t : TypeRef). ValueFits code.scope heap (Held.Obj a) (of_type code.scope.classes t)) (sym same) here, tt)

  pub arrays_keep : MakesArrays x code.scope code.instr w new outcome → Keeps around x w runs code new outcome
  arrays_keep h = elim h.does [
    | inl (none, raises) ↦ fresh_raised around x w runs code 25 9 new outcome (omega arith) refl raises
    | inr (inl (sizes, some, (lacks, raises))) ↦ raised around x w runs code (Raised.Standing Stands.OutOfMemoryError) new outcome raises tt
    | inr (inr (sizes, a, heap, some, fits, tree, goes)) ↦
        subst (Arrays h sizes some a heap) (sym runs.setting.classes) (arrays_made h sizes some a heap) tree.made tree.is_tree tree.makes goes
  ]
