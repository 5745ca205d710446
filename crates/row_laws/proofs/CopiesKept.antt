-- What is kept by arraycopy: the target's items still fit, since of whole numbers both arrays are of one kind, and of references those
-- alone are copied that fit.
use Rattle.std.proofs.Common.{inl, inr, ◌≡◌, ℕ, zero, suc, ◌+◌, ◌<◌, ◌≤◌, ◌==◌, Bool, true, false, List, [], ◌∷◌, ◌++◌, length, take, drop, Contains, Option, Some, None, MatchOption, slice_get, refl, sym, ap, subst, ◌∙◌, arith, length-append, length-drop}
use Rattle.std.specs.Prelude.{if◌then◌else◌}
use Rattle.std.specs.List.{AllByRecursion}
use Rattle.std.proofs.lemmas.Bool.{eqb-true}
use Rattle.std.proofs.lemmas.List.{length-take-le}
use Rattle.std.proofs.lemmas.Option.{same_Some, slice_get_within}
use Rattle.list_lemmas.proofs.ItemsByPlace.{length_take, slice_get-from_take, slice_get-in_take}
use Rattle.list_lemmas.proofs.ItemsOfLists.{each-by_place, each-weaker}
use Rattle.list_lemmas.proofs.LastItems.{each-append}
use Rattle.jk_model.specs.declared.identifiers.ClassId.{ClassId}
use Rattle.jk_model.specs.declared.values.Value.{Value}
use Rattle.jk_model.specs.declared.values.Value.TheVariants as Held
use Rattle.jk_model.proofs.EachItem.{all_at}
use Rattle.jk_model_classes.specs.declared.records.BaseRef.{BaseRef}
use Rattle.jk_model_classes.specs.declared.records.BaseRef.TheVariants as Base
use Rattle.jk_model_classes.specs.declared.records.ClassRecord.{ClassRecord}
use Rattle.jk_model_classes.specs.declared.records.TypeRef.{TypeRef}
use Rattle.jk_model_classes.specs.declared.sharing.Stub.{Stub}
use Rattle.jk_model_classes.specs.Classes.{IsInterface, record_of}
use Rattle.jk_model_typing.specs.FrameTypes.{array_type}
use Rattle.jk_model_domains.specs.Objects.{NamedObject, Array}
use Rattle.jk_model_domains.specs.ValueTypes.{HoldsDeclared}
use Rattle.jk_model_heaps.specs.Heaps.{IsGrown, named, with_object}
use Rattle.jk_model_heaps.specs.References.{IsHeapArray, IsNullOrInstance}
use Rattle.jk_model_heaps.specs.SystemClasses.{ARRAY_INDEX_EXCEPTION, ARRAY_STORE_EXCEPTION, NULL_POINTER_EXCEPTION}
use Rattle.jk_model_heaps.specs.Workings.{Inside, Setting, with_heap}
use Rattle.jk_model_sealing.specs.SealedInsides.{IsKnownValue, IsSealedInside, IsSealedObject, Surroundings}
use Rattle.jk_model_system_rows.specs.Answers.{Answered, fails_by, gives_nothing}
use Rattle.jk_model_system_rows.specs.ArrayCopies.{ArrayCopy, ArrayPair, CopiesArray, CopiesItems, CopyRange, IsFittingFront, IsFront, at_null, copied, copies, copy_answer, number_kind, of_other_kinds, out_of_range}
use Rattle.heap_laws.proofs.ObjectsAfterChanges.{found_stands}
use Rattle.heap_laws.proofs.StillFits.{declared_held, value_known}
use Rattle.heap_laws.specs.FittingOutcomes.{IsOfType}
use Rattle.heap_laws.specs.KeptInsides.{KeepsInside}
use Rattle.heap_laws.specs.RunningFrames.{IsKnownSetting}
use Rattle.heap_laws.specs.SoundCodes.{AreSoundCodes}
use Rattle.row_laws.proofs.InstancesFitTypes.{instance_held}
use Rattle.row_laws.proofs.SystemAnswersKept.{AnswerFits, KeepsAnswer, answered, fails_fit, kept_by}
use Rattle.row_laws.proofs.InsidesKept.{writing_grown, writing_kept}

-- ---- Parts of lists.

module _ {X : Type 0} (P : X → Type 0) where
  each_taken : (n : ℕ) (xs : List X) → AllByRecursion P xs → AllByRecursion P (take n xs)
  each_taken zero xs h = tt
  each_taken (suc n) [] h = tt
  each_taken (suc n) (x ∷ xs) h = (h.0, each_taken n xs h.1)

  each_left : (n : ℕ) (xs : List X) → AllByRecursion P xs → AllByRecursion P (drop n xs)
  each_left zero xs h = h
  each_left (suc n) [] h = tt
  each_left (suc n) (x ∷ xs) h = each_left n xs h.1

copied_length : (source target : List Value) (from to front : ℕ) → from + front ≤ length source → to + front ≤ length target
    → length target ≡ length (copied source from target to front)
copied_length source target from to front low high =
    let a = length-append (take to target ++ take front (drop from source)) (drop (to + front) target) in
    let b = length-append (take to target) (take front (drop from source)) in
    let c = length-drop (to + front) target in
    let d = length-drop from source in
    let e = length-take-le to target (omega (arith, high)) in
    let f = length-take-le front (drop from source) (omega (arith, d, low)) in
    omega (arith, a, b, c, e, f, high)

-- ---- Types of whole numbers, and of references.

-- an array's elements are whole numbers of this kind
kind_is : (dims : ℕ) (base k : BaseRef) → number_kind (array_type dims base) ≡ Some k → array_type dims base ≡ array_type 0 k
kind_is zero (Base.Class c) k e = absurd cc
kind_is zero Base.Bool k e = ap (array_type 0) (same_Some Base.Bool k e)
kind_is zero Base.Byte k e = ap (array_type 0) (same_Some Base.Byte k e)
kind_is zero Base.Char k e = ap (array_type 0) (same_Some Base.Char k e)
kind_is zero Base.Short k e = ap (array_type 0) (same_Some Base.Short k e)
kind_is zero Base.Int k e = ap (array_type 0) (same_Some Base.Int k e)
kind_is zero Base.Long k e = ap (array_type 0) (same_Some Base.Long k e)
kind_is (suc dims) base k e = absurd (no_kind (suc dims == 0) _ refl e)
  where
    no_kind : (b : Bool) (o : Option BaseRef) → (suc dims == 0) ≡ b → (if b then o else None) ≡ Some k → ⊥
    no_kind true o is e = let same : suc dims ≡ 0 = eqb-true (suc dims) 0 is in omega (arith, same)
    no_kind false o is e = cc

null_held : (classes : List ClassRecord) (heap : List NamedObject) (dims : ℕ) (base : BaseRef) → number_kind (array_type dims base) ≡ None
    → HoldsDeclared classes heap Held.Null (array_type dims base)
null_held classes heap zero (Base.Class c) e = tt
null_held classes heap zero Base.Bool e = absurd cc
null_held classes heap zero Base.Byte e = absurd cc
null_held classes heap zero Base.Char e = absurd cc
null_held classes heap zero Base.Short e = absurd cc
null_held classes heap zero Base.Int e = absurd cc
null_held classes heap zero Base.Long e = absurd cc
null_held classes heap (suc dims) base e = tt

module _ (around : Surroundings) (x : Setting) (known : IsKnownSetting around x) (old : Inside) (sealed : IsSealedInside around x.quota old) where
  abbrev Fits : TypeRef → Value → Type 0
  Fits t v = IsOfType around old.heap t v

  array_sealed : (v : Value) (a : IsHeapArray old.heap v) → IsSealedObject around old.heap (Array a.element a.items)
  array_sealed v a = sealed.objects (named a.name (Array a.element a.items)) (found_stands a.name (Array a.element a.items) old.heap a.object)

  -- ---- What is copied fits.

  instance_fits : (t : TypeRef) → number_kind t ≡ None → (v : Value) → IsKnownValue around.caps old.heap v → IsNullOrInstance x old.heap v t → Fits t v
  instance_fits t none v k (inl null) =
      (subst (λ (u : Value). HoldsDeclared around.classes old.heap u t) (sym null) (null_held around.classes old.heap t.dims t.base none), k)
  instance_fits t none v k (inr is) =
      let sound : AreSoundCodes x.classes = subst AreSoundCodes (sym known.classes) known.codes in
      let shows = subst
      (λ (classes : List ClassRecord). (s : Stub) (i : ClassId) → Contains x.caps.stand_ins s → record_of classes s.class ≡ None
      → Contains s.interfaces i → IsInterface classes i) (sym known.classes) known.stand_ins in (
        subst (λ (classes : List ClassRecord). HoldsDeclared classes old.heap v t) known.classes
            (instance_held x.classes sound x.caps old.heap v t shows is),
        k,
      )

  module _ (c : ArrayCopy) (p : ArrayPair old.heap c) (r : CopyRange p) (front : ℕ) where
    abbrev source : List Value
    source = p.source.items

    abbrev target : List Value
    target = p.target.items

    abbrev element : TypeRef
    element = p.target.element

    abbrev asked : List Value
    asked = take r.count (drop r.from source)

    abbrev moved : List Value
    moved = take front (drop r.from source)

    left_fits : AllByRecursion (Fits p.source.element) (drop r.from source)
    left_fits = each_left (Fits p.source.element) r.from source (array_sealed c.source p.source).2

    asked_short : length asked ≤ r.count
    asked_short = length_take (drop r.from source) r.count

    asked_here : (k : ℕ) (v : Value) → front ≤ length asked → slice_get moved k ≡ Some v
        → (k < front) × (slice_get asked k ≡ Some v) × IsKnownValue around.caps old.heap v
    asked_here k v within at =
        let low : k < front = omega (arith, slice_get_within moved k v at, length_take (drop r.from source) front) in
        let here = slice_get-from_take (drop r.from source) front k v at in
        let few : k < r.count = omega (arith, low, within, asked_short) in (
          low,
          slice_get-in_take (drop r.from source) r.count k v few here,
          (all_at (Fits p.source.element) (drop r.from source) k v left_fits here).1,
        )

    moved_fits : (kind : Option BaseRef) → number_kind element ≡ kind
        → MatchOption kind (IsFittingFront x old.heap element asked front) (λ (k : BaseRef). front ≡ length asked)
        → (front ≤ length asked) × AllByRecursion (Fits element) moved
    moved_fits None none f = (
      f.within,
      each-by_place (Fits element) moved (λ k v at.
          let here = asked_here k v f.within at in
          instance_fits element none v here.2 (f.fit k v here.0 here.1)),
    )
    moved_fits (Some kind) is f =
        let from : p.source.element ≡ array_type 0 kind = kind_is p.source.element.dims p.source.element.base kind (p.one_kind ∙ is) in
        let to : element ≡ array_type 0 kind = kind_is element.dims element.base kind is in
        let fits = subst (λ (t : TypeRef). AllByRecursion (Fits t) (drop r.from source)) (from ∙ sym to) left_fits in
        (omega (arith, f), each_taken (Fits element) front (drop r.from source) fits)

    module _ (fits : IsFront x old.heap element asked front) where
      abbrev now : List Value
      now = copied source r.from target r.to front

      abbrev both : (front ≤ length asked) × AllByRecursion (Fits element) moved
      both = moved_fits (number_kind element) refl fits

      target_fits : AllByRecursion (Fits element) target
      target_fits = (array_sealed c.target p.target).2

      now_fits : AllByRecursion (Fits element) now
      now_fits =
          each-append (Fits element) (take r.to target ++ moved) (drop (r.to + front) target)
          (each-append (Fits element) (take r.to target) moved (each_taken (Fits element) r.to target target_fits) both.1)
          (each_left (Fits element) (r.to + front) target target_fits)

      as_long : length target ≡ length now
      as_long =
          let few = both.0 in
          copied_length source target r.from r.to front (omega (arith, few, asked_short, r.in_source)) (omega (arith, few, asked_short, r.in_target))

      abbrev written : List NamedObject
      written = with_object p.target.name (Array element now) old.heap

      grows : IsGrown old.heap written
      grows = writing_grown around x old sealed p.target.name (Array element target) (Array element now) p.target.object (refl, as_long)

      now_sealed : IsSealedObject around written (Array element now)
      now_sealed =
          let s = array_sealed c.target p.target in (
            s.0,
            s.1,
            each-weaker (Fits element) (λ v. IsOfType around written element v)
                (λ v h. (declared_held old.heap written grows around.classes v element h.0, value_known old.heap written grows around.caps v h.1))
                now now_fits,
          )

      pub copy_kept : KeepsInside around x old
          (with_heap old (with_object p.target.name (Array p.target.element (copied p.source.items r.from p.target.items r.to front)) old.heap))
      copy_kept =
          writing_kept around x old sealed p.target.name (Array element target) (Array element now) p.target.object (refl, as_long) now_sealed
          (λ n e. absurd cc)

  -- ---- All of it.

  copy_fits : (heap : List NamedObject) (front count : ℕ) → AnswerFits around heap None (copy_answer front count)
  copy_fits heap front count =
      elim (front == count) as (λ b. AnswerFits around heap None (if b then gives_nothing else fails_by ARRAY_STORE_EXCEPTION)) [
        | true ↦ tt
        | false ↦ fails_fit around known.codes heap 20 (omega arith) refl
      ]

  copied_kept : (c : ArrayCopy) (done : Answered) → CopiesItems x c old done → KeepsAnswer around x old None done
  copied_kept c done (at_null null is) =
      answered around x known old sealed None done (fails_by NULL_POINTER_EXCEPTION) (fails_fit around known.codes old.heap 26 (omega arith) refl) is
  copied_kept c done (of_other_kinds some none is) =
      answered around x known old sealed None done (fails_by ARRAY_STORE_EXCEPTION) (fails_fit around known.codes old.heap 20 (omega arith) refl) is
  copied_kept c done (out_of_range p none is) =
      answered around x known old sealed None done (fails_by ARRAY_INDEX_EXCEPTION) (fails_fit around known.codes old.heap 30 (omega arith) refl) is
  copied_kept c done (copies p r front fits is) =
      kept_by around x known old sealed None done
      (with_heap old (with_object p.target.name (Array p.target.element (copied p.source.items r.from p.target.items r.to front)) old.heap))
      (copy_answer front r.count) is (copy_kept c p r front fits) refl
      (copy_fits (with_object p.target.name (Array p.target.element (copied p.source.items r.from p.target.items r.to front)) old.heap) front r.count)

  pub array_copy_kept : (given : List Value) (done : Answered) → CopiesArray x given old done → KeepsAnswer around x old None done
  array_copy_kept given done (c, is, does) = copied_kept c done does
