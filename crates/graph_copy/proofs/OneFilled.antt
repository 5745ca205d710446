-- One copy is filled, place by place: its source stays as it was, and the copy can be written at each place.
use Rattle.std.proofs.Common.{◌≡◌, ℕ, suc, ◌+◌, ◌^◌, ◌<◌, ◌≤◌, Bool, true, false, List, [], ◌∷◌, Some, refl, sym, ap, ◌∙◌, subst, inl, inr, arith}
use Rattle.std.proofs.lemmas.Option.{same_Some}
use Rattle.jk_model.specs.declared.identifiers.DomainId.{DomainId}
use Rattle.jk_model.specs.declared.values.Value.{Value}
use Rattle.jk_model.specs.declared.values.Value.TheVariants as Held
use Rattle.jk_model_classes.specs.declared.records.ClassRecord.{ClassRecord}
use Rattle.jk_model_domains.specs.Objects.{NamedObject, Object, object_named}
use Rattle.jk_model_graphs.specs.Followed.{followed}
use Rattle.jk_model_heaps.specs.declared.shapes.Shape.{Shape}
use Rattle.jk_model_heaps.specs.Heaps.{shape_of}
use Rattle.object_store.specs.HeapContents.{HasItem, HeapContent, IsHeapContent, IsLaidOut, IsLive, IsWritten, TakesItem, WritesObject, item_of}
use Rattle.object_store.proofs.ObjectsWritten.{live_after, live_beside, then_written, written_as_it_is}
use Rattle.graph_copy.specs.Filled.{HasImage, HaveImages, MayFillOne, copied_object, image_of}
use Rattle.graph_copy.specs.Laid.{empty_copy}
use Rattle.graph_copy.specs.Places.{is_kept_at, place_count}
use Rattle.graph_copy.proofs.ChainsFilled.{name_so_far}
use Rattle.graph_copy.proofs.ChainsForgotten.{same_domain_or_not}
use Rattle.graph_copy.proofs.ObjectsMet.{only_value}
use Rattle.graph_copy.proofs.PlacesFilled.{item_at_place, kept_is_followed, nothing_filled, partly, partly_laid_out, place_filled, place_left_empty, wholly_filled}
use Rattle.graph_copy.proofs.PlacesWalked.{few_by, places_are}

pub few_to_fill : (c : HeapContent) (classes : List ClassRecord) (from to : DomainId) (a b : ℕ) (shape : Shape) → IsHeapContent c
    → (may : MayFillOne c classes from to a b) → ((object : Object) → IsLive c from a object → shape ≡ shape_of object)
    → place_count classes shape < 2 ^ 32
few_to_fill c classes from to a b shape holds may is =
    let few = few_by c from a may.object holds may.live (c.quota from) refl in
    let same : place_count classes shape ≡ place_count classes (shape_of may.object) = ap (place_count classes) (is may.object may.live) in
    omega (arith, few, same, places_are classes may.object may.laid_out)

-- the one object of its name
pub record IsFillable (c : HeapContent) (classes : List ClassRecord) (from to : DomainId) (b : ℕ) (object : Object) : Type 0 where
  pub laid_out : IsLaidOut classes object
  pub images : HaveImages c from (followed classes object)
  pub empty : IsLive c to b (empty_copy classes object)

pub fillable : (c : HeapContent) (classes : List ClassRecord) (from to : DomainId) (a b : ℕ) (object : Object) → MayFillOne c classes from to a b
    → IsLive c from a object → IsFillable c classes from to b object
fillable c classes from to a b object may live =
    let same : may.object ≡ object = same_Some may.object object (sym may.live ∙ live) in
    subst (λ (o : Object). IsFillable c classes from to b o) same
    (record { laid_out = may.laid_out; images = may.images; empty = may.empty })

pub empty_is_written : (c : HeapContent) (classes : List ClassRecord) (from to : DomainId) (a b : ℕ) (object : Object) → IsHeapContent c
    → MayFillOne c classes from to a b → IsLive c from a object → WritesObject c c to b (partly classes (c.mark from) object 0)
empty_is_written c classes from to a b object holds may live =
    let ready = fillable c classes from to a b object may live in
    subst (λ (o : Object). WritesObject c c to b o) (sym (nothing_filled classes (c.mark from) object))
    (written_as_it_is c to b (empty_copy classes object) holds ready.empty)

module _ (c now : HeapContent) (classes : List ClassRecord) (from to : DomainId) (a b i : ℕ) (shape : Shape)
    (may : MayFillOne c classes from to a b) (is : (object : Object) → IsLive c from a object → shape ≡ shape_of object)
    (within : i < place_count classes shape)
    (writes : (object : Object) → IsLive c from a object → WritesObject c now to b (partly classes (c.mark from) object i)) where
  source_is : IsLive now from a may.object
  source_is = elim (same_domain_or_not from to) [
    | inl same ↦
        let there : IsLive c to a may.object = subst (λ (d : DomainId). IsLive c d a may.object) same may.live in
        subst (λ (d : DomainId). IsLive now d a may.object) (sym same)
        (live_beside c now to b a (partly classes (c.mark from) may.object i) may.object (may.apart same) there (writes may.object may.live))
    | inr differs ↦
        ap (λ (h : List NamedObject). object_named h a) ((writes may.object may.live).others from differs) ∙ may.live
  ]

  within_object : i < place_count classes (shape_of may.object)
  within_object = subst (λ (p : Shape). i < place_count classes p) (is may.object may.live) within

  pub has_place : HasItem now classes from a i
  has_place =
      let item = item_at_place classes may.object i may.laid_out within_object in
      record { object = may.object; live = source_is; laid_out = may.laid_out; value = item.0; stands = item.1 }

  -- it is the object that was there
  source_was : (object : Object) → IsLive now from a object → IsLive c from a object
  source_was object live =
      let same : may.object ≡ object = same_Some may.object object (sym source_is ∙ live) in subst (λ (o : Object). IsLive c from a o) same may.live

  copy_is : IsLive now to b (partly classes (c.mark from) may.object i)
  copy_is = live_after c now to b (empty_copy classes may.object) (partly classes (c.mark from) may.object i) may.empty (writes may.object may.live)

  module _ (told : Bool) (tells : told ≡ is_kept_at classes shape i) where
    kept_is : (object : Object) → IsLive c from a object → told ≡ is_kept_at classes (shape_of object) i
    kept_is object live = tells ∙ ap (λ (p : Shape). is_kept_at classes p i) (is object live)

    within_its : (object : Object) → IsLive c from a object → i < place_count classes (shape_of object)
    within_its object live = subst (λ (p : Shape). i < place_count classes p) (is object live) within

    pub is_left : told ≡ false → (object : Object) → IsLive c from a object
        → WritesObject c now to b (partly classes (c.mark from) object (i + 1))
    is_left isnt object live =
        let ready = fillable c classes from to a b object may live in
        let more : i + 1 ≡ suc i = omega arith in
        let same : partly classes (c.mark from) object (i + 1) ≡ partly classes (c.mark from) object i =
        ap (partly classes (c.mark from) object) more
        ∙ place_left_empty classes (c.mark from) object i ready.laid_out (within_its object live) (sym (kept_is object live) ∙ isnt) in
        subst (λ (o : Object). WritesObject c now to b o) (sym same) (writes object live)

    module _ (v : Value) (reads : (object : Object) → IsLive now from a object → item_of object i ≡ Some v) (kept : told ≡ true) where
      item_is : item_of may.object i ≡ Some v
      item_is = reads may.object source_is

      image_was : (x : ℕ) → v ≡ Held.Obj x → HasImage c from x
      image_was x same =
          may.images x (kept_is_followed classes may.object i x within_object (sym (kept_is may.object may.live) ∙ kept)
          (item_is ∙ ap (λ (u : Value). Some u) same))

      pub value_has_image : HaveImages now from (v ∷ [])
      value_has_image x there =
          let image = image_was x (only_value v (Held.Obj x) there) in
          let written = writes may.object may.live in
          record {
            is_name = name_so_far c now to from b x (partly classes (c.mark from) may.object i) (empty_copy classes may.object) may.empty written
                image.is_name;
            marked = subst (λ (m : ℕ). 0 < m) (sym (written.mark from x)) image.marked;
            small = subst (λ (m : ℕ). m ≤ 2 ^ 30) (sym (written.mark from x)) image.small;
          }

      same_image : (w : Value) → w ≡ image_of (now.mark from) v → w ≡ image_of (c.mark from) v
      same_image w told_image =
          let marks : now.mark from ≡ c.mark from = λ k x. (writes may.object may.live).mark from x k in
          told_image ∙ ap (λ (mark : ℕ → ℕ). image_of mark v) marks

      written_there : IsHeapContent c → IsWritten (partly classes (c.mark from) may.object i) i (image_of (c.mark from) v)
          (partly classes (c.mark from) may.object (suc i))
      written_there holds =
          place_filled classes (c.mark from) may.object i v may.laid_out (holds.stored from a may.object may.live) within_object
          (sym (kept_is may.object may.live) ∙ kept) item_is (λ x same. (image_was x same).small) (λ x same. (image_was x same).marked)

      module _ (holds : IsHeapContent c) (w : Value) (images : w ≡ image_of (now.mark from) v) where
        written_now : IsWritten (partly classes (c.mark from) may.object i) i w (partly classes (c.mark from) may.object (suc i))
        written_now =
            subst (λ (u : Value). IsWritten (partly classes (c.mark from) may.object i) i u (partly classes (c.mark from) may.object (suc i)))
            (sym (same_image w images)) (written_there holds)

        pub item_is_taken : TakesItem now classes to b i w
        item_is_taken = record {
          object = partly classes (c.mark from) may.object i;
          live = copy_is;
          laid_out = partly_laid_out classes (c.mark from) may.object i may.laid_out;
          new = partly classes (c.mark from) may.object (suc i);
          written = written_now;
        }

        pub is_filled : (new : HeapContent)
            → ((object after : Object) → IsLive now to b object → IsWritten object i w after → WritesObject now new to b after) → (object : Object)
            → IsLive c from a object → WritesObject c new to b (partly classes (c.mark from) object (i + 1))
        is_filled new wrote object live =
            let same : may.object ≡ object = same_Some may.object object (sym may.live ∙ live) in
            let more : i + 1 ≡ suc i = omega arith in
            subst (λ (o : Object). WritesObject c new to b (partly classes (c.mark from) o (i + 1))) same
            (subst (λ (k : ℕ). WritesObject c new to b (partly classes (c.mark from) may.object k)) (sym more)
            (then_written c now new to b (partly classes (c.mark from) may.object i) (partly classes (c.mark from) may.object (suc i))
            (writes may.object may.live)
            (wrote (partly classes (c.mark from) may.object i) (partly classes (c.mark from) may.object (suc i)) copy_is written_now)))

pub wholly_written : (c now : HeapContent) (classes : List ClassRecord) (from to : DomainId) (a b i : ℕ) (shape : Shape)
    → MayFillOne c classes from to a b → ((object : Object) → IsLive c from a object → shape ≡ shape_of object) → i ≡ place_count classes shape
    → ((object : Object) → IsLive c from a object → WritesObject c now to b (partly classes (c.mark from) object i)) → (object : Object)
    → IsLive c from a object → WritesObject c now to b (copied_object classes (c.mark from) object)
wholly_written c now classes from to a b i shape may is end writes object live =
    let ready = fillable c classes from to a b object may live in
    let last : i ≡ place_count classes (shape_of object) = end ∙ ap (place_count classes) (is object live) in
    subst (λ (o : Object). WritesObject c now to b o)
    (ap (partly classes (c.mark from) object) last ∙ wholly_filled classes (c.mark from) object ready.laid_out) (writes object live)
