-- A domain stays sealed inside where objects are made that fit, where an object gets contents that fit, and where its own state changes as
-- instructions change it.
use Rattle.std.proofs.Common.{inl, inr, ◌≡◌, ◌⊎◌, ◌≤◌, ◌==◌, ℕ, Bool, true, false, cond, List, [], ◌∷◌, ◌++◌, length, find, option_map, Contains, Some, None, slice_get, sym, ap, subst, ◌∙◌}
use Rattle.std.specs.Prelude.{bytes_eq}
use Rattle.std.proofs.lemmas.Bool.{both_ways}
use Rattle.std.proofs.lemmas.List.Elements.{Contains-append_cases}
use Rattle.std.proofs.lemmas.Slice.Eq.{bytes_eq-Decides}
use Rattle.list_lemmas.proofs.FoundItems.{Finds, finds, maps_nothing}
use Rattle.list_lemmas.proofs.ItemsByPlace.{comes_from, old_or_new}
use Rattle.list_lemmas.proofs.ItemsOfLists.{Contains-at, stands_at}
use Rattle.jk_model.specs.declared.identifiers.ClassId.{ClassId}
use Rattle.jk_model.specs.declared.identifiers.MemberId.{MemberId}
use Rattle.jk_model.specs.declared.values.Value.{Value}
use Rattle.jk_model_classes.specs.declared.records.FieldRecord.{FieldRecord}
use Rattle.jk_model_classes.specs.Lookups.{FieldIs}
use Rattle.class_lemmas.proofs.OneRecord.{one_field}
use Rattle.jk_model_domains.specs.declared.states.ClassState.{ClassState}
use Rattle.jk_model_domains.specs.Objects.{NamedObject, Object, Text, PRINT_STREAM, object_named}
use Rattle.jk_model_domains.specs.OwnStates.{IsOwnState, Literal, OwnState, literal_named, with_state, with_static}
use Rattle.jk_model_domains.specs.ValueTypes.{HoldsDeclared}
use Rattle.jk_model_heaps.specs.Heaps.{IsAlike, IsGrown, Makes, heap_words, named, with_object}
use Rattle.jk_model_heaps.specs.Throwables.{standing_class}
use Rattle.jk_model_heaps.specs.Workings.{Inside, with_heap, with_own}
use Rattle.jk_model_sealing.specs.SealedInsides.{IsKnownValue, IsSealedInside, IsSealedObject, Surroundings}
use Rattle.heap_laws.specs.FittingOutcomes.{IsOfType}
use Rattle.heap_laws.specs.NamedObjects.{NamesDiffer}
use Rattle.heap_laws.proofs.AlikeObjects.{alike_text}
use Rattle.heap_laws.proofs.GrownHeaps.{making_grows, writing_grows}
use Rattle.heap_laws.proofs.ObjectsAfterChanges.{costs_together, made_names_differ, written_names_differ, written_words}
use Rattle.heap_laws.proofs.OwnStatesKept.{state_kept, static_kept}
use Rattle.heap_laws.proofs.StaticsAfterChanges.{value-changed, value-unstated}
use Rattle.heap_laws.proofs.StillFits.{declared_held, object_sealed, of_class, value_known}

-- ---- Another heap, to which the old one grew.

module _ (around : Surroundings) (quota : ℕ) (inside : Inside) (h : IsSealedInside around quota inside) (heap : List NamedObject)
    (g : IsGrown inside.heap heap) where
  literal_kept : (l : Literal) → object_named inside.heap l.name ≡ Some (Text l.text) → object_named heap l.name ≡ Some (Text l.text)
  literal_kept l is =
      let p = g.kept l.name (Text l.text) is in subst (λ (o : Object). object_named heap l.name ≡ Some o) (alike_text l.text p.0 p.2) p.1

  -- what is asked of the objects, of their names and of their cost is all that is left to see to
  sealed_with : NamesDiffer heap → ((e : NamedObject) → Contains heap e → IsSealedObject around heap e.object)
      → heap_words around.classes heap ≤ quota → IsSealedInside around quota (with_heap inside heap)
  sealed_with differ objects words = record {
    names_differ = differ;
    own = h.own;
    objects = objects;
    out = of_class inside.heap heap g inside.own.out PRINT_STREAM h.out;
    standing = λ s.
        let there = h.standing s in (there.0, there.1, of_class inside.heap heap g there.0 (standing_class s) there.2);
    literals = λ l has. literal_kept l (h.literals l has);
    statics = λ m v field is of.
        let held = h.statics m v field is of in
        (declared_held inside.heap heap g around.classes v field.kind held.0, value_known inside.heap heap g around.caps v held.1);
    words = words;
  }

-- ---- Objects are made.

module _ (around : Surroundings) (quota : ℕ) (inside : Inside) (made heap : List NamedObject) (h : IsSealedInside around quota inside)
    (makes : Makes around.classes quota inside.heap made heap)
    (new : (e : NamedObject) → Contains made e → IsSealedObject around heap e.object) where
  abbrev grows : IsGrown inside.heap heap
  grows = making_grows around.classes quota inside.heap made heap makes

  each_made : (e : NamedObject) → Contains heap e → IsSealedObject around heap e.object
  each_made e has =
      elim (Contains-append_cases inside.heap made e (subst (λ (all : List NamedObject). Contains all e) makes.grown has)) [
        | inl old ↦ object_sealed inside.heap heap grows around e.object (h.objects e old)
        | inr fresh ↦ new e fresh
      ]

  words_made : heap_words around.classes heap ≤ quota
  words_made =
      subst (λ (n : ℕ). n ≤ quota)
      (sym (ap (heap_words around.classes) makes.grown ∙ costs_together around.classes inside.heap made)) makes.fits

  pub made_sealed : IsSealedInside around quota (with_heap inside heap)
  made_sealed =
      sealed_with around quota inside h heap grows
      (made_names_differ around.classes quota inside.heap made heap h.names_differ makes) each_made words_made

-- ---- An object gets other contents.

module _ (around : Surroundings) (quota : ℕ) (inside : Inside) (a : ℕ) (old new : Object) (h : IsSealedInside around quota inside)
    (there : object_named inside.heap a ≡ Some old) (alike : IsAlike old new)
    (fits : IsSealedObject around (with_object a new inside.heap) new) where
  abbrev written : List NamedObject
  written = with_object a new inside.heap

  abbrev grows_written : IsGrown inside.heap written
  grows_written = writing_grows inside.heap a old new there alike

  written_by : (x e : NamedObject) (t : Bool) → Contains inside.heap x → cond t (named a new) x ≡ e → IsSealedObject around written e.object
  written_by x e true has gives = subst (λ (y : NamedObject). IsSealedObject around written y.object) gives fits
  written_by x e false has gives =
      subst (λ (y : NamedObject). IsSealedObject around written y.object) gives
      (object_sealed inside.heap written grows_written around x.object (h.objects x has))

  each_written : (e : NamedObject) → Contains written e → IsSealedObject around written e.object
  each_written e has =
      let place = stands_at written e has in
      let from = comes_from (λ (x : NamedObject). cond (x.name == a) (named a new) x) inside.heap place.0 e place.2 in
      written_by from.from e (from.from.name == a) (Contains-at inside.heap place.0 from.from from.there) from.gives

  pub written_sealed : IsSealedInside around quota (with_heap inside written)
  written_sealed =
      sealed_with around quota inside h written grows_written (written_names_differ a new inside.heap h.names_differ) each_written
      (subst (λ (n : ℕ). n ≤ quota) (sym (written_words around.classes a new old inside.heap h.names_differ alike there)) h.words)

-- ---- The own state changes.

module _ (around : Surroundings) (quota : ℕ) (inside : Inside) (h : IsSealedInside around quota inside) where
  static_by : (m k : MemberId) (field other : FieldRecord) (v w : Value) → FieldIs around.classes m field
      → IsOfType around inside.heap field.kind v → FieldIs around.classes k other → k ≡ m → w ≡ v → field ≡ other
      → HoldsDeclared around.classes inside.heap w other.kind × IsKnownValue around.caps inside.heap w
  static_by m k field other v w of fits at same is one =
      subst (λ (f : FieldRecord). HoldsDeclared around.classes inside.heap w f.kind × IsKnownValue around.caps inside.heap w) one
      (subst (λ (u : Value). HoldsDeclared around.classes inside.heap u field.kind × IsKnownValue around.caps inside.heap u) (sym is) fits)

  pub static_sealed : (m : MemberId) (field : FieldRecord) (v : Value) → FieldIs around.classes m field
      → IsOfType around inside.heap field.kind v → IsSealedInside around quota (with_own inside (with_static inside.own m v))
  static_sealed m field v of fits = record {
    names_differ = h.names_differ;
    own = static_kept around.classes around.table inside.own m v h.own;
    objects = h.objects;
    out = h.out;
    standing = h.standing;
    literals = h.literals;
    statics = λ k w other is at. elim (value-changed inside.own.classes m v k w is) [
      | inl was ↦ h.statics k w other was at
      | inr now ↦ static_by m k field other v w of fits at now.0 now.1
          (one_field around.classes m field other of (subst (λ (n : MemberId). FieldIs around.classes n other) now.0 at))
    ];
    words = h.words;
  }

  pub state_sealed : (c : ClassId) (state : ClassState) → IsSealedInside around quota (with_own inside (with_state inside.own c state))
  state_sealed c state = record {
    names_differ = h.names_differ;
    own = state_kept around.classes around.table inside.own c state h.own;
    objects = h.objects;
    out = h.out;
    standing = h.standing;
    literals = h.literals;
    statics = λ m v field is of. h.statics m v field (sym (value-unstated inside.own.classes c state m) ∙ is) of;
    words = h.words;
  }

-- ---- A text gets an object.

abbrev has_text : List ℕ → Literal → Bool
has_text text l = bytes_eq l.text text

-- no literal is of a text that has no object
none_of : (literals : List Literal) (text : List ℕ) → option_map (λ (l : Literal). l.name) (find (has_text text) literals) ≡ None → (k : ℕ)
    (l : Literal) → slice_get literals k ≡ Some l → l.text ≡ text → ⊥
none_of literals text none k l at same =
    let nothing : find (has_text text) literals ≡ None =
    maps_nothing (λ (x : Literal). x.name) (find (has_text text) literals) (sym none) in
    let fails : bytes_eq l.text text ≡ false = subst (Finds (has_text text) literals) nothing (finds (has_text text) literals) k l at in
    both_ways (bytes_eq l.text text) fails ((bytes_eq-Decides l.text text).1 same)

module _ (around : Surroundings) (quota : ℕ) (inside : Inside) (l : Literal) (h : IsSealedInside around quota inside)
    (none : literal_named inside.own l.text ≡ None) (there : object_named inside.heap l.name ≡ Some (Text l.text)) where
  abbrev own_now : OwnState
  own_now = record inside.own { literals = inside.own.literals ++ l ∷ [] }

  differ_by : (i j : ℕ) (a b : Literal) → (slice_get inside.own.literals i ≡ Some a) ⊎ ((i ≡ length inside.own.literals) × (a ≡ l))
      → (slice_get inside.own.literals j ≡ Some b) ⊎ ((j ≡ length inside.own.literals) × (b ≡ l)) → a.text ≡ b.text → i ≡ j
  differ_by i j a b (inl first) (inl second) same = h.own.literals_differ i j a b first second same
  differ_by i j a b (inl first) (inr last) same =
      absurd (none_of inside.own.literals l.text none i a first (same ∙ ap (λ (x : Literal). x.text) last.1))
  differ_by i j a b (inr last) (inl second) same =
      absurd (none_of inside.own.literals l.text none j b second (sym same ∙ ap (λ (x : Literal). x.text) last.1))
  differ_by i j a b (inr first) (inr second) same = first.0 ∙ sym second.0

  own_kept : IsOwnState around.classes around.table own_now
  own_kept = record {
    each = h.own.each;
    all = h.own.all;
    classes_differ = h.own.classes_differ;
    literals_differ = λ i j a b first second same.
        differ_by i j a b (old_or_new inside.own.literals l i a first) (old_or_new inside.own.literals l j b second) same;
    standing = h.own.standing;
  }

  text_there : (e : Literal) (k : ℕ) → (slice_get inside.own.literals k ≡ Some e) ⊎ ((k ≡ length inside.own.literals) × (e ≡ l))
      → object_named inside.heap e.name ≡ Some (Text e.text)
  text_there e k (inl old) = h.literals e (Contains-at inside.own.literals k e old)
  text_there e k (inr last) = subst (λ (x : Literal). object_named inside.heap x.name ≡ Some (Text x.text)) (sym last.1) there

  pub literal_sealed : IsSealedInside around quota (with_own inside own_now)
  literal_sealed = record {
    names_differ = h.names_differ;
    own = own_kept;
    objects = h.objects;
    out = h.out;
    standing = h.standing;
    literals = λ e has.
        let place = stands_at (inside.own.literals ++ l ∷ []) e has in
        text_there e place.0 (old_or_new inside.own.literals l place.0 e place.2);
    statics = h.statics;
    words = h.words;
  }
