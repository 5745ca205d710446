-- Arrays that were found in a store, and the row that copies items between them.
use Rattle.std.proofs.Common.{◌≡◌, ◌⊎◌, ℕ, ◌+◌, ◌≤◌, ◌||◌, Bool, true, false, cond, IsTrue, IsFalse, ℤ, pos, List, [], ◌∷◌, ◌++◌, length, take, drop, Option, Some, None, MatchOption, refl, sym, ap, ◌∙◌, subst, inl, inr, arith}
use Rattle.std.proofs.lemmas.Bool.{eq-eqb, ne_eqb}
use Rattle.std.proofs.lemmas.List.{length-append, length-drop, length-take-le}
use Rattle.jk_model.specs.declared.identifiers.DomainId.{DomainId}
use Rattle.jk_model.specs.declared.values.Value.{Value}
use Rattle.jk_model.specs.declared.values.Value.TheVariants as Held
use Rattle.jk_model_classes.specs.declared.records.ClassRecord.{ClassRecord}
use Rattle.jk_model_classes.specs.declared.records.BaseRef.{BaseRef}
use Rattle.jk_model_classes.specs.declared.records.TypeRef.{TypeRef}
use Rattle.jk_model_domains.specs.Objects.{NamedObject, Object, Array, Plain, Task, Text, object_named}
use Rattle.jk_model_heaps.specs.declared.shapes.Shape.TheVariants as Of
use Rattle.jk_model_heaps.specs.Capabilities.{CapRange, KnownCapabilities}
use Rattle.jk_model_heaps.specs.Heaps.{IsAlike, heap_words, shape_of, with_object}
use Rattle.jk_model_heaps.specs.References.{IsHeapArray}
use Rattle.jk_model_heaps.specs.SystemClasses.{ARRAY_INDEX_EXCEPTION, ARRAY_STORE_EXCEPTION, NULL_POINTER_EXCEPTION}
use Rattle.jk_model_heaps.specs.Workings.{Inside, Setting, with_heap}
use Rattle.jk_model_heaps.proofs.ArraysInHeaps.{same_name}
use Rattle.jk_model_system_rows.specs.Answers.{Answer, Answered, Answers, fails_by, gives_nothing, with_answer}
use Rattle.jk_model_system_rows.specs.ArrayCopies.{ArrayCopy, ArrayPair, CopiesArray, CopyRange, HasNoNull, HasNull, IsFittingFront, IsFront, at_null, copied, copies, copy_answer, number_kind, of_other_kinds, out_of_range}
use Rattle.heap_laws.proofs.ObjectsAfterChanges.{written_words}
use Rattle.heap_loops.specs.ItemChanges.{AreOfOneKind, HasItems}
use Rattle.heap_loops.specs.KnownItems.{HasKnownItems}
use Rattle.object_store.specs.HeapContents.{HeapBecomes, HeapContent, IsHeapContent, IsLive, WritesObject}
use Rattle.system_calls.specs.declared.array_copies.FoundArray.{FoundArray}
use Rattle.system_calls.specs.DoneRows.{IsFor, IsReady}
use Rattle.system_calls.specs.FoundArrays.{IsAsFound, IsRange, KnowsItems}
use Rattle.system_calls.proofs.RowsOfNewObjects.{same_inside}

-- ---- What is found.

pub shown_array : (o : Object) (t : TypeRef) (n : ℕ) → Of.Array t n ≡ shape_of o → (items : List Value) × (o ≡ Array t items) × (n ≡ length items)
shown_array (Plain c fields) t n is = absurd cc
shown_array (Array u items) t n is =
    let one : t ≡ u = cc in
    let many : n ≡ length items = cc in
    (items, ap (λ (k : TypeRef). Array k items) (sym one), many)
shown_array (Text units) t n is = absurd cc
shown_array (Task s) t n is = absurd cc

same_array : (t u : TypeRef) (items others : List Value) → Some (Array t items) ≡ Some (Array u others) → (t ≡ u) × (items ≡ others)
same_array t u items others is = (cc, cc)

pub no_array_by : (heap : List NamedObject) (v : Value) (a : ℕ) (o : Object) → v ≡ Held.Obj a → object_named heap a ≡ Some o
    → ((t : TypeRef) (n : ℕ) → shape_of o ≡ Of.Array t n → ⊥) → IsHeapArray heap v → ⊥
no_array_by heap v a o is live other h =
    let same : a ≡ h.name = same_name a h.name (sym is ∙ h.refers) in
    let both : Some o ≡ Some (Array h.element h.items) = sym live ∙ ap (object_named heap) same ∙ h.object in
    let object : o ≡ Array h.element h.items = cc in
    other h.element (length h.items) (ap shape_of object)

pub no_object : (heap : List NamedObject) (v : Value) → ((a : ℕ) → v ≡ Held.Obj a → ⊥) → IsHeapArray heap v → ⊥
no_object heap v other h = other h.name h.refers

-- ---- What fails.

copy_of : Value → ℤ → Value → ℤ → ℤ → ArrayCopy
copy_of source from target to count = record { source = source; from = from; target = target; to = to; count = count }

module _ (c : HeapContent) (classes : List ClassRecord) (d : DomainId) (x : Setting) (inside : Inside) (is : IsFor c classes d x inside)
    (source : Value) (from : ℤ) (target : Value) (to count : ℤ) where
  abbrev asked : ArrayCopy
  asked = record { source = source; from = from; target = target; to = to; count = count }

  as_before : (r : Answer) → Answers inside r (with_answer (with_heap inside (c.heap d)) r)
  as_before r = ap (λ (i : Inside). with_answer i r) (same_inside inside (c.heap d) (c.heap d) is.heap refl)

  pub null_fails : HasNull asked
      → CopiesArray x (source ∷ Held.Int from ∷ target ∷ Held.Int to ∷ Held.Int count ∷ []) inside
      (with_answer (with_heap inside (c.heap d)) (fails_by NULL_POINTER_EXCEPTION))
  null_fails null = (asked, refl, at_null null (as_before (fails_by NULL_POINTER_EXCEPTION)))

  pub kinds_fail : HasNoNull asked → (ArrayPair (c.heap d) asked → ⊥)
      → CopiesArray x (source ∷ Held.Int from ∷ target ∷ Held.Int to ∷ Held.Int count ∷ []) inside
      (with_answer (with_heap inside (c.heap d)) (fails_by ARRAY_STORE_EXCEPTION))
  kinds_fail some other = (
    asked,
    refl,
    of_other_kinds some (subst (λ (heap : List NamedObject). ArrayPair heap asked → ⊥) (sym is.heap) other) (as_before (fails_by ARRAY_STORE_EXCEPTION)),
  )

-- a pair of arrays is of the elements that were found
pub no_pair : (c : HeapContent) (d : DomainId) (a : ArrayCopy) (f h : FoundArray) → a.source ≡ Held.Obj f.name → a.target ≡ Held.Obj h.name
    → IsAsFound c d f → IsAsFound c d h → (number_kind f.element ≡ number_kind h.element → ⊥) → ArrayPair (c.heap d) a → ⊥
no_pair c d a f h is_source is_target (items, live, many) (others, there, size) differ p =
    let first : f.name ≡ p.source.name = same_name f.name p.source.name (sym is_source ∙ p.source.refers) in
    let second : h.name ≡ p.target.name = same_name h.name p.target.name (sym is_target ∙ p.target.refers) in
    let one = same_array f.element p.source.element items p.source.items
    (sym live ∙ ap (object_named (c.heap d)) first ∙ p.source.object) in
    let two = same_array h.element p.target.element others p.target.items
    (sym there ∙ ap (object_named (c.heap d)) second ∙ p.target.object) in
    differ (ap number_kind one.0 ∙ p.one_kind ∙ sym (ap number_kind two.0))

-- ---- What is copied.

module _ (c : HeapContent) (classes : List ClassRecord) (d : DomainId) (f h : FoundArray) (items others : List Value)
    (live : IsLive c d f.name (Array f.element items)) (there : IsLive c d h.name (Array h.element others)) (many : f.len ≡ length items)
    (size : h.len ≡ length others) (kind : number_kind f.element ≡ number_kind h.element) where
  pub one_kind : AreOfOneKind c d f.name h.name
  one_kind = λ t u xs ys first second.
      let one = same_array f.element t items xs (sym live ∙ first) in
      let two = same_array h.element u others ys (sym there ∙ second) in
      sym (ap number_kind one.0) ∙ kind ∙ ap number_kind two.0

  pub source_items : (n : ℕ) → n ≤ f.len → HasItems c d f.name n
  source_items n few = record { element = f.element; items = items; live = live; many = omega (arith, few, many) }

  pub target_items : (n : ℕ) → n ≤ h.len → HasItems c d h.name n
  target_items n few = record { element = h.element; items = others; live = there; many = omega (arith, few, size) }

  pub known_items : (caps : List CapRange) → KnowsItems c caps d → HasKnownItems c caps d f.name h.element
  known_items caps known = λ t xs first.
      let one = same_array f.element t items xs (sym live ∙ first) in
      (sym (ap number_kind one.0) ∙ kind, known f.name t xs first)

  module _ (x : Setting) (inside : Inside) (is : IsFor c classes d x inside) (from to count : ℤ) where
    abbrev wanted : ArrayCopy
    wanted = record { source = Held.Obj f.name; from = from; target = Held.Obj h.name; to = to; count = count }

    abbrev pair : ArrayPair inside.heap wanted
    pair = record {
      source = record {
        name = f.name;
        refers = refl;
        element = f.element;
        items = items;
        object = ap (λ (hs : List NamedObject). object_named hs
            f.name) is.heap ∙ live;
      };
      target = record {
        name = h.name;
        refers = refl;
        element = h.element;
        items = others;
        object = ap (λ (hs : List NamedObject). object_named hs
            h.name) is.heap ∙ there;
      };
      one_kind = kind;
    }

    pub range_fails : ((IsRange from count f.len → ⊥) ⊎ (IsRange to count h.len → ⊥))
        → CopiesArray x (Held.Obj f.name ∷ Held.Int from ∷ Held.Obj h.name ∷ Held.Int to ∷ Held.Int count ∷ []) inside
        (with_answer (with_heap inside (c.heap d)) (fails_by ARRAY_INDEX_EXCEPTION))
    range_fails none = (
      wanted,
      refl,
      out_of_range pair (λ r. refuses none r) (ap (λ (i : Inside). with_answer i (fails_by ARRAY_INDEX_EXCEPTION)) (same_inside inside (c.heap d)
          (c.heap d) is.heap refl)),
    )
      where
        refuses : (IsRange from count f.len → ⊥) ⊎ (IsRange to count h.len → ⊥) → CopyRange pair → ⊥
        refuses (inl lacks) r = lacks (r.from, r.count, r.is_from, r.is_count, subst (λ (n : ℕ). r.from + r.count ≤ n) (sym many) r.in_source)
        refuses (inr lacks) r = lacks (r.to, r.count, r.is_to, r.is_count, subst (λ (n : ℕ). r.to + r.count ≤ n) (sym size) r.in_target)

    pub copy_row : (new : HeapContent) (first place n front : ℕ) → from ≡ pos first → to ≡ pos place → count ≡ pos n → first + n ≤ f.len
        → place + n ≤ h.len → IsFront x (c.heap d) h.element (take n (drop first items)) front
        → WritesObject c new d h.name (Array h.element (copied items first others place front)) → (answer : Answer) → answer ≡ copy_answer front n
        → CopiesArray x (Held.Obj f.name ∷ Held.Int from ∷ Held.Obj h.name ∷ Held.Int to ∷ Held.Int count ∷ []) inside
        (with_answer (with_heap inside (new.heap d)) answer)
    copy_row new first place n front begins ends counts within room is_front writes answer told = (
      wanted,
      refl,
      copies pair (record {
        from = first;
        is_from = begins;
        to = place;
        is_to = ends;
        count = n;
        is_count = counts;
        in_source = subst (λ (k : ℕ). first + n ≤ k) many within;
        in_target = subst (λ (k : ℕ). place + n ≤ k) size room;
      }) front (subst (λ (heap : List NamedObject). IsFront x heap h.element (take n (drop first items)) front) (sym is.heap) is_front)
          (ap (λ (heap : List NamedObject). with_answer (with_heap inside heap) answer)
          (writes.becomes ∙ ap (with_object h.name (Array h.element (copied items first others place front))) (sym is.heap))
          ∙ ap (with_answer (with_heap inside (with_object h.name (Array h.element (copied items first others place front)) inside.heap))) told),
    )

  copied_size : (first place front : ℕ) → first + front ≤ length items → place + front ≤ length others
      → length (copied items first others place front) ≡ length others
  copied_size first place front within room =
      let a = length-take-le place others (omega arith) in
      let b = length-take-le front (drop first items) (omega (arith, length-drop first items)) in
      omega (
        arith,
        a,
        b,
        length-append (take place others ++ take front (drop first items)) (drop (place + front) others),
        length-append (take place others) (take front (drop first items)),
        length-drop (place + front) others,
      )

  pub counted_copy : (new : HeapContent) (first place front : ℕ) → IsReady c classes d → IsHeapContent c → first + front ≤ f.len → place + front ≤ h.len
      → WritesObject c new d h.name (Array h.element (copied items first others place front))
      → HeapBecomes c new d (new.heap d) (heap_words classes (new.heap d))
  counted_copy new first place front ready holds within room writes =
      let alike : IsAlike (Array h.element others) (Array h.element (copied items first others place front)) =
      (refl, sym (copied_size first place front (omega (arith, within, many)) (omega (arith, room, size)))) in
      record {
        domains = writes.domains;
        becomes = refl;
        others = writes.others;
        uses = writes.uses ∙ ready.used
            ∙ sym (written_words classes h.name (Array h.element (copied items first others place front)) (Array h.element others) (c.heap d)
            (holds.differ d) alike there)
            ∙ sym (ap (heap_words classes) writes.becomes);
        other_uses = writes.other_uses;
        mark = writes.mark;
      }

-- ---- Tests.

pub null_first : (a b : Bool) → true ≡ a → IsTrue (a || b)
null_first true b is = refl
null_first false b is = absurd cc

pub null_second : (a b : Bool) → true ≡ b → IsTrue (a || b)
null_second true b is = refl
null_second false true is = refl
null_second false false is = absurd cc

pub no_null : (a b : Bool) → false ≡ a → false ≡ b → IsFalse (a || b)
no_null true b is other = absurd cc
no_null false true is other = absurd cc
no_null false false is other = refl

pub all_told : (front n : ℕ) → front ≡ n → gives_nothing ≡ copy_answer front n
all_told front n is = sym (ap (λ (b : Bool). cond b gives_nothing (fails_by ARRAY_STORE_EXCEPTION)) (eq-eqb front n is))

pub part_told : (front n : ℕ) → (front ≡ n → ⊥) → fails_by ARRAY_STORE_EXCEPTION ≡ copy_answer front n
part_told front n differ = sym (ap (λ (b : Bool). cond b gives_nothing (fails_by ARRAY_STORE_EXCEPTION)) (ne_eqb front n differ))

pub same_count : (z : ℤ) (m n : ℕ) → z ≡ pos m → z ≡ pos n → n ≡ m
same_count z m n first second = let same : pos m ≡ pos n = sym first ∙ second in cc

-- no more fit than there are
front_by : (x : Setting) (heap : List NamedObject) (t : TypeRef) (items : List Value) (front : ℕ) (kind : Option BaseRef)
    → MatchOption kind (IsFittingFront x heap t items front) (λ (k : BaseRef). front ≡ length items) → front ≤ length items
front_by x heap t items front None is = is.within
front_by x heap t items front (Some k) is = omega (arith, is)

pub front_within : (x : Setting) (heap : List NamedObject) (t : TypeRef) (items : List Value) (first n front : ℕ)
    → IsFront x heap t (take n (drop first items)) front → first + n ≤ length items → front ≤ n
front_within x heap t items first n front is within =
    let few = front_by x heap t (take n (drop first items)) front (number_kind t) is in
    omega (arith, few, length-take-le n (drop first items) (omega (arith, length-drop first items, within)))

pub plain_setting : List ClassRecord → KnownCapabilities → Setting
plain_setting classes caps = record { classes = classes; caps = caps; name = []; segment = record { 0 = 0 }; quota = 0; chunks = 0 }

pub plain_classes : (classes : List ClassRecord) (caps : KnownCapabilities) → (plain_setting classes caps).classes ≡ classes
unfolding plain_setting
plain_classes classes caps = refl

pub plain_caps : (classes : List ClassRecord) (caps : KnownCapabilities) → (plain_setting classes caps).caps ≡ caps
unfolding plain_setting
plain_caps classes caps = refl

-- the same arguments under other names
pub with_arguments : (x : Setting) (inside : Inside) (done : Answered) (v v' w w' : Value) (f f' t t' n n' : ℤ) → v ≡ v' → w ≡ w' → f ≡ f' → t ≡ t'
    → n ≡ n' → CopiesArray x (v ∷ Held.Int f ∷ w ∷ Held.Int t ∷ Held.Int n ∷ []) inside done
    → CopiesArray x (v' ∷ Held.Int f' ∷ w' ∷ Held.Int t' ∷ Held.Int n' ∷ []) inside done
with_arguments x inside done v v' w w' f f' t t' n n' vs ws fs ts ns row =
    let given : (v ∷ Held.Int f ∷ w ∷ Held.Int t ∷ Held.Int n ∷ []) ≡ (v' ∷ Held.Int f' ∷ w' ∷ Held.Int t' ∷ Held.Int n' ∷ []) =
    λ i. vs i ∷ Held.Int (fs i) ∷ ws i ∷ Held.Int (ts i) ∷ Held.Int (ns i) ∷ [] in
    subst (λ (vs : List Value). CopiesArray x vs inside done) given row
