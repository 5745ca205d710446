-- Rows of buffers and of messages, from what stands in the store.
use Rattle.std.proofs.Common.{◌≡◌, ◌≢◌, ℕ, ◌+◌, ◌<◌, ◌≤◌, Bool, List, [], ◌∷◌, ◌++◌, length, ℤ, pos, to_z, w32, MatchBool, refl, sym, ap, ◌∙◌, subst, inr, arith}
use Rattle.std.proofs.lemmas.Int.{to_z_pos}
use Rattle.jk_model.specs.declared.identifiers.DomainId.{DomainId}
use Rattle.jk_model.specs.declared.values.Value.{Value}
use Rattle.jk_model.specs.declared.values.Value.TheVariants as Held
use Rattle.jk_model_classes.specs.declared.records.ClassRecord.{ClassRecord}
use Rattle.jk_model_domains.specs.NumberRows.{is_null}
use Rattle.jk_model_domains.specs.Objects.{NamedObject, Text, object_named}
use Rattle.jk_model_heaps.specs.Heaps.{heap_words}
use Rattle.jk_model_heaps.specs.Workings.{Inside, Setting, with_heap}
use Rattle.jk_model_system_rows.specs.declared.meanings.Shown.{Shown}
use Rattle.jk_model_system_rows.specs.declared.meanings.SystemMeaning.TheVariants as Means
use Rattle.jk_model_system_rows.specs.Answers.{Answers, AnswersNew, fails_for_memory, gives_int, gives_nothing, gives_value, with_answer}
use Rattle.jk_model_system_rows.specs.HiddenTexts.{HidesUnits, SetsNewText, TextHolder, with_text}
use Rattle.jk_model_system_rows.specs.Texts.{ReadsAs}
use Rattle.object_store.specs.HeapContents.{HeapBecomes, HeapContent, IsHeapContent, IsSame, MakesObject, words_left}
use Rattle.system_calls.specs.DoneRows.{Does, Finds, IsFor, IsReady}
use Rattle.system_calls.proofs.HiddenRows.{counted_both, counted_set, kept_made, moved, new_text_row, set_row}
use Rattle.system_calls.proofs.RowsOfNewObjects.{answers_lack, answers_new, counted_after, counted_still, done_still, lacks_room, same_inside}

abbrev pub inside_holder : (heap : List NamedObject) (inside : Inside) (v : Value) → inside.heap ≡ heap → TextHolder heap v → TextHolder inside.heap v
inside_holder heap inside v is h = moved heap inside.heap v (λ b o live. ap (λ (hs : List NamedObject). object_named hs b) is ∙ live) h

hides_inside : (heap : List NamedObject) (inside : Inside) (v : Value) (units : List ℕ) → inside.heap ≡ heap → HidesUnits heap v units
    → HidesUnits inside.heap v units
hides_inside heap inside v units is hides = subst (λ (hs : List NamedObject). HidesUnits hs v units) (sym is) hides

-- ---- What is found.

module _ (c : HeapContent) (d : DomainId) (v : Value) (h : TextHolder (c.heap d) v) where
  pub length_found : (units : List ℕ) (n : ℕ) → HidesUnits (c.heap d) h.text units → n ≡ length units → n ≤ 16777216
      → Finds c d Means.BufferLength (v ∷ []) (gives_int (to_z w32 n))
  length_found units n hides is few = λ x inside same. (
    moved (c.heap d) inside.heap v (λ b o live. ap (λ (hs : List NamedObject). object_named hs b) same ∙ live) h,
    units,
    held inside same,
    ap (λ (z : ℤ). with_answer inside (gives_int z)) (to_z_pos w32 n (omega (arith, few)) ∙ ap pos is),
  )
    where
      held : (inside : Inside) (same : inside.heap ≡ c.heap d) → HidesUnits inside.heap h.text units
      held inside same = hides_inside (c.heap d) inside h.text units same hides

  pub message_found : (answer : Value) → h.text ≡ answer → Finds c d Means.GetsMessage (v ∷ []) (gives_value answer)
  message_found answer is = λ x inside same. (
    moved (c.heap d) inside.heap v (λ b o live. ap (λ (hs : List NamedObject). object_named hs b) same ∙ live) h,
    ap (λ (w : Value). with_answer inside (gives_value w)) (sym is),
  )

  pub text_found : (answer : Value) (b : ℕ) → h.text ≡ answer → answer ≡ Held.Obj b → Finds c d Means.BufferText (v ∷ []) (gives_value answer)
  text_found answer b is some = λ x inside same. (
    moved (c.heap d) inside.heap v (λ b o live. ap (λ (hs : List NamedObject). object_named hs b) same ∙ live) h,
    subst (λ (t : Bool). MatchBool t (AnswersNew x inside (Text []) (with_answer inside (gives_value answer)))
        (Answers inside (gives_value h.text) (with_answer inside (gives_value answer))))
        (sym (ap is_null (is ∙ some))) (ap (λ (w : Value). with_answer inside (gives_value w)) (sym is)),
  )

-- ---- What is done.

module _ (c new : HeapContent) (classes : List ClassRecord) (d : DomainId) (ready : IsReady c classes d) (holds : IsHeapContent c)
    (receiver : Value) (h : TextHolder (c.heap d) receiver) where
  pub text_answered : (b : ℕ) → h.text ≡ Held.Obj b → IsSame c new → Does c new classes d Means.BufferText (receiver ∷ []) (gives_value (Held.Obj b))
  text_answered b is same =
      done_still c new classes d ready Means.BufferText (receiver ∷ []) (gives_value (Held.Obj b)) same
      (text_found c d receiver h (Held.Obj b) b is refl)

  -- a new empty text is answered
  pub empty_answered : (a : ℕ) → h.text ≡ Held.Null → MakesObject c new classes d a (Text []) → 4 ≤ words_left c d
      → Does c new classes d Means.BufferText (receiver ∷ []) (gives_value (Held.Obj a))
  empty_answered a is made fits = record {
    becomes = counted_after c new classes d ready a (Text []) made;
    row = λ x inside here. (
      moved (c.heap d) inside.heap receiver (λ b o live. ap (λ (hs : List NamedObject). object_named hs b) here.heap ∙ live) h,
      subst (λ (t : Bool). MatchBool t
          (AnswersNew x inside (Text []) (with_answer (with_heap inside (new.heap d)) (gives_value (Held.Obj a))))
          (Answers inside (gives_value h.text) (with_answer (with_heap inside (new.heap d)) (gives_value (Held.Obj a)))))
          (sym (ap is_null is)) (answers_new c new classes d ready a (Text []) made holds fits x inside here),
    );
  }

  pub empty_has_no_room : h.text ≡ Held.Null → IsSame c new → words_left c d < 4 → Does c new classes d Means.BufferText (receiver ∷ []) fails_for_memory
  empty_has_no_room is same lacks = record {
    becomes = counted_still c new classes d ready same;
    row = λ x inside here. (
      moved (c.heap d) inside.heap receiver (λ b o live. ap (λ (hs : List NamedObject). object_named hs b) here.heap ∙ live) h,
      subst (λ (t : Bool). MatchBool t
          (AnswersNew x inside (Text []) (with_answer (with_heap inside (new.heap d)) fails_for_memory))
          (Answers inside (gives_value h.text) (with_answer (with_heap inside (new.heap d)) fails_for_memory)))
          (sym (ap is_null is)) (answers_lack c new classes d ready (Text []) lacks same x inside here),
    );
  }

  module _ (v : Value) (sets : HeapBecomes c new d (with_text h v (c.heap d)) (c.used d)) where
    pub begun_with : v ≢ Held.Null → Does c new classes d Means.BufferInitialisesWith (receiver ∷ v ∷ []) gives_nothing
    begun_with some = record {
      becomes = counted_set c new classes d ready holds v receiver h sets;
      row = λ x inside here. inr (some, set_row c new classes d ready holds v receiver h sets x inside here gives_nothing);
    }

    pub message_set : Does c new classes d Means.SetsMessage (receiver ∷ v ∷ []) gives_nothing
    message_set = record {
      becomes = counted_set c new classes d ready holds v receiver h sets;
      row = λ x inside here. set_row c new classes d ready holds v receiver h sets x inside here gives_nothing;
    }

  module _ (mid : HeapContent) (mid_holds : IsHeapContent mid) (a : ℕ) (units : List ℕ) (made : MakesObject c mid classes d a (Text units))
      (sets : HeapBecomes mid new d
      (with_text (moved (c.heap d) (mid.heap d) receiver (kept_made c mid classes d ready a units made) h) (Held.Obj a) (mid.heap d)) (mid.used d))
      (fits : 4 + length units ≤ words_left c d) where
    counted : HeapBecomes c new d (new.heap d) (heap_words classes (new.heap d))
    counted = counted_both c mid classes d ready a units made holds mid_holds new receiver h sets

    begins : (x : Setting) (inside : Inside) → IsFor c classes d x inside → units ≡ []
        → (k : TextHolder inside.heap receiver) × SetsNewText x inside k [] gives_nothing (with_answer (with_heap inside (new.heap d)) gives_nothing)
    begins x inside here none =
        let r = new_text_row c mid classes d ready a units made holds mid_holds new receiver h sets fits x inside here gives_nothing in
        (r.0, subst (λ (us : List ℕ). SetsNewText x inside r.0 us gives_nothing (with_answer (with_heap inside (new.heap d)) gives_nothing)) none r.2)

    pub begun : units ≡ [] → Does c new classes d Means.BufferInitialises (receiver ∷ []) gives_nothing
    begun none = record { becomes = counted; row = λ x inside here. begins x inside here none }

    pub appended : (shown : Shown) (v : Value) (front added : List ℕ) → HidesUnits (c.heap d) h.text front → ReadsAs (c.heap d) shown v added
        → units ≡ front ++ added → Does c new classes d (Means.Appends shown) (receiver ∷ v ∷ []) (gives_value receiver)
    appended shown v front added hides reads both = record {
      becomes = counted;
      row = λ x inside here.
          let r = new_text_row c mid classes d ready a units made holds mid_holds new receiver h sets fits x inside here (gives_value receiver) in (
            r.0,
            front,
            added,
            subst (λ (t : Value). HidesUnits inside.heap t front) (sym r.1) (hides_inside (c.heap d) inside h.text front here.heap hides),
            subst (λ (hs : List NamedObject). ReadsAs hs shown v added) (sym here.heap) reads,
            subst (λ (us : List ℕ). SetsNewText x inside r.0 us (gives_value receiver) (with_answer (with_heap inside (new.heap d)) (gives_value receiver)))
                both r.2,
          );
    }

  pub not_appended : (shown : Shown) (v : Value) (front added : List ℕ) → HidesUnits (c.heap d) h.text front → ReadsAs (c.heap d) shown v added
      → IsSame c new → words_left c d < 4 + length (front ++ added) → Does c new classes d (Means.Appends shown) (receiver ∷ v ∷ []) fails_for_memory
  not_appended shown v front added hides reads same lacks = record {
    becomes = counted_still c new classes d ready same;
    row = λ x inside here. (
      moved (c.heap d) inside.heap receiver (λ b o live. ap (λ (hs : List NamedObject). object_named hs b) here.heap ∙ live) h,
      front,
      added,
      hides_inside (c.heap d) inside h.text front here.heap hides,
      subst (λ (hs : List NamedObject). ReadsAs hs shown v added) (sym here.heap) reads,
      inr (
        lacks_room c new classes d ready (Text (front ++ added)) lacks x inside here,
        ap (λ (i : Inside). with_answer i fails_for_memory) (same_inside inside (c.heap d) (new.heap d) here.heap (same.heap d)),
      ),
    );
  }
