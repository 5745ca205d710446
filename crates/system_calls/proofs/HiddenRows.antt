-- Hidden texts as a store has them: where they stand, what is put in their place, and the rows of buffers and messages.
use Rattle.std.proofs.Common.{◌≡◌, ℕ, ◌+◌, ◌≤◌, ◌==◌, Bool, true, false, cond, List, [], ◌∷◌, length, Option, Some, None, IsSome, refl, sym, ap, ◌∙◌, subst, inl, inr, ◌⊎◌}
use Rattle.std.specs.Option.{option_map}
use Rattle.std.proofs.lemmas.Option.{same_Some}
use Rattle.jk_model.specs.declared.identifiers.DomainId.{DomainId}
use Rattle.jk_model.specs.declared.values.Value.{Value}
use Rattle.jk_model.specs.declared.values.Value.TheVariants as Held
use Rattle.jk_model_classes.specs.declared.records.ClassRecord.{ClassRecord}
use Rattle.jk_model_domains.specs.Objects.{NamedObject, Object, Plain, Text, object_named}
use Rattle.jk_model_heaps.specs.Heaps.{IsAlike, heap_words, named, with_object}
use Rattle.jk_model_heaps.specs.Workings.{Inside, Setting, with_heap}
use Rattle.jk_model_heaps.proofs.NamesInHeaps.{behind, in_front}
use Rattle.jk_model_heaps.proofs.ArraysInHeaps.{same_name}
use Rattle.jk_model_system_rows.specs.Answers.{Answer, with_answer}
use Rattle.jk_model_system_rows.specs.HiddenTexts.{HidesUnits, SetsNewText, TextHolder, with_text}
use Rattle.heap_laws.proofs.ObjectsAfterChanges.{written_words}
use Rattle.object_store.specs.HeapContents.{AreOfKind, HasItem, HeapBecomes, HeapContent, IsHeapContent, IsLaidOut, IsLive, IsName, IsSmall, IsWritten, MakesObject, TakesItem, WritesObject, item_of, words_left}
use Rattle.object_store.proofs.ObjectsWritten.{both_keep, live_made}
use Rattle.system_calls.specs.DoneRows.{IsFor, IsReady}
use Rattle.system_calls.specs.HiddenNames.{IsHidden}
use Rattle.row_laws.specs.GivenValues.{HoldsText}
use Rattle.system_calls.specs.Wordings.{IsFrontOf}
use Rattle.system_calls.proofs.RowsOfNewObjects.{counted_after, makes_one}

-- ---- What a hidden text is.

pub hidden_is : (heap : List NamedObject) (v : Value) (units : List ℕ) → HidesUnits heap v units → (v ≡ Held.Null) ⊎ ((b : ℕ) × (v ≡ Held.Obj b))
hidden_is heap (Held.Obj b) units hides = inr (b, refl)
hidden_is heap Held.Null units hides = inl refl
hidden_is heap (Held.Int n) units hides = absurd hides
hidden_is heap (Held.Long n) units hides = absurd hides
hidden_is heap (Held.Cap k) units hides = absurd hides
hidden_is heap Held.Unset units hides = absurd hides

pub front_of_hidden : (heap : List NamedObject) (v : Value) (front : Option ℕ) (units : List ℕ) → IsHidden v front → HidesUnits heap v units
    → IsFrontOf heap front units
front_of_hidden heap v None units is hides = subst (λ (w : Value). HidesUnits heap w units) is hides
front_of_hidden heap v (Some a) units is hides = subst (λ (w : Value). HidesUnits heap w units) is hides

kinds_agree : (v w : Value) → (v ≡ Held.Null) ⊎ ((b : ℕ) × (v ≡ Held.Obj b)) → (w ≡ Held.Null) ⊎ ((b : ℕ) × (w ≡ Held.Obj b)) → AreOfKind v w
kinds_agree v w (inl n) (inl m) = subst (λ (x : Value). AreOfKind x w) (sym n) (subst (λ (y : Value). AreOfKind Held.Null y) (sym m) (tt, tt))
kinds_agree v w (inl n) (inr (c, m)) = subst (λ (x : Value). AreOfKind x w) (sym n) (subst (λ (y : Value). AreOfKind Held.Null y) (sym m) (tt, tt))
kinds_agree v w (inr (b, n)) (inl m) =
    subst (λ (x : Value). AreOfKind x w) (sym n) (subst (λ (y : Value). AreOfKind (Held.Obj b) y) (sym m) (tt, tt))
kinds_agree v w (inr (b, n)) (inr (c, m)) =
    subst (λ (x : Value). AreOfKind x w) (sym n) (subst (λ (y : Value). AreOfKind (Held.Obj b) y) (sym m) (tt, tt))

-- ---- Where it stands.

abbrev pub moved : (heap new : List NamedObject) (v : Value) → ((b : ℕ) (o : Object) → object_named heap b ≡ Some o → object_named new b ≡ Some o)
    → TextHolder heap v → TextHolder new v
moved heap new v kept h = record {
  name = h.name;
  names = h.names;
  class = h.class;
  text = h.text;
  others = h.others;
  object = kept h.name (Plain h.class (h.text ∷ h.others)) h.object;
}

module _ (c : HeapContent) (classes : List ClassRecord) (d : DomainId) (ready : IsReady c classes d) (a : ℕ)
    (h : TextHolder (c.heap d) (Held.Obj a)) where
  pub holder_live : IsLive c d a (Plain h.class (h.text ∷ h.others))
  holder_live =
      subst (λ (n : ℕ). object_named (c.heap d) n ≡ Some (Plain h.class (h.text ∷ h.others))) (sym (same_name a h.name h.names)) h.object

  pub has_text : HasItem c classes d a 0
  has_text = record {
    object = Plain h.class (h.text ∷ h.others);
    live = holder_live;
    laid_out = ready.laid_out a (Plain h.class (h.text ∷ h.others)) holder_live;
    value = h.text;
    stands = refl;
  }

  pub text_read : (v : Value) → ((object : Object) → IsLive c d a object → item_of object 0 ≡ Some v) → h.text ≡ v
  text_read v read = same_Some h.text v (read (Plain h.class (h.text ∷ h.others)) holder_live)

  module _ (holds : IsHeapContent c) (units : List ℕ) (hides : HidesUnits (c.heap d) h.text units) (v : Value)
      (text : (v ≡ Held.Null) ⊎ ((b : ℕ) × (v ≡ Held.Obj b) × IsName c d b)) where
    reference : (v ≡ Held.Null) ⊎ ((b : ℕ) × (v ≡ Held.Obj b))
    reference = elim text [ inl n ↦ inl n | inr n ↦ inr (n.0, n.1) ]

    small : IsSmall v
    small = elim text [
      | inl n ↦ subst IsSmall (sym n) tt
      | inr n ↦ subst IsSmall (sym n.1) (holds.small d n.0 n.2.0 n.2.1)
    ]

    written : IsWritten (Plain h.class (h.text ∷ h.others)) 0 v (Plain h.class (v ∷ h.others))
    written = (
      v ∷ h.others,
      record {
        before = h.text;
        stands = refl;
        kind = kinds_agree h.text v (hidden_is (c.heap d) h.text units hides) reference;
        small = small;
        becomes = refl;
      },
      refl,
    )

    pub takes_text : TakesItem c classes d a 0 v
    takes_text = record {
      object = Plain h.class (h.text ∷ h.others);
      live = holder_live;
      laid_out = ready.laid_out a (Plain h.class (h.text ∷ h.others)) holder_live;
      new = Plain h.class (v ∷ h.others);
      written = written;
    }

    pub text_put : (new : HeapContent)
        → ((object after : Object) → IsLive c d a object → IsWritten object 0 v after → WritesObject c new d a after)
        → HeapBecomes c new d (with_text h v (c.heap d)) (c.used d)
    text_put new writes =
        subst (λ (n : ℕ). HeapBecomes c new d (with_object n (Plain h.class (v ∷ h.others)) (c.heap d)) (c.used d)) (same_name a h.name h.names)
        (writes (Plain h.class (h.text ∷ h.others)) (Plain h.class (v ∷ h.others)) holder_live written)

-- a name has one holder
pub one_text : (heap : List NamedObject) (a : ℕ) (h k : TextHolder heap (Held.Obj a)) → h.text ≡ k.text
one_text heap a h k =
    let same : h.name ≡ k.name = same_name h.name k.name (sym h.names ∙ k.names) in
    let both : Some (Plain h.class (h.text ∷ h.others)) ≡ Some (Plain k.class (k.text ∷ k.others)) =
    sym h.object ∙ ap (object_named heap) same ∙ k.object in
    cc

-- ---- The row where a text is set.

module _ (c new : HeapContent) (classes : List ClassRecord) (d : DomainId) (ready : IsReady c classes d) (holds : IsHeapContent c) (v : Value)
    (receiver : Value) (h : TextHolder (c.heap d) receiver) (sets : HeapBecomes c new d (with_text h v (c.heap d)) (c.used d)) where
  alike : IsAlike (Plain h.class (h.text ∷ h.others)) (Plain h.class (v ∷ h.others))
  alike = (refl, refl)

  pub counted_set : HeapBecomes c new d (new.heap d) (heap_words classes (new.heap d))
  counted_set = record {
    domains = sets.domains;
    becomes = refl;
    others = sets.others;
    uses = sets.uses ∙ ready.used
        ∙ sym (written_words classes h.name (Plain h.class (v ∷ h.others)) (Plain h.class (h.text ∷ h.others)) (c.heap d) (holds.differ d) alike h.object)
        ∙ sym (ap (heap_words classes) sets.becomes);
    other_uses = sets.other_uses;
    mark = sets.mark;
  }

  pub set_row : (x : Setting) (inside : Inside) → IsFor c classes d x inside → (answer : Answer)
      → (k : TextHolder inside.heap receiver) × (with_answer (with_heap inside (new.heap d)) answer ≡ with_answer (with_heap inside (with_text k v
      inside.heap)) answer)
  set_row x inside is answer = (
    moved (c.heap d) inside.heap receiver (λ b o live. ap (λ (heap : List NamedObject). object_named heap b) is.heap ∙ live) h,
    ap (λ (heap : List NamedObject). with_answer (with_heap inside heap) answer)
        (sets.becomes ∙ ap (with_object h.name (Plain h.class (v ∷ h.others))) (sym is.heap)),
  )

-- ---- An object was made, and nothing else changed.

new_named : (a b : ℕ) (text o : Object) → object_named (named a text ∷ []) b ≡ Some o → o ≡ text
new_named a b text o live = by (a == b) live
  where
    by : (t : Bool) → option_map (λ (e : NamedObject). e.object) (cond t (Some (named a text)) None) ≡ Some o → o ≡ text
    by true is = sym (same_Some text o is)
    by false is = absurd cc

module _ (c mid : HeapContent) (classes : List ClassRecord) (d : DomainId) (ready : IsReady c classes d) (a : ℕ) (units : List ℕ)
    (made : MakesObject c mid classes d a (Text units)) where
  pub kept_made : (b : ℕ) (o : Object) → IsLive c d b o → IsLive mid d b o
  kept_made b o live =
      ap (λ (heap : List NamedObject). object_named heap b) made.becomes.becomes ∙ in_front (c.heap d) (named a (Text units) ∷ []) b o live

  laid_out_by : (b : ℕ) (o : Object) (found : Option Object) → object_named (c.heap d) b ≡ found → IsLive mid d b o → IsLaidOut classes o
  laid_out_by b o (Some p) is live =
      let same : Some p ≡ Some o = sym (kept_made b p is) ∙ live in
      ready.laid_out b o (is ∙ same)
  laid_out_by b o None is live =
      let there : object_named (named a (Text units) ∷ []) b ≡ Some o =
      sym (behind (c.heap d) (named a (Text units) ∷ []) b is)
      ∙ ap (λ (heap : List NamedObject). object_named heap b) (sym made.becomes.becomes) ∙ live in
      subst (IsLaidOut classes) (sym (new_named a b (Text units) o there)) tt

  pub ready_made : IsReady mid classes d
  ready_made = record {
    admitted = subst IsSome (sym (made.becomes.domains.quota d)) ready.admitted;
    used = (counted_after c mid classes d ready a (Text units) made).uses;
    laid_out = λ b o live. laid_out_by b o (object_named (c.heap d) b) refl live;
  }

  hides_still : (v : Value) (others : List ℕ) → HidesUnits (c.heap d) v others → HidesUnits (mid.heap d) v others
  hides_still Held.Null others hides = hides
  hides_still (Held.Obj b) others hides = kept_made b (Text others) hides
  hides_still (Held.Int n) others hides = absurd hides
  hides_still (Held.Long n) others hides = absurd hides
  hides_still (Held.Cap k) others hides = absurd hides
  hides_still Held.Unset others hides = absurd hides

  pub holds_made : (v : Value) → HoldsText (c.heap d) v → HoldsText (mid.heap d) v
  holds_made v (h, others, hides) = (moved (c.heap d) (mid.heap d) v kept_made h, others, hides_still h.text others hides)

  pub new_text_named : (Held.Obj a ≡ Held.Null) ⊎ ((b : ℕ) × (Held.Obj a ≡ Held.Obj b) × IsName mid d b)
  new_text_named = inr (a, refl, (Text units, live_made c mid classes d a (Text units) made))

  module _ (holds : IsHeapContent c) (mid_holds : IsHeapContent mid) (new : HeapContent) (receiver : Value) (h : TextHolder (c.heap d) receiver)
      (sets : HeapBecomes mid new d (with_text (moved (c.heap d) (mid.heap d) receiver kept_made h) (Held.Obj a) (mid.heap d)) (mid.used d)) where
    set_there : HeapBecomes mid new d (new.heap d) (heap_words classes (new.heap d))
    set_there =
        counted_set mid new classes d ready_made mid_holds (Held.Obj a) receiver (moved (c.heap d) (mid.heap d) receiver kept_made h) sets

    pub counted_both : HeapBecomes c new d (new.heap d) (heap_words classes (new.heap d))
    counted_both = record {
      domains = both_keep c mid new made.becomes.domains sets.domains;
      becomes = refl;
      others = λ e differ. sets.others e differ ∙ made.becomes.others e differ;
      uses = set_there.uses;
      other_uses = λ e differ. sets.other_uses e differ ∙ made.becomes.other_uses e differ;
      mark = λ e b. sets.mark e b ∙ made.becomes.mark e b;
    }

    pub new_text_row : 4 + length units ≤ words_left c d → (x : Setting) (inside : Inside) → IsFor c classes d x inside → (answer : Answer)
        → (k : TextHolder inside.heap receiver) × (k.text ≡ h.text)
        × SetsNewText x inside k units answer (with_answer (with_heap inside (new.heap d)) answer)
    new_text_row fits x inside is answer = (
      moved (c.heap d) inside.heap receiver (λ b o live. ap (λ (heap : List NamedObject). object_named heap b) is.heap ∙ live) h,
      refl,
      inl (
        a,
        mid.heap d,
        makes_one c mid classes d ready a (Text units) made holds fits x inside is,
        ap (λ (heap : List NamedObject). with_answer (with_heap inside heap) answer) sets.becomes,
      ),
    )
