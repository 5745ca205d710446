-- An object that is made in a store is one that a row makes, where it fits; and where nothing changed, a row that changes nothing is done.
use Rattle.std.proofs.Common.{◌≡◌, ℕ, ◌+◌, ◌-◌, ◌<◌, ◌≤◌, List, [], ◌∷◌, ◌++◌, Option, None, refl, sym, ap, ◌∙◌, subst, inl, inr, arith}
use Rattle.std.specs.Option.{option_map_or}
use Rattle.std.proofs.lemmas.List.Sums.{sum_by_push}
use Rattle.jk_model.specs.declared.identifiers.DomainId.{DomainId}
use Rattle.jk_model.specs.declared.values.Value.{Value}
use Rattle.jk_model.specs.declared.values.Value.TheVariants as Held
use Rattle.jk_model_classes.specs.declared.records.ClassRecord.{ClassRecord}
use Rattle.jk_model_domains.specs.Objects.{NamedObject, Object, object_named, object_words}
use Rattle.jk_model_heaps.specs.Heaps.{Lacks, MakesOne, heap_words, named}
use Rattle.jk_model_heaps.specs.Workings.{Inside, Setting, with_heap}
use Rattle.jk_model_heaps.proofs.OneIsMade.{one_is_made}
use Rattle.jk_model_system_rows.specs.declared.meanings.SystemMeaning.{SystemMeaning}
use Rattle.jk_model_system_rows.specs.Answers.{Answer, AnswersNew, fails_for_memory, gives_value, with_answer}
use Rattle.jk_model_system_rows.specs.SystemRows.{SystemRow}
use Rattle.object_store.specs.HeapContents.{HeapBecomes, HeapContent, IsHeapContent, IsSame, MakesObject, words_left}
use Rattle.system_calls.specs.DoneRows.{Does, Finds, IsFor, IsReady}

-- ---- Nothing changed.

pub same_inside : (inside : Inside) (before after : List NamedObject) → inside.heap ≡ before → after ≡ before → with_heap inside after ≡ inside
same_inside inside before after is same = ap (with_heap inside) (same ∙ sym is)

module _ (old new : HeapContent) (classes : List ClassRecord) (d : DomainId) (ready : IsReady old classes d) where
  pub counted_still : IsSame old new → HeapBecomes old new d (new.heap d) (heap_words classes (new.heap d))
  counted_still same = record {
    domains = same.domains;
    becomes = refl;
    others = λ e differ. same.heap e;
    uses = same.used d ∙ ready.used ∙ ap (heap_words classes) (sym (same.heap d));
    other_uses = λ e differ. same.used e;
    mark = same.mark;
  }

  -- what is found is done
  pub done_still : (meaning : SystemMeaning) (given : List Value) (answer : Answer) → IsSame old new → Finds old d meaning given answer
      → Does old new classes d meaning given answer
  done_still meaning given answer same finds = record {
    becomes = counted_still same;
    row = λ x inside is.
        subst (λ (i : Inside). SystemRow x meaning given inside (with_answer i answer))
        (sym (same_inside inside (old.heap d) (new.heap d) is.heap (same.heap d)))
        (finds x inside is.heap);
  }

  -- ---- An object was made.

  module _ (a : ℕ) (object : Object) (made : MakesObject old new classes d a object) where
    words_after : heap_words classes (new.heap d) ≡ heap_words classes (old.heap d) + object_words classes object
    words_after =
        ap (heap_words classes) made.becomes.becomes
        ∙ sum_by_push (λ (e : NamedObject). object_words classes e.object) (old.heap d) (named a object)

    pub counted_after : HeapBecomes old new d (new.heap d) (heap_words classes (new.heap d))
    counted_after = record {
      domains = made.becomes.domains;
      becomes = refl;
      others = made.becomes.others;
      uses = made.becomes.uses ∙ ap (λ (n : ℕ). n + object_words classes object) ready.used ∙ sym words_after;
      other_uses = made.becomes.other_uses;
      mark = made.becomes.mark;
    }

    module _ (holds : IsHeapContent old) (fits : object_words classes object ≤ words_left old d) (x : Setting) (inside : Inside)
        (is : IsFor old classes d x inside) where
      words_before : heap_words x.classes inside.heap ≡ old.used d
      words_before =
          ap (λ (cs : List ClassRecord). heap_words cs inside.heap) is.classes ∙ ap (heap_words classes) is.heap ∙ sym ready.used

      one_costs : heap_words x.classes (named a object ∷ []) ≡ object_words classes object
      one_costs =
          let alone : heap_words classes (named a object ∷ []) ≡ object_words classes object = omega arith in
          ap (λ (cs : List ClassRecord). heap_words cs (named a object ∷ [])) is.classes ∙ alone

      room : heap_words x.classes inside.heap + heap_words x.classes (named a object ∷ []) ≤ x.quota
      room =
          let left : words_left old d ≡ x.quota - old.used d = ap (λ (q : Option ℕ). option_map_or (λ (n : ℕ). n - old.used d) q 0) is.quota in
          let within = (holds.within d x.quota is.quota).0 in
          omega (arith, words_before, one_costs, left, within, fits)

      pub makes_one : MakesOne x.classes x.quota inside.heap a object (new.heap d)
      makes_one =
          let lacked : object_named inside.heap a ≡ None = ap (λ (h : List NamedObject). object_named h a) is.heap ∙ made.fresh in
          let after : inside.heap ++ named a object ∷ [] ≡ new.heap d =
          ap (λ (h : List NamedObject). h ++ named a object ∷ []) is.heap ∙ sym made.becomes.becomes in
          subst (MakesOne x.classes x.quota inside.heap a object) after (one_is_made x.classes x.quota inside.heap a object lacked room)

      pub answers_new : AnswersNew x inside object (with_answer (with_heap inside (new.heap d)) (gives_value (Held.Obj a)))
      answers_new = inl (a, new.heap d, makes_one, refl)

  -- ---- It didn't fit.

  pub lacks_room : (object : Object) → words_left old d < object_words classes object → (x : Setting) (inside : Inside) → IsFor old classes d x inside
      → Lacks x.classes x.quota inside.heap (object_words x.classes object)
  lacks_room object lacks x inside is =
      let words : heap_words x.classes inside.heap ≡ old.used d =
      ap (λ (cs : List ClassRecord). heap_words cs inside.heap) is.classes ∙ ap (heap_words classes) is.heap ∙ sym ready.used in
      let cost : object_words x.classes object ≡ object_words classes object = ap (λ (cs : List ClassRecord). object_words cs object) is.classes in
      let left : words_left old d ≡ x.quota - old.used d = ap (λ (q : Option ℕ). option_map_or (λ (n : ℕ). n - old.used d) q 0) is.quota in
      omega (arith, words, cost, left, lacks)

  pub answers_lack : (object : Object) → words_left old d < object_words classes object → IsSame old new → (x : Setting) (inside : Inside)
      → IsFor old classes d x inside → AnswersNew x inside object (with_answer (with_heap inside (new.heap d)) fails_for_memory)
  answers_lack object lacks same x inside is =
      inr (
        lacks_room object lacks x inside is,
        ap (λ (i : Inside). with_answer i fails_for_memory) (same_inside inside (old.heap d) (new.heap d) is.heap (same.heap d)),
      )
