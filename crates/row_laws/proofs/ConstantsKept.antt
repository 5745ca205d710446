-- The constant texts of a class are set, where they fit, and the domain's inside keeps what is kept.
use Rattle.std.proofs.Common.{inl, inr, ◌≡◌, ◌⊎◌, ℕ, ◌+◌, ◌≤◌, List, ◌++◌, map, Contains, Some, refl, sym, ap, subst, ◌∙◌, arith}
use Rattle.std.specs.Prelude.{sum_by}
use Rattle.std.proofs.lemmas.Bool.{cases_lt}
use Rattle.list_lemmas.proofs.ItemsByPlace.{comes_from, mapped_at}
use Rattle.list_lemmas.proofs.ItemsOfLists.{Contains-at, place_of, stands_at}
use Rattle.jk_model.specs.declared.identifiers.ClassId.{ClassId}
use Rattle.jk_model.specs.declared.identifiers.ThreadNo.{ThreadNo}
use Rattle.jk_model_classes.specs.declared.records.ClassRecord.{ClassRecord}
use Rattle.jk_model_classes.specs.Classes.{record_of}
use Rattle.jk_model_typing.specs.FrameTypes.{STRING}
use Rattle.jk_model_domains.specs.Objects.{NamedObject, Text, object_named}
use Rattle.jk_model_domains.specs.OwnStates.{HasState, Literal}
use Rattle.jk_model_heaps.specs.Heaps.{Makes, heap_words}
use Rattle.jk_model_heaps.specs.Workings.{Inside, Setting, with_heap}
use Rattle.jk_model_heap_rows.specs.Constants.{LacksConstants, SetsConstants, new_texts, text_object, with_constants}
use Rattle.jk_model_sealing.specs.ClassesInProgress.{progress_by}
use Rattle.jk_model_sealing.specs.SealedInsides.{IsSealedInside, IsSealedObject, Surroundings}
use Rattle.heap_laws.proofs.FreshNames.{above_names, none_above}
use Rattle.heap_laws.proofs.ObjectsAfterChanges.{made_there}
use Rattle.row_laws.proofs.InsidesMade.{IsNoTask, made_keeps}
use Rattle.heap_laws.specs.KeptInsides.{KeepsInside}
use Rattle.heap_laws.specs.RunningFrames.{IsKnownSetting}
use Rattle.row_laws.proofs.ClassesBegunAndEnded.{taken_by}
use Rattle.row_laws.proofs.ConstantsWritten.{constants_sealed, states_stay}
use Rattle.row_laws.proofs.LiteralsAdded.{literals_sealed}
use Rattle.row_laws.proofs.TextsOfLiterals.{AreNewTexts, literals_from, name_at, text_words, texts_are_new, texts_from, words_from}

-- ---- They are set, or don't fit.

module _ (x : Setting) (c : ClassId) (r : ClassRecord) (old : Inside) (state : HasState old.own c) where
  abbrev texts : List (List ℕ)
  texts = new_texts old.own r

  abbrev first : ℕ
  first = above_names old.heap

  abbrev more : List Literal
  more = literals_from first texts

  abbrev texts_made : List NamedObject
  texts_made = map text_object more

  abbrev then_inside : Inside
  then_inside = record old { heap = old.heap ++ texts_made; own = with_constants c r (record old.own { literals = old.own.literals ++ more }) }

  sets : heap_words x.classes old.heap + sum_by text_words texts ≤ x.quota → SetsConstants x c r old then_inside
  sets fits = record {
    is_there = state;
    more = more;
    are_new = texts_from first texts;
    makes = record {
      fresh = λ e has.
          let at = place_of texts_made e has in
          let number = name_at first texts at.0 e at.1 in
          none_above old.heap e.name (omega (arith, number));
      differ = λ i j a b at also same.
          let one = name_at first texts i a at in
          let other = name_at first texts j b also in
          omega (arith, one, other, same);
      fits = subst (λ (k : ℕ). heap_words x.classes old.heap + k ≤ x.quota) (sym (words_from x.classes first texts)) fits;
      grown = refl;
    };
    rest = refl;
  }

  pub set_or_lack : ((then : Inside) × SetsConstants x c r old then) ⊎ LacksConstants x r old
  set_or_lack = elim (cases_lt x.quota (heap_words x.classes old.heap + sum_by text_words texts)) [
    | inl low ↦ inr low
    | inr fits ↦ inl (then_inside, sets fits)
  ]

-- ---- What is kept.

module _ (around : Surroundings) (x : Setting) (c : ClassId) (r : ClassRecord) (old new : Inside) (setting : IsKnownSetting around x)
    (sealed : IsSealedInside around x.quota old) (is_class : record_of around.classes c ≡ Some r) (sets : SetsConstants x c r old new) where
  makes : Makes around.classes x.quota old.heap (map text_object sets.more) new.heap
  makes =
      subst (λ (classes : List ClassRecord). Makes classes x.quota old.heap (map text_object sets.more) new.heap) setting.classes sets.makes

  each_made : (e : NamedObject) → Contains (map text_object sets.more) e → IsSealedObject around new.heap e.object × IsNoTask e.object
  each_made e has =
      let at = stands_at (map text_object sets.more) e has in
      let from = comes_from text_object sets.more at.0 e at.2 in
      subst (λ (y : NamedObject). IsSealedObject around new.heap y.object × IsNoTask y.object) from.gives
      (setting.table.knows_system STRING (omega arith), λ n e. absurd cc)

  kept_made : KeepsInside around x old (with_heap old new.heap)
  kept_made = made_keeps around x old sealed (map text_object sets.more) new.heap makes each_made

  text_there : (l : Literal) → Contains sets.more l → object_named new.heap l.name ≡ Some (Text l.text)
  text_there l has =
      let at = stands_at sets.more l has in
      made_there around.classes x.quota old.heap (map text_object sets.more) new.heap makes (text_object l)
      (Contains-at (map text_object sets.more) at.0 (text_object l) (mapped_at text_object sets.more at.0 l at.2))

  all_sealed : IsSealedInside around x.quota
      (record old { heap = new.heap; own = with_constants c r (record old.own { literals = old.own.literals ++ sets.more }) })
  all_sealed =
      constants_sealed around setting.codes x.quota
      (record old { heap = new.heap; own = record old.own { literals = old.own.literals ++ sets.more } })
      (literals_sealed around x.quota sets.more (with_heap old new.heap) kept_made.sealed
      (subst (AreNewTexts old.own) (sym sets.are_new) (texts_are_new old.own r)) text_there) c r is_class

  pub constants_keep : KeepsInside around x old new
  constants_keep =
      subst (KeepsInside around x old) (sym sets.rest)
      (record { sealed = all_sealed; grown = kept_made.grown; tasks = kept_made.tasks; pages = (refl, refl) })

  -- classes are in progress as before
  pub constants_progress : (u : ThreadNo) (d : ClassId) → progress_by u new.own d ≡ progress_by u old.own d
  constants_progress u d =
      ap (λ (i : Inside). progress_by u i.own d) sets.rest
      ∙ ap (taken_by u) (states_stay (record old.own { literals = old.own.literals ++ sets.more }) c r d)
