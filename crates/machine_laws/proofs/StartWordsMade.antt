-- The array of start words and its texts, where they are made in a sealed domain: the domain is sealed with them, and the array is one of texts.
use Rattle.std.proofs.Common.{inl, inr, ◌≡◌, ℕ, List, [], ◌∷◌, map, Contains, Some, slice_get, refl, sym, ap, subst, ◌∙◌, arith}
use Rattle.std.specs.List.{AllByRecursion}
use Rattle.jk_model.specs.declared.identifiers.SegmentNo.{SegmentNo}
use Rattle.jk_model.specs.declared.values.Value.{Value}
use Rattle.jk_model.specs.declared.values.Value.TheVariants as Held
use Rattle.jk_model_classes.specs.Worlds.{IsNamed}
use Rattle.jk_model_typing.specs.FrameTypes.{STRING}
use Rattle.jk_model_domains.specs.Objects.{NamedObject, Object, Array, Text, class_type, object_named}
use Rattle.jk_model_domains.specs.ValueTypes.{HoldsDeclared}
use Rattle.jk_model_heaps.specs.Heaps.{named}
use Rattle.jk_model_heaps.specs.Workings.{Inside, with_heap}
use Rattle.jk_model_sealing.specs.SealedInsides.{IsKnownValue, IsSealedInside, IsSealedObject, Surroundings}
use Rattle.jk_model_machine_state.specs.Machines.{DomainState, Machine, caps_of}
use Rattle.jk_model_runs.specs.Sealed.{surroundings}
use Rattle.jk_model_runs.specs.Starts.{MakesWords}
use Rattle.list_lemmas.proofs.ItemsByPlace.{comes_from, mapped_at}
use Rattle.list_lemmas.proofs.ItemsOfLists.{Contains-at, Contains-cases, Contains-here, Contains-there, each-from, place_of}
use Rattle.heap_laws.proofs.ObjectsAfterChanges.{made_there}
use Rattle.heap_laws.specs.FittingOutcomes.{IsOfType}
use Rattle.heap_laws.specs.KeptInsides.{KeepsInside}
use Rattle.row_laws.proofs.InsidesMade.{IsNoTask, made_keeps}
use Rattle.row_laws.proofs.InstancesFitTypes.{instance_fits}
use Rattle.machine_laws.specs.SoundMachines.{HasSoundClasses}
use Rattle.machine_laws.proofs.MainsTakeTexts.{array_of_texts}

module _ (m : Machine) (d : DomainState) (known : HasSoundClasses m) (on : Contains m.domains d) (inside : Inside)
    (sealed : IsSealedInside (surroundings m d) d.quotas.heap inside) (words : List (List ℕ)) (heap : List NamedObject)
    (made : MakesWords m d inside.heap words heap) where
  abbrev around : Surroundings
  around = surroundings m d

  abbrev items : List Value
  items = map (λ (e : NamedObject). Held.Obj e.name) made.texts

  abbrev array : NamedObject
  array = named made.array (Array (class_type STRING) items)

  knows_texts : IsNamed d.table STRING
  knows_texts = (known.tables d on).knows_system STRING (omega arith)

  there : (e : NamedObject) → Contains (array ∷ made.texts) e → object_named heap e.name ≡ Some e.object
  there e has = made_there m.classes d.quotas.heap inside.heap (array ∷ made.texts) heap made.makes e has

  -- ---- The texts.

  is_text : (e : NamedObject) → Contains made.texts e → (units : List ℕ) × (e.object ≡ Text units)
  is_text e has =
      let at = place_of made.texts e has in
      let of_word : slice_get (map Text words) at.0 ≡ Some e.object =
      ap (λ (objects : List Object). slice_get objects at.0) (sym made.are_words) ∙ mapped_at (λ (x : NamedObject). x.object) made.texts at.0 e at.1 in
      let word = comes_from Text words at.0 e.object of_word in
      (word.from, sym word.gives)

  abbrev IsItem : Value → Type 0
  IsItem v = HoldsDeclared m.classes heap v (class_type STRING) × IsKnownValue (caps_of m) heap v

  text_held : (e : NamedObject) → Contains made.texts e → IsItem (Held.Obj e.name)
  text_held e has =
      let text = is_text e has in
      let stands : object_named heap e.name ≡ Some (Text text.0) =
      there e (Contains-there e array made.texts has) ∙ ap (λ (o : Object). Some o) text.1 in
      ((Text text.0, stands, instance_fits m.classes known.codes (class_type STRING) (class_type STRING) (inl refl)), (Text text.0, stands))

  items_held : AllByRecursion IsItem items
  items_held =
      each-from IsItem items
      (λ v has.
      let at = place_of items v has in
      let from = comes_from (λ (e : NamedObject). Held.Obj e.name) made.texts at.0 v at.1 in
      subst IsItem from.gives (text_held from.from (Contains-at made.texts at.0 from.from from.there)))

  -- ---- All of them.

  each_made : (e : NamedObject) → Contains (array ∷ made.texts) e → IsSealedObject around heap e.object × IsNoTask e.object
  each_made e has = elim (Contains-cases e array made.texts has) [
    | inl same ↦
        subst (λ (x : NamedObject). IsSealedObject around heap x.object × IsNoTask x.object) same
        ((knows_texts, omega arith, items_held), λ n task. cc)
    | inr text ↦
        let units = is_text e text in
        subst (λ (o : Object). IsSealedObject around heap o × IsNoTask o) (sym units.1) (knows_texts, λ n task. cc)
  ]

  pub words_keep : (segment : SegmentNo) (chunks : ℕ)
      → KeepsInside around
      (record {
        classes = m.classes;
        caps = record { ranges = caps_of m; stand_ins = [] };
        name = d.name;
        segment = segment;
        quota = d.quotas.heap;
        chunks = chunks;
      }) inside (with_heap inside heap)
  words_keep segment chunks =
      made_keeps around
      (record {
        classes = m.classes;
        caps = record { ranges = caps_of m; stand_ins = [] };
        name = d.name;
        segment = segment;
        quota = d.quotas.heap;
        chunks = chunks;
      }) inside sealed (array ∷ made.texts) heap made.makes each_made

  pub array_held : IsOfType around heap array_of_texts (Held.Obj made.array)
  array_held =
      let stands = there array (Contains-here array made.texts) in
      ((array.object, stands, instance_fits m.classes known.codes array_of_texts array_of_texts (inl refl)), (array.object, stands))
