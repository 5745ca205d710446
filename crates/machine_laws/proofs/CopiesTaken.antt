-- Values that pass from one domain of a sealed machine to another: the domain that takes them keeps what it had, and knows what it is given.
use Rattle.std.proofs.Common.{◌≡◌, ℕ, inl, List, ◌++◌, Contains, Option, Some, None, refl, sym, ap, subst, ◌∙◌, arith}
use Rattle.std.specs.List.{AllByRecursion}
use Rattle.std.proofs.lemmas.Option.{same_Some}
use Rattle.jk_model.specs.declared.identifiers.SegmentNo.{SegmentNo}
use Rattle.jk_model.specs.declared.values.Value.{Value}
use Rattle.jk_model.specs.declared.identifiers.ClassId.{ClassId}
use Rattle.jk_model_classes.specs.Classes.{IsSubclass}
use Rattle.jk_model_typing.specs.FrameTypes.{THROWABLE}
use Rattle.jk_model_domains.specs.Objects.{NamedObject, Object, Array, Plain, Task, Text, object_named}
use Rattle.jk_model_graphs.specs.Copies.{IsCopied}
use Rattle.jk_model_graphs.specs.Copiable.{IsCopiable}
use Rattle.jk_model_heaps.specs.Heaps.{IsGrown, named}
use Rattle.jk_model_heaps.specs.Workings.{Inside, Setting, with_heap}
use Rattle.jk_model_heaps.proofs.NamesInHeaps.{behind, in_front}
use Rattle.jk_model_sealing.specs.SealedInsides.{IsKnownValue, IsSealedInside}
use Rattle.jk_model_machine_state.specs.Machines.{DomainState, Machine, caps_of}
use Rattle.jk_model_crossings.specs.Passages.{Passage, Passes}
use Rattle.jk_model_runs.specs.Sealed.{IsSealed, surroundings}
use Rattle.heap_laws.proofs.CopiesAreSealed.{copies_keep_domains}
use Rattle.heap_laws.proofs.CopiesFit.{is_found}
use Rattle.heap_laws.proofs.ObjectsAfterChanges.{found_stands}
use Rattle.heap_laws.specs.CopiedGraphs.{CopyBetween}
use Rattle.heap_laws.specs.KeptInsides.{KeepsInside}
use Rattle.heap_laws.specs.RaisableObjects.{IsThrowable}
use Rattle.machine_laws.specs.SoundMachines.{HasSoundClasses}

-- a domain of a machine, and what it has inside
pub record HasInside (m : Machine) : Type 0 where
  pub domain : DomainState
  pub inside : Inside
  pub there : Contains m.domains domain
  pub is_inside : domain.inside ≡ Some inside

-- these values, from the one to the other
abbrev pub passage_of : {m : Machine} → HasInside m → HasInside m → List Value → Passage
passage_of {m = m} giver taker given = record {
  classes = m.classes;
  from = giver.domain.table;
  to = taker.domain.table;
  source = record { heap = giver.inside.heap; values = given };
  target = taker.inside.heap;
  quota = taker.domain.quotas.heap;
}

module _ (m : Machine) (sealed : IsSealed m) (sound : HasSoundClasses m) (giver taker : HasInside m) (given : List Value)
    (known : AllByRecursion (IsKnownValue (caps_of m) giver.inside.heap) given) (heap : List NamedObject) (values : List Value)
    (passes : Passes (passage_of giver taker given) heap values) where
  taker_sealed : IsSealedInside (surroundings m taker.domain) taker.domain.quotas.heap taker.inside
  taker_sealed = sealed.domains.insides taker.domain taker.inside taker.there taker.is_inside

  between : CopyBetween m.classes (caps_of m)
  between = record {
    giver = giver.domain.table;
    taker = taker.domain.table;
    from = giver.inside;
    to = taker.inside;
    quota_from = giver.domain.quotas.heap;
    quota_to = taker.domain.quotas.heap;
    from_sealed = sealed.domains.insides giver.domain giver.inside giver.there giver.is_inside;
    to_sealed = taker_sealed;
    knows_system = (sound.tables taker.domain taker.there).knows_system;
    values = given;
    known = known;
    copiable = passes.may.0;
    heap = heap;
    copied = values;
    pairs = passes.pairs;
    copy = passes.copy;
    words = passes.may.1.0;
    costs = passes.may.1.1;
    enough = let within = taker_sealed.words in let room = passes.may.1.2 in omega (arith, within, room);
  }

  all : IsSealedInside (surroundings m taker.domain) taker.domain.quotas.heap (with_heap taker.inside heap) × IsGrown taker.inside.heap heap
      × AllByRecursion (IsKnownValue (caps_of m) heap) values
  unfolding between
  all = copies_keep_domains m.classes (caps_of m) between

  pub grows : IsGrown taker.inside.heap heap
  grows = all.1

  pub values_known : AllByRecursion (IsKnownValue (caps_of m) heap) values
  values_known = all.2

  -- ---- No Task passes.

  is_task : (object : Object) (n : SegmentNo) → IsCopied m.classes passes.pairs object (Task n) → (k : SegmentNo) × (object ≡ Task k)
  is_task (Plain c vs) n h = absurd h
  is_task (Array t vs) n h = absurd h
  is_task (Text units) n h = absurd h
  is_task (Task k) n h = (k, refl)

  none_made : (a : ℕ) (n : SegmentNo) → Contains passes.copy.made (named a (Task n)) → object_named passes.copy.made a ≡ Some (Task n) → ⊥
  none_made a n on is =
      let pair = passes.copy.all_made (named a (Task n)) on in
      let p = passes.copy.each_made pair.0 a pair.1 in
      let one : p.copy ≡ Task n = same_Some p.copy (Task n) (sym p.is_copy ∙ is) in
      let task = is_task p.object n (subst (IsCopied m.classes passes.pairs p.object) one p.same) in
      subst (IsCopiable m.classes giver.domain.table taker.domain.table) task.1
      (passes.may.0 pair.0 p.object (passes.copy.each_reached pair.0 a pair.1) p.is_object)

  tasks : (a : ℕ) (n : SegmentNo) → object_named heap a ≡ Some (Task n) → object_named taker.inside.heap a ≡ Some (Task n)
  tasks a n is = by (object_named taker.inside.heap a) refl
    where
      there : object_named (taker.inside.heap ++ passes.copy.made) a ≡ Some (Task n)
      there = ap (λ (objects : List NamedObject). object_named objects a) (sym passes.copy.grown) ∙ is

      by : (o : Option Object) → object_named taker.inside.heap a ≡ o → object_named taker.inside.heap a ≡ Some (Task n)
      by None none =
          let made = sym (behind taker.inside.heap passes.copy.made a none) ∙ there in
          absurd (none_made a n (found_stands a (Task n) passes.copy.made made) made)
      by (Some o) some = some ∙ sym (in_front taker.inside.heap passes.copy.made a o some) ∙ there

  pub keeps_taker : (x : Setting) → x.quota ≡ taker.domain.quotas.heap → KeepsInside (surroundings m taker.domain) x taker.inside (with_heap taker.inside heap)
  keeps_taker x quota = record {
    sealed = subst (λ (n : ℕ). IsSealedInside (surroundings m taker.domain) n (with_heap taker.inside heap)) (sym quota) all.0;
    grown = all.1;
    tasks = λ a n is. inl (tasks a n is);
    pages = (refl, refl);
  }

  -- ---- A throwable's copy is one.

  pub throwable_copied : (a c : ℕ) → Contains passes.pairs (a, c) → IsThrowable m.classes giver.inside.heap a → IsThrowable m.classes heap c
  throwable_copied a c pair (class, fields, is, below) =
      let p = is_found m.classes (record { heap = giver.inside.heap; values = given }) taker.inside.heap (record { heap = heap; values = values })
      passes.pairs a c passes.copy pair in
      by p.object p.copy p.is_copy (same_Some p.object (Plain class fields) (sym p.is_object ∙ is)) p.same
    where
      by : (object copy : Object) → object_named heap c ≡ Some copy → object ≡ Plain class fields → IsCopied m.classes passes.pairs object copy
          → IsThrowable m.classes heap c
      by (Plain d vs) (Plain e ws) found one same =
          let of_class : d ≡ class = cc in
          (e, ws, found, subst (λ (k : ClassId). IsSubclass m.classes k THROWABLE) (sym of_class ∙ same.0) below)
      by (Plain d vs) (Array u ws) found one same = absurd same
      by (Plain d vs) (Text units) found one same = absurd same
      by (Plain d vs) (Task k) found one same = absurd same
      by (Array t vs) copy found one same = absurd cc
      by (Text units) copy found one same = absurd cc
      by (Task k) copy found one same = absurd cc
