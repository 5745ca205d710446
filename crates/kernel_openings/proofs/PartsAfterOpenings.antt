-- The parts of a machine fit each other where a domain is opened in each of them.
use Rattle.std.proofs.Common.{◌≡◌, ◌≢◌, ℕ, ◌+◌, ◌<◌, ◌==◌, ◌⊎◌, inl, inr, false, List, [], ◌∷◌, ◌++◌, length, Contains, Option, Some, None, is_some, slice_get, refl, sym, ap, subst, ◌∙◌, arith}
use Rattle.std.specs.Option.{option_map_or}
use Rattle.std.proofs.lemmas.Bool.{cases_lt, eq-eqb, eqb-true}
use Rattle.std.proofs.lemmas.List.{length-append}
use Rattle.std.proofs.lemmas.List.Elements.{Contains-append_cases, Contains-append_left, Contains-append_right, Contains-push_cases}
use Rattle.std.proofs.lemmas.List.Sums.{sum_by-cons}
use Rattle.std.proofs.lemmas.Option.{same_Some, slice_get_within}
use Rattle.list_lemmas.proofs.FoundItems.{Finds, finds}
use Rattle.list_lemmas.proofs.ItemsByPlace.{item_there, old_or_new, slice_get-last, slice_get-longer}
use Rattle.list_lemmas.proofs.ItemsOfLists.{Contains-at, Contains-here, Contains-there, none_in, place_of}
use Rattle.jk_model.specs.declared.identifiers.ClassId.{ClassId}
use Rattle.jk_model.specs.declared.identifiers.DomainId.{DomainId}
use Rattle.jk_model.specs.declared.script.Quotas.{Quotas}
use Rattle.jk_model_classes.specs.declared.records.ClassRecord.{ClassRecord}
use Rattle.jk_model_classes.specs.declared.sharing.Stub.{Stub}
use Rattle.jk_model_classes.specs.Classes.{AreOrdered, HasClass, record_of}
use Rattle.jk_model_classes.specs.Stubs.{ImplementsRemote, IsStub}
use Rattle.jk_model_classes.specs.Worlds.{DomainRecord}
use Rattle.jk_model_folders.specs.Loads.{AreStubs}
use Rattle.jk_model_frames.specs.Frames.{FrameState}
use Rattle.jk_model_domains.specs.Objects.{Array, NamedObject, Object, Plain, Task, Text, object_words}
use Rattle.jk_model_domains.specs.OwnStates.{OwnState}
use Rattle.jk_model_heaps.specs.Capabilities.{Capability}
use Rattle.jk_model_heaps.specs.Heaps.{heap_words}
use Rattle.jk_model_heaps.specs.Workings.{Inside}
use Rattle.jk_model_sharing.specs.KnownStubs.{IsForeignStub}
use Rattle.jk_model_sharing.specs.Segments.{SharedThread}
use Rattle.jk_model_sharing.specs.SharedStates.{SharedDomain, SharedState, first_domain, stub_for}
use Rattle.jk_model_sealing.specs.SealedInsides.{IsSealedObject}
use Rattle.jk_model_machine_state.specs.Machines.{DomainState, Machine, chunks_used}
use Rattle.jk_model_machine_state.specs.Places.{LiveDomain}
use Rattle.jk_model_openings.specs.OpenedDomains.{Admission}
use Rattle.jk_model_runs.specs.Sealed.{IsSealed, surroundings}
use Rattle.object_store.specs.HeapContents.{IsHeapContent}
use Rattle.frame_store.specs.FrameContents.{IsContent, StoredSegment}
use Rattle.class_growth.specs.ClassesKept.{HasObject}
use Rattle.class_growth.proofs.LayoutsKept.{object_words-kept}
use Rattle.class_growth.proofs.MoreClasses.{has_class-by_record, has_class-still, implements-before, record-kept}
use Rattle.class_growth.proofs.StubsKept.{stub-still}
use Rattle.heap_laws.specs.SoundTables.{IsSoundTable}
use Rattle.machine_laws.specs.SoundMachines.{HasSoundClasses}
use Rattle.machine_parts.specs.ChangedParts.{StandsInParts}
use Rattle.machine_parts.specs.FittingParts.{AreFittingParts, HaveLiveDomains, HaveOneList, HaveSegments, HaveStubs}
use Rattle.machine_parts.specs.MachineParts.{MachineParts, frames_in, machine_of}
use Rattle.machine_parts.specs.OpenedParts.{OpensInParts, new_names, next_domain}
use Rattle.machine_parts.proofs.DomainOpened.{opens_change_machines}
use Rattle.machine_parts.proofs.DomainsOfParts.{live_domain_is_of_parts}
use Rattle.kernel_openings.proofs.PartsByPlace.{live_from, lives_or_not, same_domain, this_or_other}

module _ (p : MachineParts) (fit : AreFittingParts p) (new : MachineParts) (a : Admission) (own : OwnState) (stubs : List Stub)
    (opens : OpensInParts p new a own stubs) where
  abbrev n : ℕ
  n = length p.world.domains

  abbrev d : DomainId
  d = next_domain p

  abbrev added : SharedDomain
  added = first_domain p.shared.domains d a.quotas

  -- ---- What stands at a place was there, or is the new domain's.

  names_at : (i : ℕ) (names : DomainRecord) → slice_get new.world.domains i ≡ Some names
      → (slice_get p.world.domains i ≡ Some names) ⊎ ((i ≡ n) × (names ≡ new_names p a))
  names_at i names at =
      old_or_new p.world.domains (new_names p a) i names (subst (λ (l : List DomainRecord). slice_get l i ≡ Some names) opens.names at)

  shared_at : (i : ℕ) (s : SharedDomain) → slice_get new.shared.domains i ≡ Some s
      → (slice_get p.shared.domains i ≡ Some s) ⊎ ((i ≡ n) × (s ≡ added))
  shared_at i s at = elim (old_or_new p.shared.domains added i s (subst (λ (x : SharedState). slice_get x.domains i ≡ Some s) opens.shared at)) [
    | inl old ↦ inl old
    | inr last ↦ inr (last.0 ∙ fit.domains.shared, last.1)
  ]

  own_at : (i : ℕ) (o : Option OwnState) → slice_get new.owns i ≡ Some o → (slice_get p.owns i ≡ Some o) ⊎ ((i ≡ n) × (o ≡ Some own))
  own_at i o at = elim (old_or_new p.owns (Some own) i o (subst (λ (l : List (Option OwnState)). slice_get l i ≡ Some o) opens.owns at)) [
    | inl old ↦ inl old
    | inr last ↦ inr (last.0 ∙ fit.domains.owns, last.1)
  ]

  low_names : (i : ℕ) (names : DomainRecord) → slice_get p.world.domains i ≡ Some names → i < n
  low_names i names at = slice_get_within p.world.domains i names at

  low_shared : (i : ℕ) (s : SharedDomain) → slice_get p.shared.domains i ≡ Some s → i < n
  low_shared i s at = let low = slice_get_within p.shared.domains i s at in omega (arith, low, fit.domains.shared)

  low_own : (i : ℕ) (o : Option OwnState) → slice_get p.owns i ≡ Some o → i < n
  low_own i o at = let low = slice_get_within p.owns i o at in omega (arith, low, fit.domains.owns)

  -- ---- One list.

  pub one_list : HaveOneList new
  one_list = record {
    shared =
        ap (λ (x : SharedState). length x.domains) opens.shared
        ∙ length-append p.shared.domains (added ∷ [])
        ∙ ap (λ (k : ℕ). k + 1) fit.domains.shared
        ∙ sym (length-append p.world.domains (new_names p a ∷ []))
        ∙ sym (ap length opens.names);
    owns =
        ap length opens.owns
        ∙ length-append p.owns (Some own ∷ [])
        ∙ ap (λ (k : ℕ). k + 1) fit.domains.owns
        ∙ sym (length-append p.world.domains (new_names p a ∷ []))
        ∙ sym (ap length opens.names);
    numbered = λ i names at. number_by i names (names_at i names at);
    same_number = λ i names s in_names in_shared. same_by i names s (names_at i names in_names) (shared_at i s in_shared);
    same_life = λ i names o in_names in_owns. life_by i names o (names_at i names in_names) (own_at i o in_owns);
  }
    where
      number_by : (i : ℕ) (names : DomainRecord) → (slice_get p.world.domains i ≡ Some names) ⊎ ((i ≡ n) × (names ≡ new_names p a)) → names.id.0 ≡ i
      number_by i names (inl old) = fit.domains.numbered i names old
      number_by i names (inr last) = ap (λ (x : DomainRecord). x.id.0) last.1 ∙ sym last.0

      same_by : (i : ℕ) (names : DomainRecord) (s : SharedDomain) → (slice_get p.world.domains i ≡ Some names) ⊎ ((i ≡ n) × (names ≡ new_names p a))
          → (slice_get p.shared.domains i ≡ Some s) ⊎ ((i ≡ n) × (s ≡ added)) → (s.number ≡ names.id) × (s.live ≡ names.live)
      same_by i names s (inl old) (inl was) = fit.domains.same_number i names s old was
      same_by i names s (inl old) (inr last) = let low = low_names i names old in absurd (omega (arith, low, last.0))
      same_by i names s (inr last) (inl old) = let low = low_shared i s old in absurd (omega (arith, low, last.0))
      same_by i names s (inr last) (inr also) = (
        ap (λ (x : SharedDomain). x.number) also.1 ∙ sym (ap (λ (x : DomainRecord). x.id) last.1),
        ap (λ (x : SharedDomain). x.live) also.1 ∙ sym (ap (λ (x : DomainRecord). x.live) last.1),
      )

      life_by : (i : ℕ) (names : DomainRecord) (o : Option OwnState) → (slice_get p.world.domains i ≡ Some names) ⊎ ((i ≡ n) × (names ≡ new_names p a))
          → (slice_get p.owns i ≡ Some o) ⊎ ((i ≡ n) × (o ≡ Some own)) → is_some o ≡ names.live
      life_by i names o (inl old) (inl was) = fit.domains.same_life i names o old was
      life_by i names o (inl old) (inr last) = let low = low_names i names old in absurd (omega (arith, low, last.0))
      life_by i names o (inr last) (inl old) = let low = low_own i o old in absurd (omega (arith, low, last.0))
      life_by i names o (inr last) (inr also) = ap is_some also.1 ∙ sym (ap (λ (x : DomainRecord). x.live) last.1)

  -- ---- The same domains live, and the new one.

  -- a live domain was there, with the same quotas, or is the new one
  lived : (e : DomainId) (live : LiveDomain (machine_of new) e)
      → ((old : LiveDomain (machine_of p) e) × (old.domain.quotas ≡ live.domain.quotas) × (e.0 < n)) ⊎ ((e ≡ d) × (live.domain.quotas ≡ a.quotas))
  lived e live =
      let is = live_domain_is_of_parts new e live one_list in
      by is.0 is.1 is.2 is.3 (ap (λ (x : DomainState). x.quotas) is.4)
      (names_at e.0 is.1 is.3.is_named) (shared_at e.0 is.2 is.3.is_shared) (own_at e.0 (Some is.0) is.3.is_own)
    where
      by : (o : OwnState) (names : DomainRecord) (s : SharedDomain) → StandsInParts new e o names s → live.domain.quotas ≡ s.quotas
          → (slice_get p.world.domains e.0 ≡ Some names) ⊎ ((e.0 ≡ n) × (names ≡ new_names p a))
          → (slice_get p.shared.domains e.0 ≡ Some s) ⊎ ((e.0 ≡ n) × (s ≡ added))
          → (slice_get p.owns e.0 ≡ Some (Some o)) ⊎ ((e.0 ≡ n) × (Some o ≡ Some own))
          → ((old : LiveDomain (machine_of p) e) × (old.domain.quotas ≡ live.domain.quotas) × (e.0 < n)) ⊎ ((e ≡ d) × (live.domain.quotas ≡ a.quotas))
      by o names s stands quotas (inl old) (inl was) (inl had) = inl (
        live_from p e o names s (record { is_named = old; is_shared = was; is_own = had; number = stands.number }),
        sym quotas,
        low_names e.0 names old,
      )
      by o names s stands quotas (inl old) (inl was) (inr last) = let low = low_names e.0 names old in absurd (omega (arith, low, last.0))
      by o names s stands quotas (inl old) (inr last) has = let low = low_names e.0 names old in absurd (omega (arith, low, last.0))
      by o names s stands quotas (inr last) (inl was) has = let low = low_shared e.0 s was in absurd (omega (arith, low, last.0))
      by o names s stands quotas (inr last) (inr also) has = inr (same_domain d e last.0, quotas ∙ ap (λ (x : SharedDomain). x.quotas) also.1)

  lives_on : (e : DomainId) → LiveDomain (machine_of p) e → LiveDomain (machine_of new) e
  lives_on e live =
      let is = live_domain_is_of_parts p e live fit.domains in
      live_from new e is.0 is.1 is.2 (record {
        is_named = subst (λ (l : List DomainRecord). slice_get l e.0 ≡ Some is.1) (sym opens.names)
            (slice_get-longer p.world.domains (new_names p a ∷ []) e.0 is.1 is.3.is_named);
        is_shared = subst (λ (x : SharedState). slice_get x.domains e.0 ≡ Some is.2) (sym opens.shared)
            (slice_get-longer p.shared.domains (added ∷ []) e.0 is.2 is.3.is_shared);
        is_own = subst (λ (l : List (Option OwnState)). slice_get l e.0 ≡ Some (Some is.0)) (sym opens.owns)
            (slice_get-longer p.owns (Some own ∷ []) e.0 (Some is.0) is.3.is_own);
        number = is.3.number;
      })

  new_lives : LiveDomain (machine_of new) d
  new_lives = live_from new d own (new_names p a) added (record {
    is_named = subst (λ (l : List DomainRecord). slice_get l n ≡ Some (new_names p a)) (sym opens.names) (slice_get-last p.world.domains (new_names p a));
    is_shared = subst (λ (x : SharedState). slice_get x.domains n ≡ Some added) (sym opens.shared)
        (subst (λ (k : ℕ). slice_get (p.shared.domains ++ added ∷ []) k ≡ Some added) fit.domains.shared (slice_get-last p.shared.domains added));
    is_own = subst (λ (l : List (Option OwnState)). slice_get l n ≡ Some (Some own)) (sym opens.owns)
        (subst (λ (k : ℕ). slice_get (p.owns ++ Some own ∷ []) k ≡ Some (Some own)) fit.domains.owns (slice_get-last p.owns (Some own)));
    number = refl;
  })

  live_domains : new.heap.quota d ≡ Some a.quotas.heap → HaveLiveDomains new
  live_domains words = record {
    words = λ e live. words_by e live (lived e live);
    chunks = λ e live. chunks_by e live (lived e live);
    no_others = λ e never. none_by e never (this_or_other d e);
  }
    where
      differs : (e : DomainId) → e.0 < n → e ≢ d
      differs e low same = let k : e.0 ≡ n = ap (λ (x : DomainId). x.0) same in omega (arith, low, k)

      words_by : (e : DomainId) (live : LiveDomain (machine_of new) e)
          → ((old : LiveDomain (machine_of p) e) × (old.domain.quotas ≡ live.domain.quotas) × (e.0 < n)) ⊎ ((e ≡ d) × (live.domain.quotas ≡ a.quotas))
          → new.heap.quota e ≡ Some live.domain.quotas.heap
      words_by e live (inl old) =
          opens.heaps.quota e (differs e old.2) ∙ fit.live.words e old.0 ∙ ap (λ (q : Quotas). Some q.heap) old.1
      words_by e live (inr same) = ap new.heap.quota same.0 ∙ words ∙ ap (λ (q : Quotas). Some q.heap) (sym same.1)

      chunks_by : (e : DomainId) (live : LiveDomain (machine_of new) e)
          → ((old : LiveDomain (machine_of p) e) × (old.domain.quotas ≡ live.domain.quotas) × (e.0 < n)) ⊎ ((e ≡ d) × (live.domain.quotas ≡ a.quotas))
          → new.frames.quota e ≡ Some live.domain.quotas.chunks
      chunks_by e live (inl old) =
          opens.frames.other_quotas e (differs e old.2) ∙ fit.live.chunks e old.0 ∙ ap (λ (q : Quotas). Some q.chunks) old.1
      chunks_by e live (inr same) = ap new.frames.quota same.0 ∙ opens.frames.quota ∙ ap (λ (q : Quotas). Some q.chunks) (sym same.1)

      none_by : (e : DomainId) → (LiveDomain (machine_of new) e → ⊥) → (e ≡ d) ⊎ (e ≢ d) → (new.heap.quota e ≡ None) × (new.frames.quota e ≡ None)
      none_by e never (inl same) = absurd (never (subst (LiveDomain (machine_of new)) (sym same) new_lives))
      none_by e never (inr other) =
          let none = fit.live.no_others e (λ live. never (lives_on e live)) in
          (opens.heaps.quota e other ∙ none.0, opens.frames.other_quotas e other ∙ none.1)

  -- ---- What is used.

  module _ (sealed : IsSealed (machine_of p)) (sound : HasSoundClasses (machine_of p)) (more : List ClassRecord)
      (same : new.world.classes ≡ p.world.classes ++ more) where
    has_objects : (e : DomainState) (inside : Inside) → Contains (machine_of p).domains e → e.inside ≡ Some inside
        → (x : NamedObject) → Contains inside.heap x → HasObject p.world.classes x.object
    has_objects e inside on is x has =
        object_by (sound.tables e on) x.object ((sealed.domains.insides e inside on is).objects x has)
      where
        object_by : IsSoundTable p.world.classes e.table → (object : Object) → IsSealedObject (surroundings (machine_of p) e) inside.heap object
            → HasObject p.world.classes object
        object_by table (Plain class values) (named, no_text, no_task, no_capability, no_remote, fields) =
            let there = table.closed class named in has_class-by_record p.world.classes class there.0 there.1
        object_by table (Array element items) h = tt
        object_by table (Text units) h = tt
        object_by table (Task segment) h = tt

    words_same : (heap : List NamedObject) → ((x : NamedObject) → Contains heap x → HasObject p.world.classes x.object)
        → heap_words new.world.classes heap ≡ heap_words p.world.classes heap
    words_same [] all = refl
    words_same (x ∷ heap) all =
        let here : object_words new.world.classes x.object ≡ object_words p.world.classes x.object =
        ap (λ (cs : List ClassRecord). object_words cs x.object) same
        ∙ object_words-kept p.world.classes more sound.codes.ordered x.object (all x (Contains-here x heap)) in
        let rest = words_same heap (λ y later. all y (Contains-there y x heap later)) in
        omega (
          arith,
          sum_by-cons (λ (y : NamedObject). object_words new.world.classes y.object) x heap,
          sum_by-cons (λ (y : NamedObject). object_words p.world.classes y.object) x heap,
          here,
          rest,
        )

    -- what a domain has that was there costs what it did
    module _ (heaps : IsHeapContent p.heap) where
      old_words : (e : DomainId) → e ≢ d → new.heap.used e ≡ heap_words new.world.classes (new.heap.heap e)
      old_words e other =
          opens.heaps.used e other
          ∙ fit.used.words e
          ∙ sym (words_same (p.heap.heap e) (all_by (lives_or_not p fit.domains e)))
          ∙ ap (heap_words new.world.classes) (sym (opens.heaps.heap e other))
        where
          all_by : LiveDomain (machine_of p) e ⊎ (LiveDomain (machine_of p) e → ⊥) → (x : NamedObject) → Contains (p.heap.heap e) x
              → HasObject p.world.classes x.object
          all_by (inl live) x has =
              let is = live_domain_is_of_parts p e live fit.domains in
              let heap : live.inside.heap ≡ p.heap.heap e = ap (λ (y : Inside). y.heap) is.5 in
              has_objects live.domain live.inside (Contains-at (machine_of p).domains e.0 live.domain live.is_domain) live.is_inside x
              (subst (λ (objects : List NamedObject). Contains objects x) (sym heap) has)
          all_by (inr never) x has =
              absurd (none_in x (p.heap.heap e) (heaps.unused e (fit.live.no_others e never).0).0.heap has)

      words_used : new.heap.used d ≡ heap_words new.world.classes (new.heap.heap d) → (e : DomainId)
          → new.heap.used e ≡ heap_words new.world.classes (new.heap.heap e)
      words_used here e = elim (this_or_other d e) [
        | inl is ↦ subst (λ (x : DomainId). new.heap.used x ≡ heap_words new.world.classes (new.heap.heap x)) (sym is) here
        | inr other ↦ old_words e other
      ]

  -- ---- Threads and their segments are as they were.

  same_chunks : (e : DomainId) → chunks_used (machine_of new) e ≡ chunks_used (machine_of p) e
  same_chunks e = ap (λ (m : Machine). chunks_used m e) (opens_change_machines p new a own stubs fit.domains opens)

  not_there : LiveDomain (machine_of p) d → ⊥
  not_there live =
      let is = live_domain_is_of_parts p d live fit.domains in
      let low = low_names n is.1 is.3.is_named in
      omega (arith, low)

  chunks_are_used : IsContent p.frames → (e : DomainId) → new.frames.used e ≡ chunks_used (machine_of new) e
  chunks_are_used frames e = elim (this_or_other d e) [
    | inl is ↦
        let none = (frames.unused d (fit.live.no_others d not_there).1).0 in
        let before = fit.used.chunks d in
        subst (λ (x : DomainId). new.frames.used x ≡ chunks_used (machine_of new) x) (sym is)
        (opens.frames.unused ∙ sym none ∙ before ∙ sym (same_chunks d))
    | inr other ↦ opens.frames.other_uses e other ∙ fit.used.chunks e ∙ sym (same_chunks e)
  ]

  same_threads : new.shared.threads ≡ p.shared.threads
  same_threads = ap (λ (x : SharedState). x.threads) opens.shared

  segments_fit : HaveSegments new
  segments_fit = record {
    each = λ t s on has.
        let old : Contains p.shared.threads t = subst (λ (ts : List SharedThread). Contains ts t) same_threads on in
        let stays = opens.frames.segment s.number in
        let frames : frames_in p.frames s.number ≡ frames_in new.frames s.number =
        ap (λ (o : Option StoredSegment). option_map_or (λ (g : StoredSegment). g.frames) o []) (sym stays) in
        stays
        ∙ fit.segments.each t s old has
        ∙ ap (λ (fs : List FrameState). Some (let g : StoredSegment = record { domain = s.domain; frames = fs } in g)) frames;
    no_others = λ k g there.
        let old = fit.segments.no_others k g (sym (opens.frames.segment k) ∙ there) in
        (old.0, old.1, subst (λ (ts : List SharedThread). Contains ts old.0) (sym same_threads) old.2, old.3, old.4);
  }

  -- ---- Stubs.

  module _ (more : List ClassRecord) (same : new.world.classes ≡ p.world.classes ++ more) (ordered : AreOrdered p.world.classes)
      (there : (s : Stub) → Contains p.shared.stubs s → HasClass p.world.classes s.class) (first : ClassId) (first_is : first.0 ≡ length p.world.classes)
      (are_stubs : AreStubs new.world.classes first stubs) where
    same_stubs : new.shared.stubs ≡ p.shared.stubs ++ stubs
    same_stubs = ap (λ (x : SharedState). x.stubs) opens.shared

    cases : (s : Stub) → Contains new.shared.stubs s → Contains p.shared.stubs s ⊎ Contains stubs s
    cases s on = Contains-append_cases p.shared.stubs stubs s (subst (λ (l : List Stub). Contains l s) same_stubs on)

    stub_by : (s : Stub) → Contains p.shared.stubs s → IsStub p.world.classes s.class s ⊎ IsForeignStub p.world.classes s
        → IsStub new.world.classes s.class s
    stub_by s on (inl is) =
        subst (λ (cs : List ClassRecord). IsStub cs s.class s) (sym same) (stub-still p.world.classes more ordered s.class (there s on) s is)
    stub_by s on (inr foreign) =
        let at = item_there p.world.classes s.class.0 (there s on) in
        let never : None ≡ Some at.0 = sym foreign.not_there ∙ at.1 in
        absurd cc

    pub each_stub : (s : Stub) → Contains new.shared.stubs s → IsStub new.world.classes s.class s
    each_stub s on = elim (cases s on) [
      | inl old ↦ stub_by s old (fit.stubs.known.each s old)
      | inr added ↦ (are_stubs.each s added).1
    ]

    pub stubs_there : (s : Stub) → Contains new.shared.stubs s → HasClass new.world.classes s.class
    stubs_there s on = elim (cases s on) [
      | inl old ↦ subst (λ (cs : List ClassRecord). HasClass cs s.class) (sym same) (has_class-still p.world.classes more s.class (there s old))
      | inr added ↦ (are_stubs.each s added).0.1
    ]

    stubs_apart : (s r : Stub) → Contains new.shared.stubs s → Contains new.shared.stubs r → s.class ≡ r.class → s ≡ r
    stubs_apart s r on_s on_r is = by (cases s on_s) (cases r on_r)
      where
        classes : s.class.0 ≡ r.class.0
        classes = ap (λ (c : ClassId). c.0) is

        by : Contains p.shared.stubs s ⊎ Contains stubs s → Contains p.shared.stubs r ⊎ Contains stubs r → s ≡ r
        by (inl x) (inl y) = fit.stubs.known.apart s r x y is
        by (inl x) (inr y) =
            let low = there s x in
            let high = (are_stubs.each r y).0.0 in
            let k = classes in
            absurd (omega (arith, low, high, k, first_is))
        by (inr x) (inl y) =
            let low = there r y in
            let high = (are_stubs.each s x).0.0 in
            let k = classes in
            absurd (omega (arith, low, high, k, first_is))
        by (inr x) (inr y) = rising_by (place_of stubs s x) (place_of stubs r y)
          where
            rising_by : (i : ℕ) × (slice_get stubs i ≡ Some s) → (j : ℕ) × (slice_get stubs j ≡ Some r) → s ≡ r
            rising_by (i, at_i) (j, at_j) = elim (cases_lt i j) [
              | inl less ↦ (let rises = are_stubs.rising i j s r less at_i at_j in let k = classes in absurd (omega (arith, rises, k)))
              | inr most ↦ elim (cases_lt j i) [
                | inl more_than ↦ (let rises = are_stubs.rising j i r s more_than at_j at_i in let k = classes in absurd (omega (arith, rises, k)))
                | inr also ↦ same_Some s r (sym at_i ∙ ap (slice_get stubs) (omega (arith, most, also)) ∙ at_j)
              ]
            ]

    -- a class has a stub where the list has one of it
    found_of : (c : ClassId) (x : Stub) → Contains new.shared.stubs x → x.class.0 ≡ c.0 → (stub : Stub) × (stub_for new.shared c ≡ Some stub)
    found_of c x on is = by (stub_for new.shared c) refl (finds (λ (e : Stub). e.class.0 == c.0) new.shared.stubs)
      where
        by : (o : Option Stub) → stub_for new.shared c ≡ o → Finds (λ (e : Stub). e.class.0 == c.0) new.shared.stubs o
            → (stub : Stub) × (stub_for new.shared c ≡ Some stub)
        by None none never =
            let at = place_of new.shared.stubs x on in
            let differs : x.class.0 == c.0 ≡ false = never at.0 x at.1 in
            let passes = eq-eqb x.class.0 c.0 is in
            absurd cc
        by (Some stub) some found = (stub, some)

    -- what was found is found
    found_still : (c : ClassId) → (stub : Stub) × (stub_for p.shared c ≡ Some stub) → (stub : Stub) × (stub_for new.shared c ≡ Some stub)
    found_still c (stub, is) =
        let P : Option Stub → Type 0 = λ o. Finds (λ (e : Stub). e.class.0 == c.0) p.shared.stubs o in
        let found = subst P is (finds (λ (e : Stub). e.class.0 == c.0) p.shared.stubs) in
        let old : Contains p.shared.stubs stub = Contains-at p.shared.stubs found.0 stub found.1 in
        found_of c stub (subst (λ (l : List Stub). Contains l stub) (sym same_stubs) (Contains-append_left p.shared.stubs stubs stub old))
        (eqb-true stub.class.0 c.0 found.2)

    all_stubs : (c : ClassId) (r : ClassRecord) → record_of new.world.classes c ≡ Some r → r.home ≢ None → ImplementsRemote new.world.classes c
        → (stub : Stub) × (stub_for new.shared c ≡ Some stub)
    all_stubs c r is home remote = elim (cases_lt c.0 (length p.world.classes)) [
      | inl low ↦
          let before : record_of p.world.classes c ≡ Some r =
          sym (record-kept p.world.classes more c low) ∙ ap (λ (cs : List ClassRecord). record_of cs c) (sym same) ∙ is in
          let wider : ImplementsRemote (p.world.classes ++ more) c = subst (λ (cs : List ClassRecord). ImplementsRemote cs c) same remote in
          let implements : ImplementsRemote p.world.classes c =
          (wider.0, wider.1, implements-before p.world.classes more ordered c low wider.0 wider.2) in
          found_still c (fit.stubs.all c r before home implements)
      | inr high ↦
          let within : c.0 < length new.world.classes = slice_get_within new.world.classes c.0 r is in
          let stub = are_stubs.all c (omega (arith, high, first_is), within) remote in
          found_of c stub.0 (subst (λ (l : List Stub). Contains l stub.0) (sym same_stubs) (Contains-append_right p.shared.stubs stubs stub.0 stub.1))
          (ap (λ (x : ClassId). x.0) stub.2)
    ]

    made_with : (e : SharedDomain) (c : Capability) → Contains new.shared.domains e → Contains e.caps.made c
        → (stub : Stub) × (stub_for new.shared c.class ≡ Some stub)
    made_with e c on has =
        by (Contains-push_cases p.shared.domains added e (subst (λ (x : SharedState). Contains x.domains e) opens.shared on))
      where
        by : Contains p.shared.domains e ⊎ (added ≡ e) → (stub : Stub) × (stub_for new.shared c.class ≡ Some stub)
        by (inl old) = found_still c.class (fit.stubs.made e c old has)
        by (inr is) = absurd (none_in c e.caps.made (ap (λ (x : SharedDomain). x.caps.made) (sym is)) has)

    stubs_fit : HaveStubs new.world.classes new.shared
    stubs_fit = record {
      known = record { each = λ s on. inl (each_stub s on); apart = stubs_apart };
      all = all_stubs;
      made = made_with;
    }

    -- ---- All of it.

    module _ (sealed : IsSealed (machine_of p)) (sound : HasSoundClasses (machine_of p)) (heaps : IsHeapContent p.heap) (frames : IsContent p.frames)
        (words : new.heap.quota d ≡ Some a.quotas.heap) (used : new.heap.used d ≡ heap_words new.world.classes (new.heap.heap d))
        (calm : (x : ℕ) → new.heap.mark d x ≡ 0) where
      marks : (e : DomainId) (x : ℕ) → new.heap.mark e x ≡ 0
      marks e x = elim (this_or_other d e) [
        | inl is ↦ subst (λ (y : DomainId). new.heap.mark y x ≡ 0) (sym is) (calm x)
        | inr other ↦ opens.heaps.mark e x other ∙ fit.calm e x
      ]

      pub fits_after : AreFittingParts new
      fits_after = record {
        domains = one_list;
        live = live_domains words;
        used = record { words = words_used sealed sound more same heaps used; chunks = chunks_are_used frames };
        segments = segments_fit;
        stubs = stubs_fit;
        calm = marks;
      }
