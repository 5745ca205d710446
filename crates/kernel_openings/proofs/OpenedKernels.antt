-- A kernel in which a folder was loaded and its domain was opened is one again, and its machine has the domain.
use Rattle.std.proofs.Common.{◌≡◌, ℕ, ◌+◌, ◌*◌, ◌/◌, ◌<◌, ◌≤◌, ◌==◌, ◌⊎◌, inl, inr, true, List, [], ◌∷◌, ◌++◌, length, map, Contains, Option, Some, None, slice_get, option_map, refl, sym, ap, subst, ◌∙◌, arith, length-append}
use Rattle.std.proofs.lemmas.Bool.{eqb-true}
use Rattle.std.proofs.lemmas.List.{length-map, map-append}
use Rattle.std.proofs.lemmas.Option.{same_Some, slice_get_within}
use Rattle.list_lemmas.proofs.FoundItems.{Finds, finds}
use Rattle.jk_model.specs.SystemTable.{system_classes}
use Rattle.jk_model.specs.declared.identifiers.ClassId.{ClassId}
use Rattle.jk_model.specs.declared.identifiers.DomainId.{DomainId}
use Rattle.jk_model.specs.declared.script.Quotas.{Quotas}
use Rattle.jk_model_classes.specs.declared.records.ClassRecord.{ClassRecord}
use Rattle.jk_model_classes.specs.declared.sharing.Stub.{Stub}
use Rattle.jk_model_classes.specs.Classes.{AreOrdered, HasClass}
use Rattle.jk_model_classes.specs.Worlds.{DomainRecord, IsNamed, IsWorld, NamedClass, WorldRecord}
use Rattle.jk_model_folders.specs.declared.files.FolderFiles.{FolderFiles}
use Rattle.jk_model_folders.specs.FolderTrees.{AreFiles}
use Rattle.jk_model_folders.specs.Loads.{AreStubs, Loads}
use Rattle.jk_model_frames.specs.Pools.{HasNoPlace, IsPlaceFor, Pool}
use Rattle.jk_model_heaps.specs.Capabilities.{CapRange}
use Rattle.jk_model_heaps.specs.Heaps.{heap_words}
use Rattle.jk_model_domains.specs.Objects.{NamedObject}
use Rattle.jk_model_heaps.specs.Workings.{Inside}
use Rattle.folder_reader.proofs.ItemsOfLists.{in_map}
use Rattle.jk_model_sharing.specs.CapabilityCalls.{LacksNumbers}
use Rattle.jk_model_sharing.specs.SharedStates.{SharedDomain}
use Rattle.jk_model_sharing.specs.SharedStates.{caps_of as caps_in}
use Rattle.jk_model_machine_state.specs.Machines.{DomainState, Machine, Thread, caps_of}
use Rattle.jk_model_openings.specs.OpenedDomains.{Admission, IsOpening, IsPlacedIn, with_new_domain}
use Rattle.jk_model_openings.specs.Openings.{HasManyDomains, LacksPages}
use Rattle.jk_model_openings.specs.PoolsOfMachines.{heap_pages_of, heap_pool, stack_pages_of, stack_pool}
use Rattle.jk_model_runs.specs.Sealed.{IsSealed}
use Rattle.class_growth.proofs.OwnStatesKept.{literal-before}
use Rattle.class_init.specs.KeptStates.{HasRooms, KeptState}
use Rattle.object_store.specs.HeapContents.{IsHeapContent, KeepsOthers, pages_for}
use Rattle.object_store.specs.HeapContents.{pool_of as pool_of_heaps}
use Rattle.frame_store.specs.FrameContents.{IsContent}
use Rattle.frame_store.specs.FrameContents.{pool_of as pool_of_frames}
use Rattle.machine_parts.proofs.DomainsOfParts.{same_ranges}
use Rattle.thread_segments.specs.SoundStates.{AreSound}
use Rattle.folder_loader.specs.declared.answers.Loaded.{Loaded}
use Rattle.folder_loader.specs.LinkedFolders.{AreTypedFrom}
use Rattle.heap_laws.specs.SoundCodes.{AreSoundCodes}
use Rattle.heap_laws.specs.SoundTables.{IsSoundTable}
use Rattle.sound_folders.specs.LinkedWorlds.{AreLinked}
use Rattle.machine_parts.specs.FittingParts.{AreFittingParts}
use Rattle.machine_parts.specs.MachineParts.{inside_of}
use Rattle.machine_parts.specs.OpenedParts.{OpensInParts}
use Rattle.machine_parts.proofs.DomainOpened.{opens_change_machines}
use Rattle.machine_parts.proofs.PoolsSame.{heap_pools, stack_pools}
use Rattle.machine_laws.specs.OpenedMachines.{EmptyRunsAreFirst, MayGrow}
use Rattle.machine_laws.specs.SoundFolders.{AcceptedFoldersStaySound}
use Rattle.machine_laws.specs.SoundMachines.{HasSoundClasses, tables_of}
use Rattle.machine_laws.proofs.OpenedMachines.{IsOpened, new as machine_then}
use Rattle.machine_laws.proofs.OpenedParts.{opened_capabilities, opened_domains, opened_names}
use Rattle.machine_laws.proofs.OpenedPools.{opened_pool}
use Rattle.machine_laws.proofs.OpenedThreads.{opened_initialisers, opened_tasks, opened_threads}
use Rattle.kernel_parts.specs.SoundKernels.{AreKernelParts, KernelContent, kernel_machine, parts_of}
use Rattle.kernel_openings.specs.OpenedParts.{LacksPlaces, OpenParts, OpensParts}
use Rattle.kernel_openings.specs.StandingObjects.{objects_named, opening_classes}
use Rattle.kernel_openings.proofs.FoldersOpen.{added, grown, loaded_parts, not_live, placed_classes, sound_now, there}
use Rattle.kernel_openings.proofs.LoadingKernels.{as_many, caps_there, may_load}
use Rattle.kernel_openings.proofs.OpenedInsides.{opening_is}
use Rattle.kernel_openings.proofs.OpenedWorlds.{as_many_added, last_or_before, opened_world}
use Rattle.kernel_openings.proofs.PartsAfterOpenings.{fits_after, stubs_there}
use Rattle.kernel_openings.proofs.PartsByPlace.{from_shared_thread}

-- ---- Rooms for the objects of literals.

rooms_still : (classes more : List ClassRecord) (table : List NamedClass) (kept : KeptState) → ((c : ClassId) → IsNamed table c → HasClass classes c)
    → HasRooms classes table kept → HasRooms (classes ++ more) table kept
rooms_still classes more table kept there has = record {
  texts = λ text literal. has.texts text (literal-before classes more table there text literal);
  rooms_differ = has.rooms_differ;
  literals = has.literals;
}

-- ---- Another domain may be opened.

no_empty_heap : (q : Option ℕ) → ((n : ℕ) → q ≡ Some n → 1 ≤ n) → option_map pages_for q ≡ Some 0 → ⊥
no_empty_heap None some is = absurd cc
no_empty_heap (Some n) some is =
    let least = some n refl in
    let none : (n + 63) / 64 ≡ 0 = same_Some ((n + 63) / 64) 0 is in
    omega (arith, least, none)

module _ (k : KernelContent) (h : AreKernelParts k) (heaps : IsHeapContent k.heap) (frames : IsContent k.frames) (shared : AreSound k.shared) where
  started_there : (thread : Thread) → Contains (kernel_machine k).threads thread → thread.domain.0 < length (kernel_machine k).domains
  started_there thread on =
      let from = from_shared_thread k.frames k.shared.threads thread on in
      let admitted = shared.threads.started from.0 from.1 in
      let found : Finds (λ (e : SharedDomain). e.number.0 == from.0.domain.0) k.shared.domains (Some admitted.0) =
      subst (Finds (λ (e : SharedDomain). e.number.0 == from.0.domain.0) k.shared.domains) admitted.1
      (finds (λ (e : SharedDomain). e.number.0 == from.0.domain.0) k.shared.domains) in
      let low = slice_get_within k.shared.domains found.0 admitted.0 found.1 in
      let number : admitted.0.number.0 ≡ from.0.domain.0 = eqb-true admitted.0.number.0 from.0.domain.0 found.2 in
      let same : from.0.domain.0 ≡ thread.domain.0 = ap (λ (t : Thread). t.domain.0) from.2 in
      omega (arith, low, shared.numbered found.0 admitted.0 found.1, number, same, h.sound.fitting.domains.shared, as_many k h)

  heap_pool_is : heap_pool (kernel_machine k) ≡ pool_of_heaps k.heap
  heap_pool_is = heap_pools (parts_of k) h.sound.fitting heaps

  stack_pool_is : stack_pool (kernel_machine k) ≡ pool_of_frames k.frames
  stack_pool_is = stack_pools (parts_of k) h.sound.fitting frames

  heaps_first : EmptyRunsAreFirst (heap_pool (kernel_machine k))
  heaps_first = subst EmptyRunsAreFirst (sym heap_pool_is)
      (λ d first none at. absurd (no_empty_heap (k.heap.quota d) (λ n is. (heaps.within d n is).1) none))

  stacks_first : EmptyRunsAreFirst (stack_pool (kernel_machine k))
  stacks_first = subst EmptyRunsAreFirst (sym stack_pool_is)
      (λ d first none at. let some = (frames.within d 0 none).1 in absurd (omega (arith, some)))

  pub may_grow : MayGrow (kernel_machine k)
  may_grow = record { made_there = caps_there k h; started_there = started_there; heaps = heaps_first; stacks = stacks_first }

  -- there is a place in the machine's pools exactly where there is one in the stores
  pub pages_lack : (q : Quotas) → LacksPlaces (record { world = k.world; owns = k.owns; shared = k.shared; heap = k.heap; frames = k.frames }) q
      ≡ LacksPages (kernel_machine k) q
  pages_lack q = λ i. HasNoPlace (sym heap_pool_is i) (heap_pages_of q) ⊎ HasNoPlace (sym stack_pool_is i) (stack_pages_of q)

  pub caps_are : caps_of (kernel_machine k) ≡ caps_in k.shared
  caps_are =
      same_ranges k.heap k.frames k.world.domains k.shared.domains (parts_of k).owns h.sound.fitting.domains.shared h.sound.fitting.domains.owns

-- ---- A machine that is sealed, in which a domain is opened.

opened_sealed : {m : Machine} {w : WorldRecord} {a : Admission} {inside : Inside} (o : IsOpened m w a inside) → IsSealed (machine_then o)
opened_sealed {m} {w} {a} {inside} o = record {
  domains = opened_domains o;
  heap_places =
      opened_pool m w a inside m.heap_pages heap_pages_of (λ i. i.heap_at) o.sealed.heap_places o.grows.heaps o.placed.heap o.sealed.domains.numbered;
  stack_places =
      opened_pool m w a inside m.stack_pages stack_pages_of (λ i. i.stack_at) o.sealed.stack_places o.grows.stacks o.placed.stack
      o.sealed.domains.numbered;
  capabilities = opened_capabilities o;
  names = opened_names o;
  threads = opened_threads o;
  tasks = opened_tasks o;
  initialisers = opened_initialisers o;
}

-- ---- The domain of a folder that was loaded is opened.

module _ (k : KernelContent) (h : AreKernelParts k) (law : AcceptedFoldersStaySound) (f : FolderFiles) (files : AreFiles f) (name : List ℕ) (l : Loaded)
    (classes : List ClassRecord) (loads : Loads f k.world name l.first l.table l.offers l.stubs (record k.world { classes = classes }))
    (typed : AreTypedFrom classes l.first) (ordered : AreOrdered classes) (heaps : IsHeapContent k.heap) (frames : IsContent k.frames)
    (shared : AreSound k.shared) (q : Quotas) (new : OpenParts) (new_heaps : IsHeapContent new.heap)
    (o : OpensParts (loaded_parts k h law f name l classes loads typed ordered) new l name q) where
  abbrev m : Machine
  m = kernel_machine k

  abbrev d : DomainId
  d = record { 0 = length k.world.domains }

  abbrev pub then : KernelContent
  then = record {
    world = new.world;
    owns = new.owns;
    shared = new.shared;
    heap = new.heap;
    frames = new.frames;
    main_kind = k.main_kind;
  }

  abbrev pub a : Admission
  a = record { name = name; quotas = q; table = l.table; offers = l.offers }

  abbrev pub inside : Inside
  inside = inside_of new.heap new.frames d o.own.state

  pub classes_are : new.world.classes ≡ classes
  classes_are = ap (λ (w : WorldRecord). w.classes) o.names_are

  more_classes : new.world.classes ≡ k.world.classes ++ added k h law f name l classes loads typed ordered
  more_classes = classes_are ∙ grown k h law f name l classes loads typed ordered

  -- ---- Each part has the domain behind the others.

  others : KeepsOthers k.heap new.heap d
  others = record {
    quota = λ e other. o.standing.makes.becomes.domains.quota e ∙ o.heap.others.quota e other;
    first_page = λ e other. o.standing.makes.becomes.domains.first_page e ∙ o.heap.others.first_page e other;
    used = λ e other. o.standing.makes.becomes.other_uses e other ∙ o.heap.others.used e other;
    heap = λ e other. o.standing.makes.becomes.others e other ∙ o.heap.others.heap e other;
    mark = λ e x other. o.standing.makes.becomes.mark e x ∙ o.heap.others.mark e x other;
  }

  opens : OpensInParts (parts_of k) (parts_of then) a o.own.state l.stubs
  opens = record {
    names = ap (λ (w : WorldRecord). w.domains) o.names_are;
    owns =
        ap (map (option_map (λ (own : KeptState). own.state))) o.owns_are
        ∙ map-append (option_map (λ (own : KeptState). own.state)) k.owns (Some o.own ∷ []);
    shared = o.shared_is;
    pages = o.standing.makes.becomes.domains.pages ∙ o.heap.pages;
    heaps = others;
    frames = o.stack;
  }

  stubs_are : AreStubs new.world.classes l.first l.stubs
  stubs_are =
      subst (λ (cs : List ClassRecord). AreStubs cs l.first l.stubs)
      (sym (classes_are ∙ placed_classes k h law f name l classes loads typed ordered)) loads.stubs_are

  words : new.heap.quota d ≡ Some q.heap
  words = o.standing.makes.becomes.domains.quota d ∙ o.heap.quota

  used : new.heap.used d ≡ heap_words new.world.classes (new.heap.heap d)
  used =
      let made = o.standing.makes.becomes in
      let objects = objects_named classes (o.standing.out ∷ o.standing.standing) opening_classes in
      let heap_is : new.heap.heap d ≡ objects = made.becomes ∙ ap (λ (xs : List NamedObject). xs ++ objects) o.heap.empty.heap in
      let none : 0 + heap_words classes objects ≡ heap_words classes objects = omega arith in
      made.uses ∙ ap (λ (n : ℕ). n + heap_words classes objects) o.heap.empty.unused ∙ none ∙ ap (heap_words classes) (sym heap_is)
      ∙ ap (λ (cs : List ClassRecord). heap_words cs (new.heap.heap d)) (sym classes_are)

  fit_then : AreFittingParts (parts_of then)
  fit_then =
      fits_after (parts_of k) h.sound.fitting (parts_of then) a o.own.state l.stubs opens (added k h law f name l classes loads typed ordered)
      more_classes h.sound.world.ordered h.stubs l.first loads.first_is stubs_are h.sound.sealed h.sound.sound heaps frames words used
      (λ x. o.standing.makes.becomes.mark d x ∙ o.heap.empty.mark x)

  stubs_then : (s : Stub) → Contains new.shared.stubs s → HasClass new.world.classes s.class
  stubs_then =
      stubs_there (parts_of k) h.sound.fitting (parts_of then) a o.own.state l.stubs opens (added k h law f name l classes loads typed ordered)
      more_classes h.sound.world.ordered h.stubs l.first loads.first_is stubs_are

  -- ---- The machine.

  pub machine_is : kernel_machine then ≡ with_new_domain m new.world a inside
  machine_is = opens_change_machines (parts_of k) (parts_of then) a o.own.state l.stubs h.sound.fitting.domains opens

  pub opening : IsOpening new.world.classes l.table q.heap inside
  opening =
      subst (λ (cs : List ClassRecord). IsOpening cs l.table q.heap inside) (sym classes_are)
      (opening_is o.empty new.heap classes l.table d q.heap o.before o.own o.first o.heap.empty.heap o.heap.empty.unused words new_heaps o.standing
      (ap (λ (x : KeptState). length x.state.standing) (sym o.standing.known) ∙ o.eight) inside refl refl)

  pub placed : IsPlacedIn m q inside
  placed = record {
    heap =
        subst (λ (p : Pool). IsPlaceFor p (heap_pages_of q) (new.heap.first_page d)) (sym (heap_pool_is k h heaps frames shared))
        (subst (IsPlaceFor (pool_of_heaps k.heap) (pages_for q.heap)) (sym (o.standing.makes.becomes.domains.first_page d)) o.heap.place);
    stack =
        subst (λ (p : Pool). IsPlaceFor p (stack_pages_of q) (new.frames.first_page d)) (sym (stack_pool_is k h heaps frames shared)) o.stack.place;
  }

  tables_then : tables_of (with_new_domain m new.world a inside) ≡ tables_of m ++ l.table ∷ []
  tables_then = map-append (λ (e : DomainState). e.table) m.domains _

  pub sound_then : HasSoundClasses (with_new_domain m new.world a inside)
  sound_then =
      let now = sound_now k h law f name l classes loads typed ordered in
      record {
        linked =
            subst (λ (ts : List (List NamedClass)). AreLinked new.world.classes ts) (sym tables_then)
            (subst (λ (cs : List ClassRecord). AreLinked cs (tables_of m ++ l.table ∷ [])) (sym classes_are) now.1);
        codes = subst AreSoundCodes (sym classes_are) now.0.codes;
        tables = λ e on.
            subst (λ (cs : List ClassRecord). IsSoundTable cs e.table) (sym classes_are)
            (now.0.each e.table
            (subst (λ (ts : List (List NamedClass)). Contains ts e.table) tables_then
            (in_map (λ (x : DomainState). x.table) (with_new_domain m new.world a inside).domains e on)));
      }

  pub numbers_left : LacksNumbers (caps_of m) q.caps → ⊥
  numbers_left lacks = o.numbers (subst (λ (rs : List CapRange). LacksNumbers rs q.caps) (caps_are k h heaps frames shared) lacks)

  pub few_then : HasManyDomains m → ⊥
  few_then many = omega (arith, many, o.few, as_many k h)

  pub pages_left : LacksPages m q → ⊥
  pages_left lacks = o.places (subst (λ (A : Type 0). A) (sym (pages_lack k h heaps frames shared q)) lacks)

  is_opened : IsOpened m new.world a inside
  is_opened = record {
    sealed = h.sound.sealed;
    sound = h.sound.sound;
    grows = may_grow k h heaps frames shared;
    sound_then = sound_then;
    more = added k h law f name l classes loads typed ordered;
    same = more_classes;
    not_live = not_live k h law f name l classes loads typed ordered;
    numbers = numbers_left;
    few = few_then;
    opening = opening;
    placed = placed;
  }

  -- ---- The kernel.

  abbrev names : DomainRecord
  names = record { id = d; name = name; live = true; table = l.table; offers = l.offers }

  placed_there : l.table ≡ loads.placed.table
  placed_there = loads.table_is

  world_then : IsWorld new.world (length new.world.domains)
  world_then =
      let at_last = opened_world loads (may_load k h) name (λ e live. loads.not_live (e, live))
      (subst AreOrdered (grown k h law f name l classes loads typed ordered) ordered) o.few in
      let same : record {
        classes = k.world.classes ++ added k h law f name l classes loads typed ordered;
        domains = k.world.domains
            ++ record { id = d; name = name; live = true; table = loads.placed.table; offers = loads.placed.offers } ∷ [];
      } ≡ new.world =
      (λ i. record {
        classes = sym (grown k h law f name l classes loads typed ordered) i;
        domains = k.world.domains
            ++ record { id = d; name = name; live = true; table = sym loads.table_is i; offers = sym loads.offers_are i } ∷ [];
      }) ∙ sym o.names_are in
      subst (λ (w : WorldRecord). IsWorld w (length w.domains)) same at_last

  few_classes_then : length new.world.classes ≤ length system_classes + 512 * length new.world.domains
  few_classes_then =
      omega (
        arith,
        ap (λ (w : WorldRecord). length w.domains) o.names_are,
        length-append k.world.domains (names ∷ []),
        ap length more_classes,
        length-append k.world.classes (added k h law f name l classes loads typed ordered),
        as_many_added loads (may_load k h) files,
        h.sound.few_classes,
      )

  rooms_of_new : HasRooms new.world.classes l.table o.own
  rooms_of_new =
      subst (λ (cs : List ClassRecord). HasRooms cs l.table o.own) (sym classes_are)
      (let first = o.rooms.rooms in subst (HasRooms classes l.table) (sym o.standing.known) (record {
        texts = first.texts;
        rooms_differ = first.rooms_differ;
        literals = first.literals;
      }))

  rooms_then : (i : ℕ) (ns : DomainRecord) (own : KeptState) → slice_get new.world.domains i ≡ Some ns → slice_get new.owns i ≡ Some (Some own)
      → HasRooms new.world.classes ns.table own
  rooms_then i ns own names_at own_at =
      by (last_or_before k.world.domains names i ns (subst (λ (w : WorldRecord). slice_get w.domains i ≡ Some ns) o.names_are names_at))
      (last_or_before k.owns (Some o.own) i (Some own) (subst (λ (os : List (Option KeptState)). slice_get os i ≡ Some (Some own)) o.owns_are own_at))
    where
      as_many_owns : length k.owns ≡ length k.world.domains
      as_many_owns = sym (length-map k.owns (option_map (λ (x : KeptState). x.state))) ∙ h.sound.fitting.domains.owns

      by : ((i < length k.world.domains) × (slice_get k.world.domains i ≡ Some ns)) ⊎ ((i ≡ length k.world.domains) × (names ≡ ns))
          → ((i < length k.owns) × (slice_get k.owns i ≡ Some (Some own))) ⊎ ((i ≡ length k.owns) × (Some o.own ≡ Some own))
          → HasRooms new.world.classes ns.table own
      by (inl low) (inl old) =
          subst (λ (cs : List ClassRecord). HasRooms cs ns.table own) (sym more_classes)
          (rooms_still k.world.classes (added k h law f name l classes loads typed ordered) ns.table own (h.sound.world.named i ns low.1)
          (h.sound.rooms i ns own low.1 old.1))
      by (inl low) (inr last) = absurd (omega (arith, low.0, last.0, as_many_owns))
      by (inr end) (inl old) = absurd (omega (arith, end.0, old.0, as_many_owns))
      by (inr end) (inr last) =
          subst (λ (n : DomainRecord). HasRooms new.world.classes n.table own) end.1
          (subst (HasRooms new.world.classes l.table) (same_Some o.own own last.1) rooms_of_new)

  pub kernel_then : AreKernelParts then
  kernel_then = record {
    sound = record {
      fitting = fit_then;
      sealed = subst IsSealed (sym machine_is) (opened_sealed is_opened);
      sound = subst HasSoundClasses (sym machine_is) sound_then;
      world = world_then;
      few_classes = few_classes_then;
      rooms = rooms_then;
      main = h.sound.main;
    };
    stubs = stubs_then;
  }
