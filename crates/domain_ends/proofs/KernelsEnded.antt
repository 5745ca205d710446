-- Where a domain has ended in each part of a kernel, all that loading and steps ask of the parts holds still.
use Rattle.std.proofs.Common.{◌≡◌, ◌+◌, ◌*◌, ◌<◌, ◌≤◌, ◌==◌, inl, inr, Bool, true, false, List, length, map, slice_get, slice_set, Contains, Option, Some, None, option_map, refl, sym, ap, subst, ◌∙◌, ℕ, arith, eq-eqb}
use Rattle.std.specs.Prelude.{codes}
use Rattle.std.proofs.lemmas.Bool.{cases_eq, eqb-true}
use Rattle.std.proofs.lemmas.List.{length-set, map-set}
use Rattle.std.proofs.lemmas.Option.{same_Some, slice_get_within}
use Rattle.jk_model.specs.Descriptors.{IsMethodText}
use Rattle.jk_model.specs.SystemTable.{system_classes}
use Rattle.jk_model.specs.declared.identifiers.DomainId.{DomainId}
use Rattle.jk_model_classes.specs.declared.records.ClassRecord.{ClassRecord}
use Rattle.jk_model_classes.specs.declared.sharing.Offer.{Offer}
use Rattle.jk_model_classes.specs.declared.sharing.Stub.{Stub}
use Rattle.jk_model_classes.specs.Classes.{HasClass}
use Rattle.jk_model_classes.specs.Worlds.{DomainRecord, IsLiveNamed, IsNamed, IsWorld, NamedClass, WorldRecord}
use Rattle.jk_model_domains.specs.OwnStates.{OwnState}
use Rattle.jk_model_sharing.specs.SharedStates.{Drops, SharedDomain, domain_numbered}
use Rattle.jk_model_machine_state.specs.Places.{LiveDomain}
use Rattle.jk_model_crossings.specs.DomainEnds.{Terminates}
use Rattle.class_init.specs.KeptStates.{HasRooms, KeptState}
use Rattle.domain_resolver.specs.LiveDomains.{EndsDomain}
use Rattle.object_store.specs.HeapContents.{Closes as ClosesHeap}
use Rattle.frame_store.specs.FrameContents.{Closes as ClosesFrames}
use Rattle.list_lemmas.proofs.FoundItems.{Finds, finds}
use Rattle.list_lemmas.proofs.ItemsByPlace.{comes_from, slice_get-set_cases, slice_get-set_same}
use Rattle.machine_laws.proofs.EndsSealed.{ends_sealed}
use Rattle.machine_laws.proofs.WorldsKept.{sound_classes_stay, terminates_keep}
use Rattle.machine_parts.specs.ChangedParts.{StandsInParts}
use Rattle.machine_parts.specs.FittingParts.{HaveOneList}
use Rattle.machine_parts.specs.MachineParts.{domain_state, inside_of}
use Rattle.machine_parts.specs.EndedParts.{EndsInParts, ended_threads, lines_of_end}
use Rattle.machine_parts.proofs.DomainEnded.{ends_change_machines}
use Rattle.machine_parts.proofs.DomainsOfParts.{live_domain_is_of_parts, numbered_shared}
use Rattle.thread_segments.specs.Asked.{IsLiveDomain}
use Rattle.kernel_parts.specs.SoundKernels.{AreKernelParts, KernelContent, kernel_machine, parts_of}
use Rattle.domain_ends.specs.TidyParts.{AreTidyParts}
use Rattle.domain_ends.proofs.PartsEnded.{fits_ended}

-- ---- The world.

module _ (w : WorldRecord) (d : DomainId) (r : DomainRecord) (is : slice_get w.domains d.0 ≡ Some r) where
  abbrev pub dead : DomainRecord
  dead = record r { live = false }

  abbrev pub without : WorldRecord
  without = record w { domains = slice_set w.domains d.0 dead }

  pub as_many : length without.domains ≡ length w.domains
  as_many = length-set w.domains d.0 dead

  -- what stands at a number is what stood there, but for that it lives
  abbrev Stood : ℕ → DomainRecord → Type 0
  Stood i x =
      (was : DomainRecord) × (slice_get w.domains i ≡ Some was) × (x.id ≡ was.id) × (x.table ≡ was.table) × (x.offers ≡ was.offers)

  pub stood : (i : ℕ) (x : DomainRecord) → slice_get without.domains i ≡ Some x → Stood i x
  stood i x at = elim (slice_get-set_cases w.domains d.0 i dead x at) [
    | inl (same, here) ↦ (
      r,
      ap (slice_get w.domains) (sym same) ∙ is,
      ap (λ (y : DomainRecord). y.id) (sym here),
      ap (λ (y : DomainRecord). y.table) (sym here),
      ap (λ (y : DomainRecord). y.offers) (sym here),
    )
    | inr was ↦ (x, was, refl, refl, refl)
  ]

  -- each that lives did so
  lived : (name : List ℕ) (e : DomainId) → IsLiveNamed without name e → IsLiveNamed w name e
  lived name e (x, at, lives, named) = elim (cases_eq d.0 e.0) [
    | inl same ↦
        let set = slice_get-set_same w.domains d.0 dead (slice_get_within w.domains d.0 r is) in
        let one : dead ≡ x = same_Some dead x (sym set ∙ ap (slice_get without.domains) same ∙ at) in
        let both : false ≡ true = ap (λ (y : DomainRecord). y.live) one ∙ lives in
        absurd cc
    | inr other ↦ elim (slice_get-set_cases w.domains d.0 e.0 dead x at) [
      | inl here ↦ absurd (other here.0)
      | inr was ↦ (x, was, lives, named)
    ]
  ]

  pub world_ended : IsWorld w (length w.domains) → IsWorld without (length without.domains)
  world_ended h = record {
    numbered = λ i x at. let was = stood i x at in ap (λ (n : DomainId). n.0) was.2 ∙ h.numbered i was.0 was.1;
    names_differ = λ name a b here there. h.names_differ name a b (lived name a here) (lived name b there);
    named = λ i x at c in_table.
        let was = stood i x at in
        h.named i was.0 was.1 c (subst (λ (table : List NamedClass). IsNamed table c) was.3 in_table);
    offered = λ i x at o there.
        let was = stood i x at in
        h.offered i was.0 was.1 o (subst (λ (offers : List Offer). Contains offers o) was.4 there);
    records = h.records;
    ordered = h.ordered;
    homes = λ c x e at home. elim (h.homes c x e at home) [
      | inl low ↦ let many = as_many in inl (omega (arith, low, many))
      | inr last ↦ inr (last ∙ sym as_many)
    ];
    few_domains = let few = h.few_domains in let many = as_many in omega (arith, few, many);
  }

-- ---- What code asks of a live domain, and what it has done.

module _ (k : KernelContent) (d : DomainId) (one : HaveOneList (parts_of k)) (l : LiveDomain (kernel_machine k) d) where
  abbrev has_number : SharedDomain → Bool
  has_number e = e.number.0 == d.0

  -- what the world, the shared state and the own states have of it
  pub stood_in : (own : OwnState) × (names : DomainRecord) × (s : SharedDomain) × StandsInParts (parts_of k) d own names s
      × (l.domain ≡ domain_state k.heap k.frames names s (Some own)) × (l.inside ≡ inside_of k.heap k.frames d own)
  stood_in = live_domain_is_of_parts (parts_of k) d l one

  found : (o : Option SharedDomain) → Finds has_number k.shared.domains o → o ≡ Some stood_in.2
  found None h =
      let number = numbered_shared (parts_of k) one d.0 stood_in.2 stood_in.3.is_shared in
      let never : true ≡ false = sym (eq-eqb stood_in.2.number.0 d.0 number) ∙ h d.0 stood_in.2 stood_in.3.is_shared in
      absurd cc
  found (Some e) h =
      let place : h.0 ≡ d.0 = sym (numbered_shared (parts_of k) one h.0 e h.1) ∙ eqb-true e.number.0 d.0 h.2 in
      sym h.1 ∙ ap (slice_get k.shared.domains) place ∙ stood_in.3.is_shared

  pub lives : IsLiveDomain k.shared d
  lives = (
    stood_in.2,
    found (domain_numbered k.shared d) (finds has_number k.shared.domains),
    (one.same_number d.0 stood_in.1 stood_in.2 stood_in.3.is_named stood_in.3.is_shared).1
        ∙ sym (one.same_life d.0 stood_in.1 (Some stood_in.0) stood_in.3.is_named stood_in.3.is_own),
  )

  pub own_within : d.0 < length k.owns
  own_within =
      let from = comes_from (option_map (λ (own : KeptState). own.state)) k.owns d.0 (Some stood_in.0) stood_in.3.is_own in
      slice_get_within k.owns d.0 from.from from.there

pub ends_in_parts : (k new : KernelContent) (d : DomainId) → EndsDomain k.world d new.world → new.owns ≡ slice_set k.owns d.0 None
    → Drops k.shared d new.shared → ClosesHeap k.heap new.heap d → ClosesFrames k.frames new.frames d → EndsInParts (parts_of k) (parts_of new) d
ends_in_parts k new d world owns shared heap frames = record {
  names = world.0;
  is_named = world.1;
  world = world.2;
  owns = ap (map (option_map (λ (own : KeptState). own.state))) owns ∙ map-set (option_map (λ (own : KeptState). own.state)) k.owns d.0 None;
  shared = shared;
  heap = heap;
  frames = frames;
}

-- ---- All parts.

module _ (k new : KernelContent) (d : DomainId) (l : LiveDomain (kernel_machine k) d) (owns : new.owns ≡ slice_set k.owns d.0 None)
    (main : new.main_kind ≡ k.main_kind) (h : EndsInParts (parts_of k) (parts_of new) d) where
  rooms_ended : AreTidyParts k → (i : ℕ) (names : DomainRecord) (own : KeptState) → slice_get new.world.domains i ≡ Some names
      → slice_get new.owns i ≡ Some (Some own) → HasRooms new.world.classes names.table own
  rooms_ended tidy i names own at is =
      let world : slice_get (slice_set k.world.domains d.0 (record h.names { live = false })) i ≡ Some names =
      ap (λ (w : WorldRecord). slice_get w.domains i) (sym h.world) ∙ at in
      let was = stood k.world d h.names h.is_named i names world in
      elim (slice_get-set_cases k.owns d.0 i None (Some own) (ap (λ (os : List (Option KeptState)). slice_get os i) (sym owns) ∙ is)) [
        | inl here ↦ (let both : None ≡ Some own = here.1 in absurd cc)
        | inr old ↦
            subst (λ (classes : List ClassRecord). HasRooms classes names.table own) (ap (λ (w : WorldRecord). w.classes) (sym h.world))
            (subst (λ (table : List NamedClass). HasRooms k.world.classes table own) (sym was.3) (tidy.rooms i was.0 own was.1 old))
      ]

  pub tidy_ended : AreTidyParts k → AreTidyParts new
  tidy_ended tidy = record {
    fitting = fits_ended (parts_of k) (parts_of new) d l tidy.fitting h;
    world = subst (λ (w : WorldRecord). IsWorld w (length w.domains)) (sym h.world) (world_ended k.world d h.names h.is_named tidy.world);
    few_classes = subst (λ (w : WorldRecord). length w.classes ≤ length system_classes + 512 * length w.domains) (sym h.world)
        (subst (λ (n : ℕ). length k.world.classes ≤ length system_classes + 512 * n) (sym (as_many k.world d h.names h.is_named)) tidy.few_classes);
    rooms = rooms_ended tidy;
    main = subst (IsMethodText (codes "([Ljava/lang/String;)V")) (sym main) tidy.main;
    stubs = λ s there.
        subst (λ (w : WorldRecord). HasClass w.classes s.class) (sym h.world)
        (tidy.stubs s (subst (λ (ss : List Stub). Contains ss s) h.shared.stubs there));
  }

  pub as_tidy : AreKernelParts k → AreTidyParts k
  as_tidy parts = record {
    fitting = parts.sound.fitting;
    world = parts.sound.world;
    few_classes = parts.sound.few_classes;
    rooms = parts.sound.rooms;
    main = parts.sound.main;
    stubs = parts.stubs;
  }

  pub kernel_ended : AreKernelParts k → AreKernelParts new
  kernel_ended parts =
      let tidy = tidy_ended (as_tidy parts) in
      let ends : Terminates (kernel_machine k) l.domain (lines_of_end l.domain.name (ended_threads d k.shared)) (kernel_machine new) =
      ends_change_machines (parts_of k) (parts_of new) d l parts.sound.fitting h in
      record {
        sound = record {
          fitting = tidy.fitting;
          sealed = ends_sealed (kernel_machine k) (kernel_machine new) l.domain (lines_of_end l.domain.name (ended_threads d k.shared))
              parts.sound.sealed ends;
          sound = sound_classes_stay (kernel_machine k) (kernel_machine new)
              (terminates_keep (kernel_machine k) (kernel_machine new) l.domain (lines_of_end l.domain.name (ended_threads d k.shared)) ends)
              parts.sound.sound;
          world = tidy.world;
          few_classes = tidy.few_classes;
          rooms = tidy.rooms;
          main = tidy.main;
        };
        stubs = tidy.stubs;
      }
