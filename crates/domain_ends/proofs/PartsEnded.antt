-- Where each part is without a domain, the parts fit each other again.
use Rattle.std.proofs.Common.{◌≡◌, ◌≢◌, ◌⊎◌, ℕ, ◌==◌, inl, inr, Bool, true, false, cond, filter, find, List, [], ◌∷◌, length, map, slice_get, slice_set, Contains, Option, Some, None, is_some, sum_by, refl, sym, ap, subst, ◌∙◌}
use Rattle.std.specs.Option.{option_map_or}
use Rattle.std.proofs.lemmas.Bool.{cases_eq, eqb-false, eqb-true}
use Rattle.std.proofs.lemmas.List.{length-set}
use Rattle.std.proofs.lemmas.Option.{same_Some, slice_get_within}
use Rattle.jk_model.specs.declared.identifiers.ClassId.{ClassId}
use Rattle.jk_model.specs.declared.identifiers.DomainId.{DomainId}
use Rattle.jk_model.specs.declared.identifiers.SegmentNo.{SegmentNo}
use Rattle.jk_model.specs.declared.script.Quotas.{Quotas}
use Rattle.jk_model_classes.specs.declared.records.ClassRecord.{ClassRecord}
use Rattle.jk_model_classes.specs.declared.sharing.Stub.{Stub}
use Rattle.jk_model_classes.specs.Stubs.{ImplementsRemote}
use Rattle.jk_model_classes.specs.Worlds.{DomainRecord, WorldRecord}
use Rattle.jk_model_domains.specs.OwnStates.{OwnState}
use Rattle.jk_model_frames.specs.Frames.{FrameState}
use Rattle.jk_model_heaps.specs.Capabilities.{Capability}
use Rattle.jk_model_heaps.specs.Heaps.{heap_words}
use Rattle.jk_model_sharing.specs.CapabilityCalls.{all_revoked}
use Rattle.jk_model_sharing.specs.KnownStubs.{AreKnownStubs}
use Rattle.jk_model_sharing.specs.Segments.{SharedSegment, SharedThread, has_segments, segments_left, shared_form, with_segments}
use Rattle.jk_model_sharing.specs.SharedStates.{SharedDomain, stub_for}
use Rattle.jk_model_machine_state.specs.Machines.{Machine, Thread, chunks_of, chunks_used, segment_form}
use Rattle.jk_model_machine_state.specs.Places.{LiveDomain}
use Rattle.jk_model_crossings.specs.DomainEnds.{Terminates}
use Rattle.jk_model_crossings.specs.DomainEnds.{has_segments as has_running}
use Rattle.frame_store.specs.FrameContents.{IsLeftOf, StoredSegment}
use Rattle.list_lemmas.proofs.ItemsByPlace.{comes_from, mapped_at, slice_get-set_cases, slice_get-set_other, slice_get-set_same}
use Rattle.list_lemmas.proofs.ItemsOfLists.{Contains-at, Contains-none, place_of}
use Rattle.list_lemmas.proofs.ItemsThatPass.{Contains-filter}
use Rattle.heap_laws.proofs.MappedLists.{mapped, mapped_from}
use Rattle.machine_laws.proofs.ChangedItems.{as_many as as_many_changed}
use Rattle.machine_laws.proofs.FilteredItems.{filtered_from}
use Rattle.machine_parts.specs.EndedParts.{EndsInParts, ended_threads, lines_of_end}
use Rattle.machine_parts.specs.ChangedParts.{StandsInParts}
use Rattle.machine_parts.specs.FittingParts.{AreFittingParts, HaveOneList, HaveStubs}
use Rattle.machine_parts.specs.MachineParts.{MachineParts, domain_state, frames_in, inside_of, machine_of}
use Rattle.machine_parts.proofs.DomainEnded.{ends_change_machines}
use Rattle.machine_parts.proofs.DomainsOfParts.{live_domain_is_of_parts, state_at}
use Rattle.domain_ends.proofs.ChunksLeft.{none_cost_all, others_cost_all}
use Rattle.domain_ends.proofs.SegmentsStay.{all_stood, others_stay}

-- ---- A domain that is shared, by whether it is the one that ends.

abbrev dropped : DomainId → SharedDomain → SharedDomain
dropped d s = cond (s.number.0 == d.0) (record s { live = false; caps = all_revoked s.caps }) s

number_by : (b : Bool) (s : SharedDomain) → (cond b (record s { live = false; caps = all_revoked s.caps }) s).number ≡ s.number
number_by true s = refl
number_by false s = refl

quotas_by : (b : Bool) (s : SharedDomain) → (cond b (record s { live = false; caps = all_revoked s.caps }) s).quotas ≡ s.quotas
quotas_by true s = refl
quotas_by false s = refl

dead_by : (b : Bool) (d : DomainId) (s : SharedDomain) → s.number.0 == d.0 ≡ b → s.number.0 ≡ d.0
    → (cond b (record s { live = false; caps = all_revoked s.caps }) s).live ≡ false
dead_by true d s is same = refl
dead_by false d s is same = absurd (eqb-false s.number.0 d.0 is same)

lives_by : (b : Bool) (d : DomainId) (s : SharedDomain) → s.number.0 == d.0 ≡ b → (s.number.0 ≡ d.0 → ⊥)
    → cond b (record s { live = false; caps = all_revoked s.caps }) s ≡ s
lives_by true d s is other = absurd (other (eqb-true s.number.0 d.0 is))
lives_by false d s is other = refl

-- each of its capabilities has the class that it had
made_by : (b : Bool) (s : SharedDomain) (c : Capability) → Contains (cond b (record s { live = false; caps = all_revoked s.caps }) s).caps.made c
    → (x : Capability) × Contains s.caps.made x × (c.class ≡ x.class)
made_by true s c there =
    let from = mapped_from (λ (x : Capability). record x { revoked = true }) s.caps.made c there in
    (from.0, from.1, ap (λ (x : Capability). x.class) (sym from.2))
made_by false s c there = (c, there, refl)

never : (b : Bool) → b ≡ true → b ≡ false → ⊥
never true on off = cc
never false on off = cc

module _ (p new : MachineParts) (d : DomainId) (l : LiveDomain (machine_of p) d) (fit : AreFittingParts p) (h : EndsInParts p new d) where
  abbrev one : HaveOneList p
  one = fit.domains

  names_are : new.world.domains ≡ slice_set p.world.domains d.0 (record h.names { live = false })
  names_are = ap (λ (w : WorldRecord). w.domains) h.world

  classes_are : new.world.classes ≡ p.world.classes
  classes_are = ap (λ (w : WorldRecord). w.classes) h.world

  -- ---- What stands at a number.

  abbrev NamesWere : ℕ → DomainRecord → Type 0
  NamesWere i names = ((d.0 ≡ i) × (record h.names { live = false } ≡ names)) ⊎ ((d.0 ≢ i) × (slice_get p.world.domains i ≡ Some names))

  names_were : (i : ℕ) (names : DomainRecord) → slice_get new.world.domains i ≡ Some names → NamesWere i names
  names_were i names at =
      let set = ap (λ (ds : List DomainRecord). slice_get ds i) (sym names_are) ∙ at in
      elim (cases_eq d.0 i) [
        | inl same ↦
            let has = slice_get-set_same p.world.domains d.0 (record h.names { live = false })
            (slice_get_within p.world.domains d.0 h.names h.is_named) in
            inl (
              same,
              same_Some (record h.names { live = false }) names
                  (sym has ∙ ap (slice_get (slice_set p.world.domains d.0 (record h.names { live = false }))) same ∙ set),
            )
        | inr other ↦ elim (slice_get-set_cases p.world.domains d.0 i (record h.names { live = false }) names set) [
          | inl here ↦ absurd (other here.0)
          | inr was ↦ inr (other, was)
        ]
      ]

  -- it had a record with the same number and table
  names_before : (i : ℕ) (names : DomainRecord) → NamesWere i names
      → (was : DomainRecord) × (slice_get p.world.domains i ≡ Some was) × (names.id ≡ was.id) × (names.table ≡ was.table)
  names_before i names (inl (same, is)) =
      (h.names, ap (slice_get p.world.domains) (sym same) ∙ h.is_named, ap (λ (r : DomainRecord). r.id) (sym is), ap (λ (r : DomainRecord). r.table) (sym is))
  names_before i names (inr (other, was)) = (names, was, refl, refl)

  pub names_stood : (i : ℕ) (names : DomainRecord) → slice_get new.world.domains i ≡ Some names
      → (was : DomainRecord) × (slice_get p.world.domains i ≡ Some was) × (names.id ≡ was.id) × (names.table ≡ was.table)
  names_stood i names at = names_before i names (names_were i names at)

  shared_from : (i : ℕ) (s : SharedDomain) → slice_get new.shared.domains i ≡ Some s
      → (was : SharedDomain) × (slice_get p.shared.domains i ≡ Some was) × (dropped d was ≡ s)
  shared_from i s at =
      let from = comes_from (dropped d) p.shared.domains i s (ap (λ (ds : List SharedDomain). slice_get ds i) (sym h.shared.domains) ∙ at) in
      (from.from, from.there, from.gives)

  abbrev OwnWas : ℕ → Option OwnState → Type 0
  OwnWas i own = ((d.0 ≡ i) × (own ≡ None)) ⊎ ((d.0 ≢ i) × (slice_get p.owns i ≡ Some own))

  own_was : (i : ℕ) (own : Option OwnState) → slice_get new.owns i ≡ Some own → OwnWas i own
  own_was i own at =
      let set = ap (λ (os : List (Option OwnState)). slice_get os i) (sym h.owns) ∙ at in
      elim (cases_eq d.0 i) [
        | inl same ↦
            let of_parts = live_domain_is_of_parts p d l one in
            let has = slice_get-set_same p.owns d.0 None (slice_get_within p.owns d.0 (Some of_parts.0) of_parts.3.is_own) in
            inl (same, same_Some own None (sym set ∙ ap (slice_get (slice_set p.owns d.0 None)) (sym same) ∙ has))
        | inr other ↦ elim (slice_get-set_cases p.owns d.0 i None own set) [
          | inl here ↦ absurd (other here.0)
          | inr was ↦ inr (other, was)
        ]
      ]

  -- ---- The lists have the same domains.

  shared_number : (i : ℕ) (names : DomainRecord) (s : SharedDomain) → NamesWere i names → slice_get new.shared.domains i ≡ Some s
      → (s.number ≡ names.id) × (s.live ≡ names.live)
  shared_number i names s (inl (same, is)) at =
      let from = shared_from i s at in
      let was = one.same_number i h.names from.0 (ap (slice_get p.world.domains) (sym same) ∙ h.is_named) from.1 in
      let number : from.0.number.0 ≡ d.0 =
      ap (λ (n : DomainId). n.0) was.0 ∙ one.numbered d.0 h.names h.is_named in (
        ap (λ (e : SharedDomain). e.number) (sym from.2) ∙ number_by (from.0.number.0 == d.0) from.0 ∙ was.0
            ∙ ap (λ (r : DomainRecord). r.id) is,
        ap (λ (e : SharedDomain). e.live) (sym from.2) ∙ dead_by (from.0.number.0 == d.0) d from.0 refl number
            ∙ ap (λ (r : DomainRecord). r.live) is,
      )
  shared_number i names s (inr (other, is)) at =
      let from = shared_from i s at in
      let was = one.same_number i names from.0 is from.1 in
      let apart : from.0.number.0 ≡ d.0 → ⊥ =
      λ same. other (sym same ∙ ap (λ (n : DomainId). n.0) was.0 ∙ one.numbered i names is) in
      let kept : s ≡ from.0 = sym from.2 ∙ lives_by (from.0.number.0 == d.0) d from.0 refl apart in (
        ap (λ (e : SharedDomain). e.number) kept ∙ was.0,
        ap (λ (e : SharedDomain). e.live) kept ∙ was.1,
      )

  own_life : (i : ℕ) (names : DomainRecord) (own : Option OwnState) → NamesWere i names → OwnWas i own → is_some own ≡ names.live
  own_life i names own (inl (same, is)) (inl (also, none)) = ap is_some none ∙ ap (λ (r : DomainRecord). r.live) is
  own_life i names own (inl (same, is)) (inr (other, was)) = absurd (other same)
  own_life i names own (inr (other, is)) (inl (same, none)) = absurd (other same)
  own_life i names own (inr (other, is)) (inr (also, was)) = one.same_life i names own is was

  pub one_list : HaveOneList new
  one_list = record {
    shared = ap (λ (ds : List SharedDomain). length ds) h.shared.domains ∙ as_many_changed (dropped d) p.shared.domains ∙ one.shared ∙ sym as_many;
    owns = ap (λ (os : List (Option OwnState)). length os) h.owns ∙ length-set p.owns d.0 None ∙ one.owns ∙ sym as_many;
    numbered = λ i names at.
        let was = names_stood i names at in
        ap (λ (n : DomainId). n.0) was.2 ∙ one.numbered i was.0 was.1;
    same_number = λ i names s at shared. shared_number i names s (names_were i names at) shared;
    same_life = λ i names own at is. own_life i names own (names_were i names at) (own_was i own is);
  }
    where
      as_many : length new.world.domains ≡ length p.world.domains
      as_many = ap (λ (ds : List DomainRecord). length ds) names_are ∙ length-set p.world.domains d.0 (record h.names { live = false })

  -- ---- Live domains.

  -- one that lives now did before, and is another
  record LivedBefore (e : DomainId) (now : LiveDomain (machine_of new) e) : Type 0 where
    other : e ≢ d
    before : LiveDomain (machine_of p) e
    quotas : now.domain.quotas ≡ before.domain.quotas

  lived_by : (e : DomainId) (now : LiveDomain (machine_of new) e) → (own : OwnState) (names : DomainRecord) (s : SharedDomain)
      → StandsInParts new e own names s → now.domain ≡ domain_state new.heap new.frames names s (Some own)
      → OwnWas e.0 (Some own) → NamesWere e.0 names → LivedBefore e now
  lived_by e now own names s stands is (inl (same, none)) were = absurd cc
  lived_by e now own names s stands is (inr (other, own_at)) (inl (same, dead)) = absurd (other same)
  lived_by e now own names s stands is (inr (other, own_at)) (inr (also, names_at)) =
      let from = shared_from e.0 s stands.is_shared in
      let number : names.id ≡ e = λ i. record { 0 = one.numbered e.0 names names_at i } in
      record {
        other = λ same. other (ap (λ (n : DomainId). n.0) (sym same));
        before = record {
          domain = domain_state p.heap p.frames names from.0 (Some own);
          is_domain = state_at p.heap p.frames p.world.domains p.shared.domains p.owns e.0 names from.0 (Some own) names_at from.1 own_at;
          numbered = number;
          inside = inside_of p.heap p.frames names.id own;
          is_inside = refl;
        };
        quotas = ap (λ x. x.quotas) is ∙ ap (λ (x : SharedDomain). x.quotas) (sym from.2) ∙ quotas_by (from.0.number.0 == d.0) from.0;
      }

  lived : (e : DomainId) (now : LiveDomain (machine_of new) e) → LivedBefore e now
  lived e now =
      let parts = live_domain_is_of_parts new e now one_list in
      lived_by e now parts.0 parts.1 parts.2 parts.3 parts.4 (own_was e.0 (Some parts.0) parts.3.is_own)
      (names_were e.0 parts.1 parts.3.is_named)

  -- one that lived and is another does so still
  lives_on : (e : DomainId) → e ≢ d → LiveDomain (machine_of p) e → LiveDomain (machine_of new) e
  lives_on e other before =
      let parts = live_domain_is_of_parts p e before one in
      let apart : d.0 ≢ e.0 = λ same. other (λ i. record { 0 = sym same i }) in
      let names_at : slice_get new.world.domains e.0 ≡ Some parts.1 =
      ap (λ (ds : List DomainRecord). slice_get ds e.0) names_are
      ∙ slice_get-set_other p.world.domains d.0 e.0 (record h.names { live = false }) apart ∙ parts.3.is_named in
      let own_at : slice_get new.owns e.0 ≡ Some (Some parts.0) =
      ap (λ (os : List (Option OwnState)). slice_get os e.0) h.owns ∙ slice_get-set_other p.owns d.0 e.0 None apart ∙ parts.3.is_own in
      let shared_at : slice_get new.shared.domains e.0 ≡ Some (dropped d parts.2) =
      ap (λ (ds : List SharedDomain). slice_get ds e.0) h.shared.domains ∙ mapped_at (dropped d) p.shared.domains e.0 parts.2 parts.3.is_shared in
      record {
        domain = domain_state new.heap new.frames parts.1 (dropped d parts.2) (Some parts.0);
        is_domain = state_at new.heap new.frames new.world.domains new.shared.domains new.owns e.0 parts.1 (dropped d parts.2) (Some parts.0)
            names_at shared_at own_at;
        numbered = parts.3.number;
        inside = inside_of new.heap new.frames parts.1.id parts.0;
        is_inside = refl;
      }

  -- ---- What the stores count.

  words : (e : DomainId) → new.heap.used e ≡ heap_words new.world.classes (new.heap.heap e)
  words e = elim (cases_eq e.0 d.0) [
    | inl same ↦
        let is : e ≡ d = λ i. record { 0 = same i } in
        ap new.heap.used is ∙ h.heap.empty.unused
        ∙ sym (ap (λ (n : DomainId). heap_words new.world.classes (new.heap.heap n)) is ∙ ap (heap_words new.world.classes) h.heap.empty.heap)
    | inr differ ↦
        let other : e ≢ d = λ is. differ (ap (λ (n : DomainId). n.0) is) in
        h.heap.others.used e other ∙ fit.used.words e ∙ ap (heap_words p.world.classes) (sym (h.heap.others.heap e other))
        ∙ ap (λ (classes : List ClassRecord). heap_words classes (new.heap.heap e)) (sym classes_are)
  ]

  terminates : Terminates (machine_of p) l.domain (lines_of_end l.domain.name (ended_threads d p.shared)) (machine_of new)
  terminates = ends_change_machines p new d l fit h

  threads_are : (machine_of new).threads
      ≡ filter has_running (map (λ (e : Thread). record e { segments = segments_left segment_form d e.segments }) (machine_of p).threads)
  threads_are =
      ap (λ (m : Machine). m.threads) terminates.leads ∙ ap (λ (m : Machine). filter has_running m.threads) terminates.is_cut
      ∙ ap (λ (n : DomainId). filter has_running (map (λ (e : Thread). record e { segments = segments_left segment_form n e.segments }) (machine_of p).threads))
      l.numbered

  chunks : (e : DomainId) → new.frames.used e ≡ chunks_used (machine_of new) e
  chunks e = elim (cases_eq e.0 d.0) [
    | inl same ↦
        let is : e ≡ d = λ i. record { 0 = same i } in
        ap new.frames.used is ∙ h.frames.unused ∙ sym (none_cost_all d e same (machine_of p).threads)
        ∙ ap (λ (ts : List Thread). sum_by (λ (thread : Thread). sum_by (chunks_of e) thread.segments) ts) (sym threads_are)
    | inr differ ↦
        let other : e ≢ d = λ is. differ (ap (λ (n : DomainId). n.0) is) in
        h.frames.other_uses e other ∙ fit.used.chunks e ∙ sym (others_cost_all d e differ (machine_of p).threads)
        ∙ ap (λ (ts : List Thread). sum_by (λ (thread : Thread). sum_by (chunks_of e) thread.segments) ts) (sym threads_are)
  ]

  -- ---- Segments.

  abbrev stored : SharedSegment → StoredSegment
  stored s = record { domain = s.domain; frames = frames_in p.frames s.number }

  -- a segment of another domain is stored as it was
  stays : (s : SharedSegment) → p.frames.segment s.number ≡ Some (stored s) → (s.domain.0 ≢ d.0) → new.frames.segment s.number ≡ Some (stored s)
  stays s is other = by (subst (λ (o : Option StoredSegment). IsLeftOf d o (new.frames.segment s.number)) is (h.frames.segment s.number))
    where
      by : IsLeftOf d (Some (stored s)) (new.frames.segment s.number) → new.frames.segment s.number ≡ Some (stored s)
      by (inl gone) = absurd (other (ap (λ (n : DomainId). n.0) gone.0))
      by (inr left) = left.1

  -- what it has in the machine was there in the thread, but for flags
  record Stood (s : SharedSegment) : Type 0 where
    thread : SharedThread
    there : Contains p.shared.threads thread
    before : SharedSegment
    in_it : Contains thread.segments before
    number : s.number ≡ before.number
    domain : s.domain ≡ before.domain
    other : before.domain.0 ≢ d.0

  stood : (t : SharedThread) (s : SharedSegment) → Contains new.shared.threads t → Contains t.segments s → Stood s
  stood t s there in_it =
      let live = subst (λ (ts : List SharedThread). Contains ts t) h.shared.threads there in
      let from = mapped_from (with_segments (segments_left shared_form d)) p.shared.threads t
      (filtered_from has_segments (map (with_segments (segments_left shared_form d)) p.shared.threads) t live) in
      let left : Contains (segments_left shared_form d from.0.segments) s =
      subst (λ (x : SharedThread). Contains x.segments s) (sym from.2) in_it in
      let was = all_stood d from.0.segments s left in
      record {
        thread = from.0;
        there = from.1;
        before = was.0;
        in_it = was.1;
        number = was.2.number;
        domain = was.2.domain;
        other = was.3;
      }

  frames_of : Option StoredSegment → List FrameState
  frames_of o = option_map_or (λ (g : StoredSegment). g.frames) o []

  each : (t : SharedThread) (s : SharedSegment) → Contains new.shared.threads t → Contains t.segments s
      → new.frames.segment s.number ≡ Some (record { domain = s.domain; frames = frames_in new.frames s.number })
  unfolding frames_of
  each t s there in_it =
      let was = stood t s there in_it in
      let now : new.frames.segment s.number ≡ Some (stored was.before) =
      ap new.frames.segment was.number ∙ stays was.before (fit.segments.each was.thread was.before was.there was.in_it) was.other in
      now ∙ (λ i. Some (record { domain = sym was.domain i; frames = frames_of (sym now i) }))

  -- a thread with one of these segments lives on
  some_left : (t : SharedThread) (segments : List SharedSegment) (s : SharedSegment) → Contains segments s
      → has_segments (record t { segments = segments }) ≡ true
  some_left t [] s there = absurd (Contains-none s there)
  some_left t (a ∷ more) s there = refl

  stored_before : (n : SegmentNo) (g : StoredSegment) (o : Option StoredSegment) → new.frames.segment n ≡ Some g → p.frames.segment n ≡ o
      → IsLeftOf d o (new.frames.segment n) → (p.frames.segment n ≡ Some g) × (g.domain ≢ d)
  stored_before n g None now is left = (let both : None ≡ Some g = sym left ∙ now in absurd cc)
  stored_before n g (Some was) now is (inl (same, none)) = (let both : None ≡ Some g = sym none ∙ now in absurd cc)
  stored_before n g (Some was) now is (inr (other, kept)) =
      let one : was ≡ g = same_Some was g (sym kept ∙ now) in
      (is ∙ ap (λ (x : StoredSegment). Some x) one, subst (λ (x : StoredSegment). x.domain ≢ d) one other)

  no_others : (n : SegmentNo) (g : StoredSegment) → new.frames.segment n ≡ Some g
      → (t : SharedThread) × (s : SharedSegment) × Contains new.shared.threads t × Contains t.segments s × (s.number ≡ n)
  no_others n g now =
      let was = stored_before n g (p.frames.segment n) now refl (h.frames.segment n) in
      let at = fit.segments.no_others n g was.0 in
      let e = at.0 in
      let s = at.1 in
      let same : stored s ≡ g =
      same_Some (stored s) g (sym (fit.segments.each e s at.2 at.3) ∙ ap p.frames.segment at.4 ∙ was.0) in
      let other : s.domain.0 ≢ d.0 =
      λ is. was.1 (sym (ap (λ (x : StoredSegment). x.domain) same) ∙ (λ i. record { 0 = is i })) in
      let kept = others_stay d e.segments s other at.3 in
      let left : List SharedSegment = segments_left shared_form d e.segments in
      let there : Contains (map (with_segments (segments_left shared_form d)) p.shared.threads) (with_segments (segments_left shared_form d) e) =
      mapped (with_segments (segments_left shared_form d)) p.shared.threads e at.2 in (
        with_segments (segments_left shared_form d) e,
        kept.0,
        subst (λ (ts : List SharedThread). Contains ts (with_segments (segments_left shared_form d) e)) (sym h.shared.threads)
            (Contains-filter has_segments (map (with_segments (segments_left shared_form d)) p.shared.threads) (with_segments (segments_left shared_form d) e)
            there (some_left e left kept.0 kept.1)),
        kept.1,
        sym kept.2.number ∙ at.4,
      )

  -- ---- Stubs.

  stubs_for : (c : ClassId) → stub_for new.shared c ≡ stub_for p.shared c
  stubs_for c = ap (λ (stubs : List Stub). find (λ (e : Stub). e.class.0 == c.0) stubs) h.shared.stubs

  stubs : HaveStubs new.world.classes new.shared
  stubs = record {
    known = subst (λ (classes : List ClassRecord). AreKnownStubs classes new.shared.stubs) (sym classes_are)
        (subst (AreKnownStubs p.world.classes) (sym h.shared.stubs) fit.stubs.known);
    all = λ c r is home remote.
        let had = fit.stubs.all c r (ap (λ (classes : List ClassRecord). slice_get classes c.0) (sym classes_are) ∙ is) home
        (subst (λ (classes : List ClassRecord). ImplementsRemote classes c) classes_are remote) in
        (had.0, stubs_for c ∙ had.1);
    made = λ e c there in_it.
        let at = place_of new.shared.domains e there in
        let from = shared_from at.0 e at.1 in
        let was = made_by (from.0.number.0 == d.0) from.0 c (subst (λ (x : SharedDomain). Contains x.caps.made c) (sym from.2) in_it) in
        let had = fit.stubs.made from.0 was.0 (Contains-at p.shared.domains at.0 from.0 from.1) was.1 in
        (had.0, stubs_for c.class ∙ ap (stub_for p.shared) was.2 ∙ had.1);
  }

  -- ---- All of it.

  dead_quota : (e : DomainId) → (LiveDomain (machine_of new) e → ⊥) → (new.heap.quota e ≡ None) × (new.frames.quota e ≡ None)
  dead_quota e dead = elim (cases_eq e.0 d.0) [
    | inl same ↦
        let is : e ≡ d = λ i. record { 0 = same i } in
        (ap new.heap.quota is ∙ h.heap.quota, ap new.frames.quota is ∙ h.frames.quota)
    | inr differ ↦
        let other : e ≢ d = λ is. differ (ap (λ (n : DomainId). n.0) is) in
        let were = fit.live.no_others e (λ before. dead (lives_on e other before)) in
        (h.heap.others.quota e other ∙ were.0, h.frames.other_quotas e other ∙ were.1)
  ]

  calm : (e : DomainId) (a : ℕ) → new.heap.mark e a ≡ 0
  calm e a = elim (cases_eq e.0 d.0) [
    | inl same ↦ ap (λ (n : DomainId). new.heap.mark n a) (λ i. record { 0 = same i }) ∙ h.heap.empty.mark a
    | inr differ ↦ h.heap.others.mark e a (λ is. differ (ap (λ (n : DomainId). n.0) is)) ∙ fit.calm e a
  ]

  pub fits_ended : AreFittingParts new
  fits_ended = record {
    domains = one_list;
    live = record {
      words = λ e now.
          let was = lived e now in
          h.heap.others.quota e was.other ∙ fit.live.words e was.before ∙ ap (λ (q : Quotas). Some q.heap) (sym was.quotas);
      chunks = λ e now.
          let was = lived e now in
          h.frames.other_quotas e was.other ∙ fit.live.chunks e was.before ∙ ap (λ (q : Quotas). Some q.chunks) (sym was.quotas);
      no_others = dead_quota;
    };
    used = record { words = words; chunks = chunks };
    segments = record { each = each; no_others = no_others };
    stubs = stubs;
    calm = calm;
  }
