-- The parts of a machine fit each other with a thread that has started.
use Rattle.std.proofs.Common.{◌≡◌, ◌≢◌, ℕ, ◌+◌, ◌==◌, inl, inr, ◌⊎◌, Bool, false, cond, List, [], ◌∷◌, Contains, Option, Some, refl, sym, ap, subst, ◌∙◌, arith}
use Rattle.std.specs.Prelude.{sum_by}
use Rattle.std.specs.Option.{option_map_or}
use Rattle.std.proofs.lemmas.Bool.{eq-eqb, ne_eqb}
use Rattle.std.proofs.lemmas.List.Elements.{Contains-append_left, Contains-append_right, Contains-push_cases}
use Rattle.std.proofs.lemmas.List.Sums.{sum_by-append, sum_by-cons, sum_by_push}
use Rattle.list_lemmas.proofs.ItemsOfLists.{Contains-here, only_in}
use Rattle.jk_model.specs.declared.identifiers.DomainId.{DomainId}
use Rattle.jk_model.specs.declared.identifiers.SegmentNo.{SegmentNo}
use Rattle.jk_model_domains.specs.Objects.{NamedObject, object_words}
use Rattle.jk_model_frames.specs.Frames.{FrameState, segment_chunks}
use Rattle.jk_model_heaps.specs.Heaps.{heap_words}
use Rattle.jk_model_sharing.specs.Segments.{SharedSegment, SharedThread}
use Rattle.jk_model_sharing.specs.SharedStates.{drawn_segment}
use Rattle.jk_model_machine_state.specs.Machines.{DomainState, Machine, Thread, chunks_of, chunks_used}
use Rattle.jk_model_machine_state.specs.Places.{LiveDomain, first_segment}
use Rattle.object_store.specs.HeapContents.{HeapContent}
use Rattle.frame_store.specs.FrameContents.{FrameContent, StoredSegment}
use Rattle.thread_segments.specs.SoundStates.{AreSound}
use Rattle.machine_parts.specs.FittingParts.{AreFittingParts, HaveLiveDomains, HaveOneList, HaveSegments}
use Rattle.machine_parts.specs.MachineParts.{MachineParts, frames_in, machine_of}
use Rattle.machine_parts.specs.ChangedParts.{StandsInParts}
use Rattle.machine_parts.proofs.DomainsOfParts.{live_domain_is_of_parts}
use Rattle.kernel_openings.proofs.PartsByPlace.{live_from, this_or_other, this_segment_or_other}
use Rattle.kernel_openings.proofs.StartedMachines.{StartsInStores, machine_after, next_segment, numbers_below, with_thread}

abbrev words_in : MachineParts → NamedObject → ℕ
words_in p e = object_words p.world.classes e.object

abbrev chunks_on : DomainId → Thread → ℕ
chunks_on d t = sum_by (chunks_of d) t.segments

module _ (p : MachineParts) (fit : AreFittingParts p) (sound : AreSound p.shared) (d : DomainId) (l : LiveDomain (machine_of p) d) (heap : HeapContent)
    (frames : FrameContent) (made : List NamedObject) (frame : FrameState) (h : StartsInStores p heap frames d made frame) where
  abbrev q : MachineParts
  q = with_thread p d heap frames

  one_list : HaveOneList q
  one_list = record {
    shared = fit.domains.shared;
    owns = fit.domains.owns;
    numbered = fit.domains.numbered;
    same_number = fit.domains.same_number;
    same_life = fit.domains.same_life;
  }

  -- ---- The same domains live.

  lived : (e : DomainId) (live : LiveDomain (machine_of q) e) → (old : LiveDomain (machine_of p) e) × (old.domain.quotas ≡ live.domain.quotas)
  lived e live =
      let is = live_domain_is_of_parts q e live one_list in
      let stands : StandsInParts p e is.0 is.1 is.2 =
      record { is_named = is.3.is_named; is_shared = is.3.is_shared; is_own = is.3.is_own; number = is.3.number } in
      (live_from p e is.0 is.1 is.2 stands, sym (ap (λ (x : DomainState). x.quotas) is.4))

  lives_on : (e : DomainId) → LiveDomain (machine_of p) e → LiveDomain (machine_of q) e
  lives_on e live =
      let is = live_domain_is_of_parts p e live fit.domains in
      live_from q e is.0 is.1 is.2 (record { is_named = is.3.is_named; is_shared = is.3.is_shared; is_own = is.3.is_own; number = is.3.number })

  live_domains : HaveLiveDomains q
  live_domains = record {
    words = λ e live.
        let old = lived e live in
        h.objects.becomes.domains.quota e ∙ fit.live.words e old.0 ∙ ap Some (ap (λ x. x.heap) old.1);
    chunks = λ e live.
        let old = lived e live in
        h.segment.domains.quota e ∙ fit.live.chunks e old.0 ∙ ap Some (ap (λ x. x.chunks) old.1);
    no_others = λ e never.
        let none = fit.live.no_others e (λ live. never (lives_on e live)) in
        (h.objects.becomes.domains.quota e ∙ none.0, h.segment.domains.quota e ∙ none.1);
  }

  -- ---- What is used.

  words_used : (e : DomainId) → heap.used e ≡ heap_words p.world.classes (heap.heap e)
  words_used e = by (this_or_other d e)
    where
      by : (e ≡ d) ⊎ (e ≢ d) → heap.used e ≡ heap_words p.world.classes (heap.heap e)
      by (inl same) =
          let here : heap.used d ≡ heap_words p.world.classes (heap.heap d) =
          h.objects.becomes.uses
          ∙ ap (λ (n : ℕ). n + heap_words p.world.classes made) (fit.used.words d)
          ∙ sym (sum_by-append (words_in p) (p.heap.heap d) made)
          ∙ ap (heap_words p.world.classes) (sym h.objects.becomes.becomes) in
          subst (λ (x : DomainId). heap.used x ≡ heap_words p.world.classes (heap.heap x)) (sym same) here
      by (inr other) =
          h.objects.becomes.other_uses e other ∙ fit.used.words e ∙ ap (heap_words p.world.classes) (sym (h.objects.becomes.others e other))

  abbrev new_thread : Thread
  new_thread = record { number = record { 0 = p.shared.next_thread }; domain = d; segments = first_segment (machine_of p) d frame ∷ [] }

  -- the chunks of the new segment are the domain's
  new_chunks : (e : DomainId) → chunks_on e new_thread ≡ cond (d.0 == e.0) (segment_chunks (frame ∷ [])) 0
  new_chunks e = sum_by-cons (chunks_of e) (first_segment (machine_of p) d frame) [] ∙ (omega arith)

  more_chunks : (e : DomainId) → chunks_used (machine_of q) e ≡ chunks_used (machine_of p) e + cond (d.0 == e.0) (segment_chunks (frame ∷ [])) 0
  more_chunks e =
      ap (λ (m : Machine). chunks_used m e) (machine_after p fit sound d l heap frames made frame h)
      ∙ sum_by_push (chunks_on e) (machine_of p).threads new_thread
      ∙ ap (λ (n : ℕ). chunks_used (machine_of p) e + n) (new_chunks e)

  chunks_are_used : (e : DomainId) → frames.used e ≡ chunks_used (machine_of q) e
  chunks_are_used e = by (this_or_other d e)
    where
      by : (e ≡ d) ⊎ (e ≢ d) → frames.used e ≡ chunks_used (machine_of q) e
      by (inl same) =
          let own : cond (d.0 == d.0) (segment_chunks (frame ∷ [])) 0 ≡ segment_chunks (frame ∷ []) =
          ap (λ (b : Bool). cond b (segment_chunks (frame ∷ [])) 0) (eq-eqb d.0 d.0 refl) in
          let here : frames.used d ≡ chunks_used (machine_of q) d =
          h.segment.uses
          ∙ ap (λ (n : ℕ). n + segment_chunks (frame ∷ [])) (fit.used.chunks d)
          ∙ sym (more_chunks d ∙ ap (λ (n : ℕ). chunks_used (machine_of p) d + n) own) in
          subst (λ (x : DomainId). frames.used x ≡ chunks_used (machine_of q) x) (sym same) here
      by (inr other) =
          let apart : d.0 == e.0 ≡ false = ne_eqb d.0 e.0 (λ same. other (λ i. record { 0 = sym same i })) in
          let none : cond (d.0 == e.0) (segment_chunks (frame ∷ [])) 0 ≡ 0 = ap (λ (b : Bool). cond b (segment_chunks (frame ∷ [])) 0) apart in
          let more = more_chunks e in
          let was = h.segment.other_domains e other ∙ fit.used.chunks e in
          omega (arith, more, none, was)

  -- ---- Segments.

  abbrev StoredAs : SharedSegment → Type 0
  StoredAs s = frames.segment s.number ≡ Some (record { domain = s.domain; frames = frames_in frames s.number })

  old_segment : (t : SharedThread) (s : SharedSegment) → Contains p.shared.threads t → Contains t.segments s → StoredAs s
  old_segment t s has_thread has_segment =
      let low = numbers_below p fit sound t s has_thread has_segment in
      let other : s.number ≢ next_segment p =
      (λ same. (let k : s.number.0 ≡ p.shared.next_segment = ap (λ (n : SegmentNo). n.0) same in omega (arith, low, k))) in
      let stays : frames.segment s.number ≡ p.frames.segment s.number = h.segment.others s.number other in
      let frames_stay : frames_in p.frames s.number ≡ frames_in frames s.number =
      ap (λ (o : Option StoredSegment). option_map_or (λ (g : StoredSegment). g.frames) o []) (sym stays) in
      stays
      ∙ fit.segments.each t s has_thread has_segment
      ∙ ap (λ (fs : List FrameState). Some (let g : StoredSegment = record { domain = s.domain; frames = fs } in g)) frames_stay

  new_segment_stored : StoredAs (drawn_segment p.shared d)
  new_segment_stored =
      let is : frames_in frames (next_segment p) ≡ frame ∷ [] =
      ap (λ (o : Option StoredSegment). option_map_or (λ (g : StoredSegment). g.frames) o []) h.segment.becomes in
      h.segment.becomes ∙ ap (λ (fs : List FrameState). Some (let g : StoredSegment = record { domain = d; frames = fs } in g)) (sym is)

  abbrev begun_thread : SharedThread
  begun_thread = record { number = record { 0 = p.shared.next_thread }; domain = d; segments = drawn_segment p.shared d ∷ [] }

  segments_fit : HaveSegments q
  segments_fit = record {
    each = λ t s has_thread has_segment. by t s (Contains-push_cases p.shared.threads begun_thread t has_thread) has_segment;
    no_others = λ n g there. from n g (this_segment_or_other (next_segment p) n) there;
  }
    where
      by : (t : SharedThread) (s : SharedSegment) → Contains p.shared.threads t ⊎ (begun_thread ≡ t) → Contains t.segments s → StoredAs s
      by t s (inl old) has_segment = old_segment t s old has_segment
      by t s (inr new) has_segment =
          let in_it : Contains begun_thread.segments s = subst (λ (x : SharedThread). Contains x.segments s) (sym new) has_segment in
          subst StoredAs (only_in s (drawn_segment p.shared d) begun_thread.segments refl in_it) new_segment_stored

      from : (n : SegmentNo) (g : StoredSegment) → (n ≡ next_segment p) ⊎ (n ≢ next_segment p) → frames.segment n ≡ Some g
          → (t : SharedThread) × (s : SharedSegment) × Contains q.shared.threads t × Contains t.segments s × (s.number ≡ n)
      from n g (inl same) there = (
        begun_thread,
        drawn_segment p.shared d,
        Contains-append_right p.shared.threads (begun_thread ∷ []) begun_thread (Contains-here begun_thread []),
        Contains-here (drawn_segment p.shared d) [],
        sym same,
      )
      from n g (inr other) there =
          let old = fit.segments.no_others n g (sym (h.segment.others n other) ∙ there) in
          (old.0, old.1, Contains-append_left p.shared.threads (begun_thread ∷ []) old.0 old.2, old.3, old.4)

  -- ---- All of it.

  pub parts_after : AreFittingParts q
  parts_after = record {
    domains = one_list;
    live = live_domains;
    used = record { words = words_used; chunks = chunks_are_used };
    segments = segments_fit;
    stubs = record { known = fit.stubs.known; all = fit.stubs.all; made = fit.stubs.made };
    calm = λ e a. h.objects.becomes.mark e a ∙ fit.calm e a;
  }
