-- Where each part has a domain behind the others, the machine has it too.
use Rattle.std.proofs.Common.{◌≡◌, ◌≢◌, ℕ, suc, ◌+◌, List, [], ◌∷◌, ◌++◌, length, map, slice_get, Option, Some, None, option_map, refl, sym, ap, ◌∙◌, arith}
use Rattle.std.specs.Option.{option_map_or}
use Rattle.jk_model.specs.declared.identifiers.DomainId.{DomainId}
use Rattle.jk_model_classes.specs.declared.sharing.Stub.{Stub}
use Rattle.jk_model_classes.specs.Worlds.{DomainRecord}
use Rattle.jk_model_domains.specs.OwnStates.{OwnState}
use Rattle.jk_model_heaps.specs.Capabilities.{CapRange}
use Rattle.jk_model_sharing.specs.CapabilityCalls.{first_range}
use Rattle.jk_model_sharing.specs.Segments.{SharedSegment, SharedThread}
use Rattle.jk_model_sharing.specs.SharedStates.{SharedDomain, SharedState, first_domain, ranges_of}
use Rattle.jk_model_machine_state.specs.Machines.{DomainState}
use Rattle.jk_model_openings.specs.OpenedDomains.{Admission, new_domain, next_number, with_new_domain}
use Rattle.object_store.specs.HeapContents.{HeapContent}
use Rattle.frame_store.specs.FrameContents.{FrameContent, StoredSegment}
use Rattle.machine_parts.specs.FittingParts.{HaveOneList}
use Rattle.machine_parts.specs.MachineParts.{MachineParts, domain_state, domain_states, inside_of, machine_of, thread_with_frames}
use Rattle.machine_parts.specs.OpenedParts.{OpensInParts, new_names, next_domain}

-- ---- What all lists have together.

count_states : (heap : HeapContent) (frames : FrameContent) (world : List DomainRecord) (shared : List SharedDomain) (owns : List (Option OwnState))
    → length shared ≡ length world → length owns ≡ length world → length (domain_states heap frames world shared owns) ≡ length world
count_states heap frames [] shared owns h k = refl
count_states heap frames (x ∷ world) [] owns h k = absurd (omega (arith, h))
count_states heap frames (x ∷ world) (s ∷ shared) [] h k = absurd (omega (arith, k))
count_states heap frames (x ∷ world) (s ∷ shared) (o ∷ owns) h k =
    let rest = count_states heap frames world shared owns (omega (arith, h)) (omega (arith, k)) in
    omega (arith, rest)

ranges_are : (heap : HeapContent) (frames : FrameContent) (world : List DomainRecord) (shared : List SharedDomain) (owns : List (Option OwnState))
    → length shared ≡ length world → length owns ≡ length world
    → map (λ (d : DomainState). d.caps) (domain_states heap frames world shared owns) ≡ ranges_of shared
ranges_are heap frames [] [] owns h k = refl
ranges_are heap frames [] (s ∷ shared) owns h k = absurd (omega (arith, h))
ranges_are heap frames (x ∷ world) [] owns h k = absurd (omega (arith, h))
ranges_are heap frames (x ∷ world) (s ∷ shared) [] h k = absurd (omega (arith, k))
ranges_are heap frames (x ∷ world) (s ∷ shared) (o ∷ owns) h k =
    ap (λ (xs : List CapRange). s.caps ∷ xs) (ranges_are heap frames world shared owns (omega (arith, h)) (omega (arith, k)))

-- ---- One domain more.

-- what other domains have stays
record KeepsInsides (heap nh : HeapContent) (frames nf : FrameContent) (d : DomainId) : Type 0 where
  objects : (e : DomainId) → e ≢ d → nh.heap e ≡ heap.heap e
  heap_at : (e : DomainId) → e ≢ d → nh.first_page e ≡ heap.first_page e
  stack_at : (e : DomainId) → e ≢ d → nf.first_page e ≡ frames.first_page e

module _ (heap nh : HeapContent) (frames nf : FrameContent) (d : DomainId) (keeps : KeepsInsides heap nh frames nf d) where
  inside_kept : (e : DomainId) → e ≢ d → (own : Option OwnState) → option_map (inside_of nh nf e) own ≡ option_map (inside_of heap frames e) own
  inside_kept e other None = refl
  inside_kept e other (Some own) =
      λ i. Some (record { own = own; heap = keeps.objects e other i; heap_at = keeps.heap_at e other i; stack_at = keeps.stack_at e other i })

  -- the names stand at their numbers, the first of which is this
  abbrev NumberedFrom : ℕ → List DomainRecord → Type 0
  NumberedFrom n world = (i : ℕ) (names : DomainRecord) → slice_get world i ≡ Some names → names.id.0 ≡ n + i

  one_more : (n : ℕ) (x : DomainRecord) (s : SharedDomain) (o : Option OwnState) (world : List DomainRecord) (shared : List SharedDomain)
      (owns : List (Option OwnState)) → NumberedFrom n world → d.0 ≡ n + length world → length shared ≡ length world → length owns ≡ length world
      → domain_states nh nf (world ++ x ∷ []) (shared ++ s ∷ []) (owns ++ o ∷ [])
      ≡ domain_states heap frames world shared owns ++ domain_state nh nf x s o ∷ []
  one_more n x s o [] [] [] numbered at h k = refl
  one_more n x s o [] [] (p ∷ owns) numbered at h k = absurd (omega (arith, k))
  one_more n x s o [] (r ∷ shared) owns numbered at h k = absurd (omega (arith, h))
  one_more n x s o (y ∷ world) [] owns numbered at h k = absurd (omega (arith, h))
  one_more n x s o (y ∷ world) (r ∷ shared) [] numbered at h k = absurd (omega (arith, k))
  one_more n x s o (y ∷ world) (r ∷ shared) (p ∷ owns) numbered at h k =
      let other : y.id ≢ d = λ same. omega (arith, at, numbered 0 y refl, ap (λ (e : DomainId). e.0) same) in
      λ i. record (domain_state heap frames y r p) { inside = inside_kept y.id other p i }
      ∷ one_more (suc n) x s o world shared owns (λ j names there. omega (arith, numbered (suc j) names there)) (omega (arith, at)) (omega (arith, h))
      (omega (arith, k)) i

-- ---- The whole.

module _ (p new : MachineParts) (a : Admission) (own : OwnState) (stubs : List Stub) (one : HaveOneList p) (h : OpensInParts p new a own stubs) where
  keeps : KeepsInsides p.heap new.heap p.frames new.frames (next_domain p)
  keeps = record { objects = h.heaps.heap; heap_at = h.heaps.first_page; stack_at = h.frames.other_places }

  abbrev added : SharedDomain
  added = first_domain p.shared.domains (next_domain p) a.quotas

  abbrev opened : DomainState
  opened = domain_state new.heap new.frames (new_names p a) added (Some own)

  number_is : next_domain p ≡ next_number (machine_of p)
  number_is = λ i. record { 0 = sym (count_states p.heap p.frames p.world.domains p.shared.domains p.owns one.shared one.owns) i }

  -- the domain that was added is that of the machine
  opened_is : opened ≡ new_domain (machine_of p) a (inside_of new.heap new.frames (next_domain p) own)
  opened_is = λ i. record {
    number = number_is i;
    name = a.name;
    quotas = a.quotas;
    steps_left = a.quotas.steps;
    table = a.table;
    offers = a.offers;
    caps = first_range (sym (ranges_are p.heap p.frames p.world.domains p.shared.domains p.owns one.shared one.owns) i) (number_is i) a.quotas.caps;
    inside = Some (inside_of new.heap new.frames (next_domain p) own);
  }

  domains_are : (machine_of new).domains ≡ (machine_of p).domains ++ new_domain (machine_of p) a (inside_of new.heap new.frames (next_domain p) own) ∷ []
  domains_are =
      ap (λ (w : List DomainRecord). domain_states new.heap new.frames w new.shared.domains new.owns) h.names
      ∙ ap (λ (s : SharedState). domain_states new.heap new.frames (p.world.domains ++ new_names p a ∷ []) s.domains new.owns) h.shared
      ∙ ap (λ (os : List (Option OwnState)). domain_states new.heap new.frames (p.world.domains ++ new_names p a ∷ []) (p.shared.domains ++ added ∷ []) os)
      h.owns
      ∙ one_more p.heap new.heap p.frames new.frames (next_domain p) keeps 0 (new_names p a) added (Some own) p.world.domains p.shared.domains p.owns
      (λ i names at. omega (arith, one.numbered i names at)) (omega arith) one.shared one.owns
      ∙ ap (λ (d : DomainState). (machine_of p).domains ++ d ∷ []) opened_is

  threads_are : (machine_of new).threads ≡ (machine_of p).threads
  threads_are = ap (λ (s : SharedState). map (thread_with_frames new.frames) s.threads) h.shared ∙ same
    where
      same : map (thread_with_frames new.frames) p.shared.threads ≡ map (thread_with_frames p.frames) p.shared.threads
      same = λ i. map (λ (t : SharedThread). record {
        number = t.number;
        domain = t.domain;
        segments = map (λ (s : SharedSegment). record {
          shared = s;
          frames = option_map_or (λ (g : StoredSegment). g.frames) (h.frames.segment s.number i) [];
        }) t.segments;
      }) p.shared.threads

  pub opens_change_machines : machine_of new ≡ with_new_domain (machine_of p) new.world a (inside_of new.heap new.frames (next_domain p) own)
  opens_change_machines = λ i. record {
    heap_pages = h.pages i;
    stack_pages = h.frames.pages i;
    classes = new.world.classes;
    domains = domains_are i;
    names = ap (λ (s : SharedState). s.names) h.shared i;
    threads = threads_are i;
    next_thread = ap (λ (s : SharedState). s.next_thread) h.shared i;
    next_segment = ap (λ (s : SharedState). s.next_segment) h.shared i;
  }
