-- A start that no rule refuses, by a kernel's parts: what the calls ask that make it, and to which machine it leads.
use Rattle.std.proofs.Common.{◌≡◌, ℕ, ◌+◌, ◌-◌, ◌<◌, ◌≤◌, ◌==◌, ◌&&◌, inl, inr, true, false, find, List, [], ◌∷◌, ◌++◌, length, Option, Some, None, is_some, slice_get, bytes_eq, refl, sym, ap, subst, ◌∙◌, arith}
use Rattle.std.specs.Option.{option_map_or}
use Rattle.std.proofs.lemmas.Bool.{cases_lt, eq-eqb, eqb-true}
use Rattle.std.proofs.lemmas.Option.{same_Some}
use Rattle.list_lemmas.proofs.FoundItems.{Finds, finds}
use Rattle.list_lemmas.proofs.ItemsByPlace.{length_take_whole}
use Rattle.jk_model.specs.declared.frames.FrameHead.{FrameHead}
use Rattle.jk_model.specs.declared.identifiers.DomainId.{DomainId}
use Rattle.jk_model.specs.declared.output.Line.TheVariants.{Started}
use Rattle.jk_model.specs.declared.script.Quotas.{Quotas}
use Rattle.jk_model.specs.declared.values.Value.TheVariants as Held
use Rattle.jk_model.specs.SystemTable.{system_classes}
use Rattle.jk_model_classes.specs.Classes.{HasClass}
use Rattle.jk_model_classes.specs.Worlds.{DomainRecord}
use Rattle.jk_model_typing.specs.FrameTypes.{STRING}
use Rattle.jk_model_domains.specs.Objects.{NamedObject, object_named}
use Rattle.jk_model_domains.specs.OwnStates.{OwnState}
use Rattle.jk_model_frames.specs.Frames.{FrameState, called_frame, head_chunks, locals_of}
use Rattle.jk_model_heaps.specs.CalledFrames.{call_head}
use Rattle.jk_model_heaps.specs.Heaps.{heap_words}
use Rattle.jk_model_heaps.specs.Workings.{Inside, with_heap}
use Rattle.jk_model_sharing.specs.Segments.{count_started_in}
use Rattle.jk_model_sharing.specs.SharedStates.{MayBegin, SharedDomain, begun, domain_numbered}
use Rattle.jk_model_machine_state.specs.Machines.{DomainState, Machine, chunks_used, free_chunks, is_live_domain, started_in, with_inside}
use Rattle.jk_model_machine_state.specs.Places.{LiveDomain}
use Rattle.jk_model_runs.specs.Sealed.{IsSealed}
use Rattle.jk_model_runs.specs.Starts.{MakesWords, StartWords, Starts, begins, start_words_cost, with_new_thread}
use Rattle.object_store.specs.HeapContents.{HeapContent, IsHeapContent, words_left}
use Rattle.object_store.specs.HeapContents.{IsAdmitted as IsHeapAdmitted}
use Rattle.frame_store.specs.FrameContents.{FrameContent}
use Rattle.frame_store.specs.FrameContents.{IsAdmitted as AreFramesAdmitted, free_chunks as free_in}
use Rattle.thread_segments.specs.Asked.{HasRoomForSegment, IsLiveDomain}
use Rattle.thread_segments.specs.SoundStates.{AreNumbered, AreSound}
use Rattle.machine_parts.specs.ChangedParts.{StandsInParts}
use Rattle.machine_parts.specs.MachineParts.{MachineParts, domain_state, inside_of}
use Rattle.machine_parts.proofs.DomainsOfParts.{live_domain_is_of_parts}
use Rattle.machine_parts.proofs.ChunksOfSegments.{segments_within}
use Rattle.machine_laws.specs.SoundMachines.{HasSoundClasses}
use Rattle.kernel_parts.specs.SoundKernels.{AreKernelParts, KernelContent, kernel_machine, parts_of}
use Rattle.kernel_openings.specs.FirstFrames.{BeginsSegment, MakesStartWords, MayStart, first_head, words_array}
use Rattle.kernel_openings.proofs.MainOfAClass.{main-room}
use Rattle.kernel_openings.proofs.PartsByPlace.{started_same}
use Rattle.kernel_openings.proofs.StartedMachines.{machine_after, next_segment}
use Rattle.kernel_openings.proofs.StartedParts.{parts_after}

-- ---- What is shared of a domain is found by its number.

pub numbered_found : (domains : List SharedDomain) → AreNumbered domains → (i : ℕ) (e : SharedDomain) → slice_get domains i ≡ Some e
    → find (λ (x : SharedDomain). x.number.0 == i) domains ≡ Some e
numbered_found domains numbered i e at =
    by (find (λ (x : SharedDomain). x.number.0 == i) domains) refl (finds (λ (x : SharedDomain). x.number.0 == i) domains)
  where
    by : (o : Option SharedDomain) → find (λ (x : SharedDomain). x.number.0 == i) domains ≡ o → Finds (λ (x : SharedDomain). x.number.0 == i) domains o
        → find (λ (x : SharedDomain). x.number.0 == i) domains ≡ Some e
    by None is none =
        let never : e.number.0 == i ≡ false = none i e at in
        let passes : e.number.0 == i ≡ true = eq-eqb e.number.0 i (numbered i e at) in
        absurd cc
    by (Some x) is found =
        let place : found.0 ≡ i = sym (numbered found.0 x found.1) ∙ eqb-true x.number.0 i found.2 in
        is ∙ ap Some (same_Some x e (sym found.1 ∙ ap (slice_get domains) place ∙ at))

fewer : (a b : ℕ) → (b ≤ a → ⊥) → a < b
fewer a b never = elim (cases_lt a b) [ inl less ↦ less | inr most ↦ absurd (never most) ]

at_most : (a b : ℕ) → (a < b → ⊥) → b ≤ a
at_most a b never = elim (cases_lt a b) [ inl less ↦ absurd (never less) | inr most ↦ most ]

-- ---- A live domain of the machine, in the parts.

module _ (k : KernelContent) (sound : AreKernelParts k) (shared : AreSound k.shared) (d : DomainId) (l : LiveDomain (kernel_machine k) d) where
  abbrev p : MachineParts
  p = parts_of k

  abbrev m : Machine
  m = kernel_machine k

  pub record StandsHere : Type 0 where
    pub own : OwnState
    pub names : DomainRecord
    pub s : SharedDomain
    pub stands : StandsInParts p d own names s
    pub is_state : l.domain ≡ domain_state k.heap k.frames names s (Some own)
    pub is_inside : l.inside ≡ inside_of k.heap k.frames d own

  pub stands_here : StandsHere
  stands_here =
      let is = live_domain_is_of_parts p d l sound.sound.fitting.domains in
      record { own = is.0; names = is.1; s = is.2; stands = is.3; is_state = is.4; is_inside = is.5 }

  pub found_here : domain_numbered k.shared d ≡ Some stands_here.s
  found_here = numbered_found k.shared.domains shared.numbered d.0 stands_here.s stands_here.stands.is_shared

  same_quotas : l.domain.quotas ≡ stands_here.s.quotas
  same_quotas = ap (λ (x : DomainState). x.quotas) stands_here.is_state

  pub lives_here : IsLiveDomain k.shared d
  lives_here =
      let one = sound.sound.fitting.domains in
      let h = stands_here in
      let live : h.s.live ≡ h.names.live = (one.same_number d.0 h.names h.s h.stands.is_named h.stands.is_shared).1 in
      let own : true ≡ h.names.live = one.same_life d.0 h.names (Some h.own) h.stands.is_named h.stands.is_own in
      (h.s, found_here, live ∙ sym own)

  pub heap_admitted : IsHeapAdmitted k.heap d
  heap_admitted = ap is_some (sound.sound.fitting.live.words d l)

  pub frames_admitted : AreFramesAdmitted k.frames d
  frames_admitted = ap is_some (sound.sound.fitting.live.chunks d l)

  -- what is free in the stores is what the machine says
  pub words_here : words_left k.heap d ≡ l.domain.quotas.heap - heap_words m.classes l.inside.heap
  words_here =
      let same : l.inside.heap ≡ k.heap.heap d = ap (λ (x : Inside). x.heap) stands_here.is_inside in
      ap (λ (o : Option ℕ). option_map_or (λ (q : ℕ). q - k.heap.used d) o 0) (sound.sound.fitting.live.words d l)
      ∙ ap (λ (n : ℕ). l.domain.quotas.heap - n) (sound.sound.fitting.used.words d ∙ ap (heap_words m.classes) (sym same))

  pub chunks_here : free_in k.frames d ≡ free_chunks m l.domain
  chunks_here =
      ap (λ (o : Option ℕ). option_map_or (λ (q : ℕ). q - k.frames.used d) o 0) (sound.sound.fitting.live.chunks d l)
      ∙ ap (λ (n : ℕ). l.domain.quotas.chunks - n) (sound.sound.fitting.used.chunks d ∙ ap (chunks_used m) (sym l.numbered))

  -- so many threads were started
  started_here : started_in m l.domain.number ≡ count_started_in k.shared.threads d
  started_here = ap (started_in m) l.numbered ∙ started_same k.frames d k.shared.threads

  pub may_begin_here : (l.domain.quotas.threads ≤ started_in m l.domain.number → ⊥) → MayBegin k.shared d
  may_begin_here few =
      let less = fewer (started_in m l.domain.number) l.domain.quotas.threads few in
      let same : l.domain.quotas.threads ≡ stands_here.s.quotas.threads = ap (λ (q : Quotas). q.threads) same_quotas in
      (stands_here.s, found_here, omega (arith, less, same, started_here))

  pub few_here : MayBegin k.shared d → l.domain.quotas.threads ≤ started_in m l.domain.number → ⊥
  few_here may many =
      let is : may.0 ≡ stands_here.s = same_Some may.0 stands_here.s (sym may.1 ∙ found_here) in
      let same : l.domain.quotas.threads ≡ may.0.quotas.threads =
      ap (λ (q : Quotas). q.threads) same_quotas ∙ ap (λ (x : SharedDomain). x.quotas.threads) (sym is) in
      omega (arith, many, may.2, same, started_here)

  pub many_here : (MayBegin k.shared d → ⊥) → l.domain.quotas.threads ≤ started_in m l.domain.number
  many_here never =
      let same : l.domain.quotas.threads ≡ stands_here.s.quotas.threads = ap (λ (q : Quotas). q.threads) same_quotas in
      elim (cases_lt (started_in m l.domain.number) l.domain.quotas.threads) [
        | inl less ↦ absurd (never (stands_here.s, found_here, omega (arith, less, same, started_here)))
        | inr most ↦ most
      ]

  pub room_here : 0 < free_chunks m l.domain → HasRoomForSegment k.shared d
  room_here some =
      let same : l.domain.quotas.chunks ≡ stands_here.s.quotas.chunks = ap (λ (q : Quotas). q.chunks) same_quotas in
      let within = segments_within k.frames d k.shared.threads in
      let used : chunks_used m l.domain.number ≡ chunks_used m d = ap (chunks_used m) l.numbered in
      (stands_here.s, found_here, omega (arith, some, same, within, used))

pub string_there : (k : KernelContent) → AreKernelParts k → HasClass k.world.classes STRING
string_there k sound =
    let many = sound.sound.sound.codes.system.as_many in
    let all : 45 ≡ length system_classes = refl in
    let front = length_take_whole k.world.classes (length system_classes) in
    omega (arith, many, all, front)

-- ---- A start that no rule refuses.

module _ (k : KernelContent) (sound : AreKernelParts k) (shared : AreSound k.shared) (start : StartWords) (d : DomainId) (head : FrameHead)
    (may : MayStart (kernel_machine k) start d head) where
  abbrev here : Machine
  here = kernel_machine k

  abbrev home : DomainState
  home = may.has_main.in_class.in_domain.domain

  stands_named : (i : ℕ) × (slice_get here.domains i ≡ Some home) × ((is_live_domain home && bytes_eq home.name start.domain) ≡ true)
  stands_named =
      subst (Finds (λ (e : DomainState). is_live_domain e && bytes_eq e.name start.domain) here.domains) may.has_main.in_class.in_domain.found
      (finds (λ (e : DomainState). is_live_domain e && bytes_eq e.name start.domain) here.domains)

  pub home_at : slice_get here.domains d.0 ≡ Some home
  home_at =
      let place : stands_named.0 ≡ d.0 =
      sym (sound.sound.sealed.domains.numbered stands_named.0 home stands_named.1) ∙ ap (λ (x : DomainId). x.0) may.number in
      ap (slice_get here.domains) (sym place) ∙ stands_named.1

  abbrev pub live_home : LiveDomain here d
  live_home = record {
    domain = home;
    is_domain = home_at;
    numbered = may.number;
    inside = may.has_main.in_class.in_domain.inside;
    is_inside = may.has_main.in_class.in_domain.is_inside;
  }

  -- ---- What the calls ask.

  pub words_fit : start_words_cost start.words ≤ words_left k.heap d
  words_fit =
      let fits = at_most home.quotas.heap (heap_words here.classes live_home.inside.heap + start_words_cost start.words) may.words in
      let left = words_here k sound shared d live_home in
      omega (arith, fits, left)

  head_costs : head_chunks head ≡ head_chunks (call_head may.has_main.main may.has_main.code)
  head_costs = ap head_chunks may.head_is

  pub chunks_fit : 1 + head_chunks head ≤ free_in k.frames d
  chunks_fit =
      let fits = at_most (free_chunks here home) (1 + head_chunks (call_head may.has_main.main may.has_main.code)) may.chunks in
      let left = chunks_here k sound shared d live_home in
      omega (arith, fits, left, head_costs)

  pub may_begin : MayBegin k.shared d
  may_begin = may_begin_here k sound shared d live_home may.few

  pub has_room : HasRoomForSegment k.shared d
  has_room =
      let fits = at_most (free_chunks here home) (1 + head_chunks (call_head may.has_main.main may.has_main.code)) may.chunks in
      room_here k sound shared d live_home (omega (arith, fits))

  code_room : 1 ≤ may.has_main.code.max_locals
  code_room = main-room here sound.sound.sound may.has_main.in_class.class may.has_main.main may.has_main.code may.has_main.is_main

  pub local_fits : 1 ≤ head.max_locals
  local_fits = subst (λ (h : FrameHead). 1 ≤ h.max_locals) (sym may.head_is) code_room

  -- ---- What is made.

  module _ (heap : HeapContent) (frames : FrameContent) (array : ℕ) (holds : IsHeapContent heap)
      (words : MakesStartWords k.heap heap k.world.classes d start.words array)
      (segment : BeginsSegment k.frames frames d (next_segment (parts_of k)) head (Held.Obj array)) where
    abbrev pub next : KernelContent
    next = record k { shared = begun d k.shared; heap = heap; frames = frames }

    abbrev made : List NamedObject
    made = words_array array words.texts ∷ words.texts

    abbrev frame : FrameState
    frame = called_frame head (Held.Obj array ∷ [])

    frame_is : frame ≡ called_frame (first_head may.has_main.in_class.class may.has_main.main may.has_main.code) (Held.Obj array ∷ [])
    frame_is = ap (λ (h : FrameHead). called_frame h (Held.Obj array ∷ [])) may.head_is

    same_heap : live_home.inside.heap ≡ k.heap.heap d
    same_heap = ap (λ (x : Inside). x.heap) (stands_here k sound shared d live_home).is_inside

    leads : kernel_machine next ≡ with_new_thread d frame (with_inside d (with_heap live_home.inside (k.heap.heap d ++ made)) here)
    leads =
        machine_after (parts_of k) sound.sound.fitting shared d live_home heap frames made frame
        (record { objects = words.makes; segment = segment })

    words_made : MakesWords here home live_home.inside.heap start.words (k.heap.heap d ++ made)
    words_made =
        let within = holds.within d home.quotas.heap (words.makes.becomes.domains.quota d ∙ sound.sound.fitting.live.words d live_home) in
        let uses = words.makes.becomes.uses in
        let was = sound.sound.fitting.used.words d in
        let cost = ap (heap_words here.classes) same_heap in
        record {
          array = array;
          texts = words.texts;
          are_words = words.are_words;
          makes = record {
            fresh = λ e has. ap (λ (old : List NamedObject). object_named old e.name) same_heap ∙ words.makes.fresh e has;
            differ = words.makes.differ;
            fits = omega (arith, within.0, uses, was, cost);
            grown = ap (λ (old : List NamedObject). old ++ made) (sym same_heap);
          };
        }

    abbrev inside_next : Inside
    inside_next = with_heap live_home.inside (k.heap.heap d ++ made)

    abbrev called : FrameState
    called = called_frame (call_head may.has_main.main may.has_main.code) (Held.Obj array ∷ [])

    abbrev first : FrameState
    first = record called { head = record called.head { need = Some may.has_main.in_class.class } }

    leads_so : kernel_machine next ≡ with_new_thread home.number first (with_inside home.number inside_next here)
    leads_so =
        leads
        ∙ ap (λ (f : FrameState). with_new_thread d f (with_inside d inside_next here)) frame_is
        ∙ ap (λ (n : DomainId). with_new_thread n first (with_inside n inside_next here)) (sym may.number)

    one_local : length (locals_of (Held.Obj array ∷ [])) ≤ may.has_main.code.max_locals
    one_local = let room = code_room in omega (arith, room)

    pub starts_next : Starts here start (Started (record { 0 = k.shared.next_thread }) start.domain ∷ []) (kernel_machine next)
    unfolding words_made
    starts_next =
        subst (Starts here start (Started (record { 0 = k.shared.next_thread }) start.domain ∷ [])) (sym leads_so)
        (begins may.has_main may.few may.chunks (k.heap.heap d ++ made) words_made called (one_local, refl))

    pub kernel_next : IsSealed (kernel_machine next) × HasSoundClasses (kernel_machine next) → AreKernelParts next
    kernel_next machine = record {
      sound = record {
        fitting =
            parts_after (parts_of k) sound.sound.fitting shared d live_home heap frames made frame
            (record { objects = words.makes; segment = segment });
        sealed = machine.0;
        sound = machine.1;
        world = sound.sound.world;
        few_classes = sound.sound.few_classes;
        rooms = sound.sound.rooms;
        main = sound.sound.main;
      };
      stubs = sound.stubs;
    }
