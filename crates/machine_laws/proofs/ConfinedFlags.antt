-- A step sets or clears flags of a segment: it is one of its own domain, on whatever thread it stands.
use Rattle.std.proofs.Common.{◌≡◌, ◌≢◌, inl, inr, ℕ, ◌==◌, Bool, true, false, cond, List, [], ◌∷◌, ◌++◌, map, Contains, Option, Some, None, refl, sym, ap, subst, ◌∙◌, eqb-true}
use Rattle.std.specs.List.{AllZip}
use Rattle.std.specs.Option.{option_map}
use Rattle.std.proofs.lemmas.List.{map-append}
use Rattle.std.proofs.lemmas.List.Elements.{Contains-append_left, Contains-push_cases}
use Rattle.std.proofs.lemmas.Option.{same_Some}
use Rattle.jk_model.specs.declared.identifiers.DomainId.{DomainId}
use Rattle.jk_model.specs.declared.identifiers.SegmentNo.{SegmentNo}
use Rattle.jk_model.specs.declared.identifiers.ThreadNo.{ThreadNo}
use Rattle.jk_model.specs.declared.values.Value.{Value}
use Rattle.jk_model_domains.specs.Objects.{NamedObject, Task, object_named}
use Rattle.jk_model_frames.specs.Frames.{FrameState}
use Rattle.jk_model_heaps.specs.CalledFrames.{resumed}
use Rattle.jk_model_heaps.specs.Workings.{Inside, Request, with_heap}
use Rattle.jk_model_sealing.specs.SealedInsides.{Surroundings}
use Rattle.jk_model_sharing.specs.Answers.{Granted}
use Rattle.jk_model_sharing.specs.BoundNames.{without_names_of}
use Rattle.jk_model_sharing.specs.Segments.{SharedSegment, with_revoked, with_stop, with_suspended}
use Rattle.jk_model_machine_state.specs.Machines.{DomainState, IsLiveThread, Machine, Segment, Thread, domain_at, thread_numbered, with_stacks}
use Rattle.jk_model_machine_state.specs.Places.{RunningSegment, with_running}
use Rattle.jk_model_crossings.specs.Answers.{Receives}
use Rattle.jk_model_crossings.specs.Requests.{Grants}
use Rattle.jk_model_runs.specs.Confined.{HasFlags, OthersChange, OwnChange, ThreadChanges}
use Rattle.jk_model_runs.specs.Steps.{Flagged, deed_of_request}
use Rattle.list_lemmas.proofs.ItemsOfLists.{Contains-at, Contains-here, Contains-there}
use Rattle.list_lemmas.proofs.LastItems.{one_last}
use Rattle.heap_laws.proofs.ObjectsAfterChanges.{found_stands}
use Rattle.heap_laws.specs.FittingOutcomes.{IsKnownRequest}
use Rattle.machine_laws.specs.SoundMachines.{IsSealedAtCall}
use Rattle.machine_laws.proofs.ElsewhereSame.{other_insides, other_running}
use Rattle.machine_laws.proofs.InitialisersAfterRuns.{found_still}
use Rattle.machine_laws.proofs.RanInSteps.{ChangesHere, unchanged}
use Rattle.machine_laws.proofs.RunningSegmentsFit.{same_thread_number, thread_place}
use Rattle.machine_laws.proofs.RunsAgain.{home_set_there, thread_set}
use Rattle.machine_laws.proofs.ThreadsEnded.{thread_found}
use Rattle.machine_laws.proofs.WorkedSoFar.{WorkedSo, of_domain, runs_on_top}

-- ---- Flags of one segment.

-- it keeps what isn't a flag that may be asked for
pub record KeepsSegment (change : SharedSegment → SharedSegment) : Type 0 where
  pub number : (s : SharedSegment) → (change s).number ≡ s.number
  pub domain : (s : SharedSegment) → (change s).domain ≡ s.domain
  pub revoked : (s : SharedSegment) → (change s).revoked ≡ s.revoked
  pub orphan : (s : SharedSegment) → (change s).orphan ≡ s.orphan

abbrev pub flags : SegmentNo → (SharedSegment → SharedSegment) → Segment → Segment
flags n change s = cond (s.shared.number.0 == n.0) (record s { shared = change s.shared }) s

module _ (d : DomainId) (n : SegmentNo) (change : SharedSegment → SharedSegment) (keeps : KeepsSegment change) where
  flags_by : (b : Bool) (s : Segment) → (s.shared.number.0 == n.0) ≡ b → (s.shared.number.0 ≡ n.0 → s.shared.domain ≡ d)
      → HasFlags d n s (cond b (record s { shared = change s.shared }) s)
  flags_by true s is own =
      let number : s.shared.number.0 ≡ n.0 = eqb-true s.shared.number.0 n.0 is in
      let same : s.shared.number ≡ n = λ i. record { 0 = number i } in
      inr (
        same,
        own number,
        (
          change s.shared,
          keeps.number s.shared ∙ same,
          keeps.domain s.shared ∙ own number,
          keeps.revoked s.shared,
          keeps.orphan s.shared,
          refl,
        ),
      )
  flags_by false s is own = inl refl

  flags_each : (segments : List Segment) → ((s : Segment) → Contains segments s → s.shared.number.0 ≡ n.0 → s.shared.domain ≡ d)
      → AllZip (HasFlags d n) segments (map (flags n change) segments)
  flags_each [] own = tt
  flags_each (s ∷ segments) own = (
    flags_by (s.shared.number.0 == n.0) s refl (own s (Contains-here s segments)),
    flags_each segments (λ u on. own u (Contains-there u s segments on)),
  )

  framed_by : (b : Bool) (s : Segment) (frames : List FrameState)
      → record (cond b (record s { shared = change s.shared }) s) { frames = frames }
      ≡ cond b (record (record s { frames = frames }) { shared = change s.shared }) (record s { frames = frames })
  framed_by true s frames = refl
  framed_by false s frames = refl

-- ---- What is asked for.

-- the segment is one of a Task of the domain's heap
pub record FlagsOf (here mid : Machine) (heap : List NamedObject) (n : SegmentNo) : Type 0 where
  pub change : SharedSegment → SharedSegment
  pub keeps : KeepsSegment change
  pub is : mid ≡ with_stacks (map (flags n change)) here
  pub name : ℕ
  pub task : object_named heap name ≡ Some (Task n)

flags_as : (here mid : Machine) (heap : List NamedObject) (s n : SegmentNo) → Flagged s ≡ Flagged n → FlagsOf here mid heap s → FlagsOf here mid heap n
flags_as here mid heap s n is h = let same : s ≡ n = cc in subst (FlagsOf here mid heap) same h

pub asked_flags : (here : Machine) (t : ThreadNo) (q : RunningSegment here t) (around : Surroundings) (heap : List NamedObject) (request : Request)
    (g : Granted) (mid : Machine) → Grants q request g mid → IsKnownRequest around heap request → (n : SegmentNo) → deed_of_request request ≡ Flagged n
    → FlagsOf here mid heap n
asked_flags here t q around heap request g mid (Grants.creates class target answer range h by is) known n deed = absurd cc
asked_flags here t q around heap request g mid (Grants.revokes k answer range h by is) known n deed = absurd cc
asked_flags here t q around heap request g mid (Grants.binds text k answer names h by is) known n deed = absurd cc
asked_flags here t q around heap request g mid (Grants.looks_up text found looked) known n deed = absurd cc
asked_flags here t q around heap request g mid (Grants.unbinds text answer names h by is) known n deed = absurd cc
asked_flags here t q around heap request g mid (Grants.suspends s) known n deed =
    flags_as here mid heap s n deed
    (record {
      change = with_suspended true;
      keeps = record { number = λ x. refl; domain = λ x. refl; revoked = λ x. refl; orphan = λ x. refl };
      is = refl;
      name = known.0;
      task = known.1;
    })
asked_flags here t q around heap request g mid (Grants.resumes s) known n deed =
    flags_as here mid heap s n deed
    (record {
      change = with_suspended false;
      keeps = record { number = λ x. refl; domain = λ x. refl; revoked = λ x. refl; orphan = λ x. refl };
      is = refl;
      name = known.0;
      task = known.1;
    })
asked_flags here t q around heap request g mid (Grants.stops s) known n deed =
    flags_as here mid heap s n deed
    (record {
      change = with_stop true;
      keeps = record { number = λ x. refl; domain = λ x. refl; revoked = λ x. refl; orphan = λ x. refl };
      is = refl;
      name = known.0;
      task = known.1;
    })

-- ---- The whole step.

module _ (m : Machine) (t : ThreadNo) (p : RunningSegment m t) (here : Machine) (w : WorkedSo m t p here) (waits : IsSealedAtCall here t)
    (q : RunningSegment here t) (n : SegmentNo) (change : SharedSegment → SharedSegment) (keeps : KeepsSegment change) (name : ℕ)
    (task : object_named q.home.inside.heap name ≡ Some (Task n)) where
  abbrev d : DomainId
  d = p.segment.shared.domain

  abbrev mid : Machine
  mid = with_stacks (map (flags n change)) here

  -- ---- The segment of that number is one of the domain.

  abbrev waiting : Segment
  waiting = record q.segment { shared = with_revoked true q.segment.shared }

  abbrev sealed_there : Machine
  sealed_there = with_running q waiting q.home.inside

  abbrev home : DomainState
  home = record q.home.domain { inside = Some q.home.inside }

  own_task : (e : Thread) (s : Segment) → Contains sealed_there.threads e → Contains e.segments s → s.shared.number.0 ≡ n.0 → s.shared.domain ≡ d
  own_task e s on has is =
      let number : n ≡ s.shared.number = λ i. record { 0 = sym is i } in
      (waits q).tasks.own home q.home.inside name e s
      (Contains-at sealed_there.domains waiting.shared.domain.0 home (home_set_there here t q waiting q.home.inside refl)) refl
      (subst (λ (k : SegmentNo). Contains q.home.inside.heap (record { name = name; object = Task k })) number
      (found_stands name (Task n) q.home.inside.heap task)) on has
      ∙ q.home.numbered ∙ of_domain m t p here w q

  others_own : (u : ThreadNo) (e : Thread) → u ≢ t → thread_numbered here u ≡ Some e → (s : Segment) → Contains e.segments s → s.shared.number.0 ≡ n.0
      → s.shared.domain ≡ d
  others_own u e differ at s has =
      own_task e s (thread_found sealed_there u e (other_running q waiting q.home.inside u differ ∙ at)).0 has

  top_own : (s : Segment) → Contains (p.lower ++ w.top ∷ []) s → s.shared.number.0 ≡ n.0 → s.shared.domain ≡ d
  top_own s on is = elim (Contains-push_cases p.lower w.top s on) [
    | inl lower ↦
        let there : Contains q.lower s = subst (λ (ss : List Segment). Contains ss s) (sym (runs_on_top m t p here w q).0) lower in
        own_task (record q.thread { segments = q.lower ++ waiting ∷ [] }) s
        (thread_found sealed_there t (record q.thread { segments = q.lower ++ waiting ∷ [] }) (thread_set here t (q.lower ++ waiting ∷ []) q)).0
        (Contains-append_left q.lower (waiting ∷ []) s there) is
    | inr same ↦ ap (λ (u : Segment). u.shared.domain) (sym same) ∙ w.domain
  ]

  -- ---- Threads.

  abbrev flagged : Thread → Thread
  flagged e = record e { segments = map (flags n change) e.segments }

  searched : (u : ThreadNo) → thread_numbered mid u ≡ option_map flagged (thread_numbered here u)
  searched u = found_still flagged (λ (e : Thread). e.number.0 == u.0) (λ e. refl) here.threads

  module _ (x : RunningSegment mid t) (heap : List NamedObject) (v : Option Value) (new : Machine) (r : Receives x heap v new) where
    abbrev frames : List FrameState
    frames = r.callers ++ resumed v r.caller ∷ []

    abbrev answered : Segment
    answered = record x.segment { frames = frames }

    abbrev inside : Inside
    inside = with_heap x.home.inside heap

    abbrev top : Segment
    top = record w.top { frames = frames }

    there : (x.thread ≡ flagged (record p.thread { segments = p.lower ++ w.top ∷ [] })) × (x.lower ≡ map (flags n change) p.lower)
        × (x.segment ≡ flags n change w.top)
    there =
        let thread : x.thread ≡ flagged (record p.thread { segments = p.lower ++ w.top ∷ [] }) =
        same_Some x.thread (flagged (record p.thread { segments = p.lower ++ w.top ∷ [] }))
        (sym x.is_thread ∙ searched t ∙ ap (option_map flagged) w.own) in
        let last =
        one_last x.lower (map (flags n change) p.lower) x.segment (flags n change w.top)
        (sym x.are_segments ∙ ap (λ (e : Thread). e.segments) thread ∙ map-append (flags n change) p.lower (w.top ∷ [])) in
        (thread, last.0, last.1)

    framed : answered ≡ flags n change top
    framed = ap (λ (s : Segment). record s { frames = frames }) there.2 ∙ framed_by d n change keeps (w.top.shared.number.0 == n.0) w.top frames

    own_found : thread_numbered new t ≡ Some (record p.thread { segments = map (flags n change) (p.lower ++ top ∷ []) })
    own_found =
        ap (λ (y : Machine). thread_numbered y t) r.leads
        ∙ thread_set mid t (x.lower ++ answered ∷ []) x
        ∙ (λ i. Some (record (there.0 i) { segments = there.1 i ++ framed i ∷ [] }))
        ∙ ap (λ (ss : List Segment). Some (record p.thread { segments = ss })) (sym (map-append (flags n change) p.lower (top ∷ [])))

    others_found : (u : ThreadNo) → u ≢ t → thread_numbered new u ≡ option_map flagged (thread_numbered m u)
    others_found u differ =
        ap (λ (y : Machine). thread_numbered y u) r.leads ∙ other_running x answered inside u differ ∙ searched u
        ∙ ap (option_map flagged) (w.threads u differ)

    same_domains : (e : DomainId) → e ≢ d → domain_at new e ≡ domain_at m e
    same_domains e differ =
        ap (λ (y : Machine). domain_at y e) r.leads
        ∙ other_insides {m = mid} w.numbered x answered inside e (λ is. differ (is ∙ ap (λ (s : Segment). s.shared.domain) there.2 ∙ of_flags))
        ∙ w.domains e differ
      where
        domain_by : (b : Bool) → (cond b (record w.top { shared = change w.top.shared }) w.top).shared.domain ≡ w.top.shared.domain
        domain_by true = keeps.domain w.top.shared
        domain_by false = refl

        of_flags : (flags n change w.top).shared.domain ≡ d
        of_flags = domain_by (w.top.shared.number.0 == n.0) ∙ w.domain

    top_flags : (s : Segment) → Contains (p.lower ++ top ∷ []) s → s.shared.number.0 ≡ n.0 → s.shared.domain ≡ d
    top_flags s on is = elim (Contains-push_cases p.lower top s on) [
      | inl lower ↦ top_own s (Contains-append_left p.lower (w.top ∷ []) s lower) is
      | inr same ↦ ap (λ (u : Segment). u.shared.domain) (sym same) ∙ w.domain
    ]

    own_changes : ThreadChanges (OwnChange (record { machine = m; thread = t; deed = Flagged n }) d (Flagged n)) p.thread new
    own_changes =
        inl (
          record p.thread { segments = map (flags n change) (p.lower ++ top ∷ []) },
          ap (thread_numbered new) (same_thread_number p.thread.number t (thread_place m t p).2) ∙ own_found,
          refl,
          (
            p.lower ++ top ∷ [],
            record {
              lower = p.lower;
              before = p.segment;
              after = top;
              were = p.are_segments;
              are = refl;
              same = (w.number, w.domain);
            },
            flags_each d n change keeps (p.lower ++ top ∷ []) top_flags,
          ),
        )

    other_changes : (u : ThreadNo) (old : Thread) → u ≢ t → thread_numbered m u ≡ Some old → ThreadChanges (OthersChange d (Flagged n)) old new
    other_changes u old differ at =
        inl (
          flagged old,
          ap (thread_numbered new) (same_thread_number old.number u (thread_found m u old at).1) ∙ others_found u differ ∙ ap (option_map flagged) at,
          refl,
          flags_each d n change keeps old.segments (others_own u old differ (w.threads u differ ∙ at)),
        )

    lived : (u : ThreadNo) → u ≢ t → IsLiveThread new u → IsLiveThread m u
    lived u differ lives = by (thread_numbered m u) refl
      where
        by : (o : Option Thread) → thread_numbered m u ≡ o → IsLiveThread m u
        by (Some e) is = (e, is)
        by None none =
            let gone : thread_numbered new u ≡ None = others_found u differ ∙ ap (option_map flagged) none in
            let some : thread_numbered new u ≡ Some lives.0 = lives.1 in
            absurd cc

    pub flag_changes : ChangesHere (record { machine = m; thread = t; deed = Flagged n }) d p new
    flag_changes = record {
      domains = λ e old after differ at is.
          unchanged (record { machine = m; thread = t; deed = Flagged n }) old after (same_Some after old (sym is ∙ same_domains e differ ∙ at));
      names = ap (λ (y : Machine). without_names_of d y.names) r.leads ∙ w.names;
      threads = other_changes;
      own_thread = own_changes;
      no_more = lived;
      own_end = λ e is. absurd cc;
    }
