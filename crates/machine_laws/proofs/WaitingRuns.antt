-- Where a segment has run and waits for an answer, the machine is sealed but for that: it is so with a RevokedException pending for the segment.
use Rattle.std.proofs.Common.{◌≡◌, ℕ, ◌==◌, inr, Bool, true, false, cond, List, [], ◌∷◌, ◌++◌, map, Some, slice_get, refl, sym, ap, subst, ◌∙◌, eq-eqb}
use Rattle.std.specs.Option.{option_map}
use Rattle.std.proofs.lemmas.Bool.{eqb-true}
use Rattle.std.proofs.lemmas.Option.{same_Some}
use Rattle.jk_model.specs.declared.identifiers.DomainId.{DomainId}
use Rattle.jk_model.specs.declared.identifiers.ThreadNo.{ThreadNo}
use Rattle.jk_model_heaps.specs.Workings.{Inside, Run}
use Rattle.jk_model_running.specs.Ways.{Went}
use Rattle.jk_model_sealing.specs.FittingFrames.{FitsAtCall}
use Rattle.jk_model_sealing.specs.SealedRuns.{AreSealedFrames}
use Rattle.jk_model_sharing.specs.Segments.{with_revoked}
use Rattle.jk_model_machine_state.specs.Machines.{DomainState, Machine, Segment, Thread, thread_numbered, with_inside, with_segments}
use Rattle.jk_model_machine_state.specs.Places.{LiveDomain, RunningSegment, run_of, setting_of, with_flags, with_run}
use Rattle.jk_model_runs.specs.Sealed.{IsSealed, TopFits, surroundings}
use Rattle.list_lemmas.proofs.LastItems.{one_last}
use Rattle.row_laws.specs.KeptRuns.{KeepsRun}
use Rattle.machine_laws.specs.SoundMachines.{IsSealedAtCall}
use Rattle.machine_laws.proofs.ChangedItems.{none_changed}
use Rattle.machine_laws.proofs.DomainsAfterRuns.{numbers_stay}
use Rattle.machine_laws.proofs.InitialisersAfterRuns.{found_still}
use Rattle.machine_laws.proofs.RunningSegmentsFit.{frames_weaker, thread_place}
use Rattle.machine_laws.proofs.SealedAfterRuns.{sealed_after}
use Rattle.machine_laws.proofs.SegmentsThatRan.{HasRun, after}

-- ---- A thread's segments become others, and then others.

abbrev changed_thread : ThreadNo → List Segment → Thread → Thread
changed_thread t segments e = cond (e.number.0 == t.0) (record e { segments = segments }) e

number_by : (b : Bool) (segments : List Segment) (e : Thread) → (cond b (record e { segments = segments }) e).number ≡ e.number
number_by true segments e = refl
number_by false segments e = refl

twice_by : (b c : Bool) (first second : List Segment) (e : Thread) → c ≡ b
    → cond c (record (cond b (record e { segments = first }) e) { segments = second }) (cond b (record e { segments = first }) e)
    ≡ cond b (record e { segments = second }) e
twice_by true true first second e h = refl
twice_by true false first second e h = absurd cc
twice_by false true first second e h = absurd cc
twice_by false false first second e h = refl

twice : (t : ThreadNo) (first second : List Segment) (es : List Thread)
    → map (changed_thread t second) (map (changed_thread t first) es) ≡ map (changed_thread t second) es
twice t first second [] = refl
twice t first second (e ∷ es) =
    λ i. twice_by (e.number.0 == t.0) ((changed_thread t first e).number.0 == t.0) first second e
    (ap (λ (n : ThreadNo). n.0 == t.0) (number_by (e.number.0 == t.0) first e)) i ∷ twice t first second es i

found_changed : (m : Machine) (t : ThreadNo) (segments : List Segment) (e : Thread) → thread_numbered m t ≡ Some e → e.number.0 ≡ t.0
    → thread_numbered (with_segments t segments m) t ≡ Some (record e { segments = segments })
found_changed m t segments e is number =
    found_still (changed_thread t segments) (λ (x : Thread). x.number.0 == t.0)
    (λ x. ap (λ (n : ThreadNo). n.0 == t.0) (number_by (x.number.0 == t.0) segments x)) m.threads
    ∙ ap (option_map (changed_thread t segments)) is
    ∙ ap (λ (x : Thread). Some x) (ap (λ (b : Bool). cond b (record e { segments = segments }) e) (eq-eqb e.number.0 t.0 number))

-- ---- A domain that is set to what it has is as it was.

set_by : (b : Bool) (e : DomainState) (inside : Inside) → (b ≡ true → e.inside ≡ Some inside) → cond b (record e { inside = Some inside }) e ≡ e
set_by true e inside has = λ i. record e { inside = sym (has refl) i }
set_by false e inside has = refl

module _ (m : Machine) (t : ThreadNo) (r : HasRun m t) where
  inside_stays : (d : DomainId) (l : LiveDomain (after r) d) → with_inside d l.inside (after r) ≡ after r
  inside_stays d l =
      ap (λ (ds : List DomainState). record (after r) { domains = ds })
      (none_changed (λ (e : DomainState). cond (e.number.0 == d.0) (record e { inside = Some l.inside }) e) (after r).domains
      (λ i e at. set_by (e.number.0 == d.0) e l.inside (has i e at)))
    where
      has : (i : ℕ) (e : DomainState) → slice_get (after r).domains i ≡ Some e → (e.number.0 == d.0) ≡ true → e.inside ≡ Some l.inside
      has i e at same =
          let place = sym (numbers_stay m t r i e at) ∙ eqb-true e.number.0 d.0 same in
          let one : e ≡ l.domain = same_Some e l.domain (sym at ∙ ap (slice_get (after r).domains) place ∙ l.is_domain) in
          ap (λ (x : DomainState). x.inside) one ∙ l.is_inside

module _ (m : Machine) (t : ThreadNo) (p : RunningSegment m t) (run : Run) (went : Went) (sealed : IsSealed m)
    (keeps : KeepsRun (surroundings m p.home.domain) (setting_of p) t (run_of p) run went)
    (frames : AreSealedFrames (surroundings m p.home.domain) (FitsAtCall m.classes run.inside.heap) run.inside.heap run.frames) where
  abbrev segment_ran : Segment
  segment_ran = record p.segment { frames = run.frames }

  abbrev segment_waits : Segment
  segment_waits = record segment_ran { shared = with_revoked true p.segment.shared }

  abbrev waits : HasRun m t
  waits = record {
    place = p;
    sealed = sealed;
    segment = segment_waits;
    inside = run.inside;
    number = refl;
    domain = refl;
    keeps = keeps.inside;
    frames = frames_weaker (surroundings m p.home.domain) run.inside.heap (FitsAtCall m.classes run.inside.heap) (TopFits m run.inside segment_waits)
        (λ f call. inr (refl, call)) run.frames frames;
    progress = keeps.progress;
    chunks = keeps.chunks;
  }

  runs_there : (q : RunningSegment (with_run p run) t) → (q.lower ≡ p.lower) × (q.segment ≡ segment_ran)
  runs_there q =
      let found = found_changed (with_inside p.segment.shared.domain run.inside m) t (p.lower ++ segment_ran ∷ []) p.thread p.is_thread
      (thread_place m t p).2 in
      let one : q.thread ≡ record p.thread { segments = p.lower ++ segment_ran ∷ [] } =
      same_Some q.thread (record p.thread { segments = p.lower ++ segment_ran ∷ [] }) (sym q.is_thread ∙ found) in
      one_last q.lower p.lower q.segment segment_ran (sym q.are_segments ∙ ap (λ (x : Thread). x.segments) one)

  flagged : (q : RunningSegment (with_run p run) t) → with_flags q (with_revoked true q.segment.shared) ≡ after waits
  flagged q =
      let same = runs_there q in
      ap (with_segments t (q.lower ++ record q.segment { shared = with_revoked true q.segment.shared } ∷ [])) (set_again q)
      ∙ (λ i. with_segments t (same.0 i ++ record (same.1 i) { shared = with_revoked true (same.1 i).shared } ∷ []) (with_run p run))
      ∙ ap (λ (ts : List Thread). record (with_run p run) { threads = ts })
      (twice t (p.lower ++ segment_ran ∷ []) (p.lower ++ segment_waits ∷ []) m.threads)
    where
      set_again : (q : RunningSegment (with_run p run) t) → with_inside q.segment.shared.domain q.home.inside (with_run p run) ≡ with_run p run
      set_again q =
          ap (λ (ds : List DomainState). record (with_run p run) { domains = ds })
          (ap (λ (x : Machine). x.domains)
          (inside_stays m t waits q.segment.shared.domain
          (record {
            domain = q.home.domain;
            is_domain = q.home.is_domain;
            numbered = q.home.numbered;
            inside = q.home.inside;
            is_inside = q.home.is_inside;
          })))

  pub waiting_sealed : IsSealedAtCall (with_run p run) t
  waiting_sealed q = subst IsSealed (sym (flagged q)) (sealed_after m t waits)
