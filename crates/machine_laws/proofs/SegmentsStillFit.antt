-- Where a segment has run, the segments of all threads fit still: their domains live, and heaps have only grown.
use Rattle.std.proofs.Common.{◌≡◌, ◌≢◌, ◌⊎◌, inl, inr, List, [], ◌∷◌, ◌++◌, slice_get, refl, sym, ap, subst, ◌∙◌}
use Rattle.std.proofs.lemmas.Bool.{cases_eq}
use Rattle.std.proofs.lemmas.Option.{same_Some}
use Rattle.jk_model.specs.declared.identifiers.DomainId.{DomainId}
use Rattle.jk_model.specs.declared.identifiers.ThreadNo.{ThreadNo}
use Rattle.jk_model_frames.specs.Frames.{FrameState}
use Rattle.jk_model_heaps.specs.Heaps.{IsGrown}
use Rattle.jk_model_heaps.specs.Workings.{Inside}
use Rattle.jk_model_sealing.specs.SealedInsides.{Surroundings}
use Rattle.jk_model_sealing.specs.SealedRuns.{AreSealedFrames}
use Rattle.jk_model_machine_state.specs.Machines.{DomainState, Machine, Segment}
use Rattle.jk_model_machine_state.specs.Places.{LiveDomain}
use Rattle.jk_model_runs.specs.Sealed.{CallerFits, IsSealedSegment, SegmentsFit, TopFits, surroundings}
use Rattle.heap_laws.proofs.GrownHeaps.{grown_self}
use Rattle.heap_laws.proofs.StillFits.{fits_as_top, fits_at_call, frames_sealed}
use Rattle.machine_laws.proofs.SegmentsThatRan.{HasRun, after, here, here_at, home_at, number_here, others_at, surroundings_stay}

same_domain : (a b : DomainId) → a.0 ≡ b.0 → a ≡ b
same_domain a b e = λ i. record { 0 = e i }

module _ (m : Machine) (t : ThreadNo) (r : HasRun m t) where
  -- ---- Domains that live.

  abbrev here_lives : (d : DomainId) → d.0 ≡ (number_here r).0 → LiveDomain (after r) d
  here_lives d same = record {
    domain = here r;
    is_domain = ap (slice_get (after r).domains) same ∙ here_at m t r;
    numbered = r.place.home.numbered ∙ same_domain (number_here r) d (sym same);
    inside = r.inside;
    is_inside = refl;
  }

  abbrev other_lives : (d : DomainId) → d.0 ≢ (number_here r).0 → LiveDomain m d → LiveDomain (after r) d
  other_lives d differ l = record {
    domain = l.domain;
    is_domain = others_at m t r d.0 l.domain differ l.is_domain;
    numbered = l.numbered;
    inside = l.inside;
    is_inside = l.is_inside;
  }

  pub live_stays : (d : DomainId) → LiveDomain m d → LiveDomain (after r) d
  live_stays d l = elim (cases_eq d.0 (number_here r).0) [
    | inl same ↦ here_lives d same
    | inr differ ↦ other_lives d differ l
  ]

  -- ---- Segments.

  module _ (Top New : Inside → FrameState → Type 0)
      (top : (old new : Inside) → IsGrown old.heap new.heap → (f : FrameState) → Top old f → New new f) where
    segment_by : (s : Segment) → IsSealedSegment m Top s → (s.shared.domain.0 ≡ (number_here r).0) ⊎ (s.shared.domain.0 ≢ (number_here r).0)
        → IsSealedSegment (after r) New s
    segment_by s h (inl same) = record {
      home = here_lives s.shared.domain same;
      frames = frames_sealed h.home.inside.heap r.inside.heap grown (Top h.home.inside) (New r.inside) (top h.home.inside r.inside grown)
          (surroundings (after r) (here r)) s.frames
          (subst (λ (around : Surroundings). AreSealedFrames around (Top h.home.inside) h.home.inside.heap s.frames)
          (surroundings_stay m t r h.home.domain (here r) (ap (λ (x : DomainState). x.table) one)) h.frames);
    }
      where
        one : r.place.home.domain ≡ h.home.domain
        one =
            same_Some r.place.home.domain h.home.domain
            (sym (home_at m t r) ∙ ap (slice_get m.domains) (sym same) ∙ h.home.is_domain)

        within : r.place.home.inside ≡ h.home.inside
        within =
            same_Some r.place.home.inside h.home.inside
            (sym r.place.home.is_inside ∙ ap (λ (x : DomainState). x.inside) one ∙ h.home.is_inside)

        grown : IsGrown h.home.inside.heap r.inside.heap
        grown = subst (λ (x : Inside). IsGrown x.heap r.inside.heap) within r.keeps.grown
    segment_by s h (inr differ) = record {
      home = other_lives s.shared.domain differ h.home;
      frames = frames_sealed h.home.inside.heap h.home.inside.heap (grown_self h.home.inside.heap) (Top h.home.inside) (New h.home.inside)
          (top h.home.inside h.home.inside (grown_self h.home.inside.heap)) (surroundings (after r) h.home.domain) s.frames
          (subst (λ (around : Surroundings). AreSealedFrames around (Top h.home.inside) h.home.inside.heap s.frames)
          (surroundings_stay m t r h.home.domain h.home.domain refl) h.frames);
    }

    pub segment_fits : (s : Segment) → IsSealedSegment m Top s → IsSealedSegment (after r) New s
    segment_fits s h = segment_by s h (cases_eq s.shared.domain.0 (number_here r).0)

  pub caller_fits : (s : Segment) → IsSealedSegment m (CallerFits m) s → IsSealedSegment (after r) (CallerFits (after r)) s
  caller_fits s =
      segment_fits (CallerFits m) (CallerFits (after r)) (λ old new grown f call. fits_at_call old.heap new.heap grown m.classes f call) s

  pub top_fits : (s : Segment) → IsSealedSegment m (λ inside f. TopFits m inside s f) s
      → IsSealedSegment (after r) (λ inside f. TopFits (after r) inside s f) s
  top_fits s =
      segment_fits (λ inside f. TopFits m inside s f) (λ inside f. TopFits (after r) inside s f) still s
    where
      still : (old new : Inside) → IsGrown old.heap new.heap → (f : FrameState) → TopFits m old s f → TopFits (after r) new s f
      still old new grown f (inl fits) = inl (fits_as_top old.heap new.heap grown m.classes f fits)
      still old new grown f (inr (revoked, call)) = inr (revoked, fits_at_call old.heap new.heap grown m.classes f call)

  -- the running one itself
  pub running_fits : IsSealedSegment (after r) (λ inside f. TopFits (after r) inside r.segment f) r.segment
  running_fits = record {
    home = here_lives r.segment.shared.domain (ap (λ (n : DomainId). n.0) r.domain);
    frames = subst (λ (around : Surroundings). AreSealedFrames around (TopFits m r.inside r.segment) r.inside.heap r.segment.frames)
        (surroundings_stay m t r r.place.home.domain (here r) refl) r.frames;
  }

  -- ---- The segments of a thread.

  pub others_fit : (segments : List Segment) → SegmentsFit m segments → SegmentsFit (after r) segments
  others_fit [] h = h
  others_fit (s ∷ []) h = top_fits s h
  others_fit (s ∷ above ∷ more) h = (caller_fits s h.0, others_fit (above ∷ more) h.1)

  pub own_fit : (lower : List Segment) (old : Segment) → SegmentsFit m (lower ++ old ∷ []) → SegmentsFit (after r) (lower ++ r.segment ∷ [])
  own_fit [] old h = running_fits
  own_fit (a ∷ []) old h = (caller_fits a h.0, running_fits)
  own_fit (a ∷ b ∷ lower) old h = (caller_fits a h.0, own_fit (b ∷ lower) old h.1)
