-- Something is raised in a segment: its object is there, by which the domain stays known, and then the segment is unwound.
use Rattle.std.proofs.Common.{◌≡◌, ℕ, refl, sym, subst, ◌∙◌}
use Rattle.std.proofs.lemmas.Option.{same_Some}
use Rattle.jk_model.specs.declared.identifiers.DomainId.{DomainId}
use Rattle.jk_model.specs.declared.identifiers.SegmentNo.{SegmentNo}
use Rattle.jk_model.specs.declared.steps.Raise.{Raise}
use Rattle.jk_model_classes.specs.Worlds.{DomainRecord, WorldRecord}
use Rattle.jk_model_heaps.specs.declared.shapes.Unwound.{Unwound}
use Rattle.jk_model_heaps.specs.Heaps.{IsGrown}
use Rattle.jk_model_heaps.specs.Throwables.{IsRaised}
use Rattle.jk_model_heaps.specs.Workings.{Inside, Run, Setting}
use Rattle.jk_model_running.specs.Raising.{RaisesIn}
use Rattle.jk_model_sealing.specs.SealedInsides.{IsSealedInside}
use Rattle.jk_model_sealing.specs.SealedRuns.{AreSealedFrames}
use Rattle.jk_model_sharing.specs.SharedStates.{SharedState, caps_of}
use Rattle.class_init.specs.KeptStates.{KeptState}
use Rattle.frame_store.specs.FrameContents.{FrameContent}
use Rattle.object_store.specs.HeapContents.{HeapContent}
use Rattle.heap_laws.proofs.StillFits.{frames_sealed, meets_raise}
use Rattle.heap_laws.specs.KeptInsides.{KeepsInside}
use Rattle.heap_laws.specs.RaisableObjects.{IsThrowable, KeepsStates, MayBeRaised, MayMeetRaise}
use Rattle.row_laws.proofs.Raised.{thrown}
use Rattle.step_contents.specs.Conditions.{KnowsDomain, MayChange, MayRaise, around}
use Rattle.step_contents.specs.Contents.{Becomes, Contents, Here, InsideBecomes, contents_of, here_at, inside_in}
use Rattle.step_contents.specs.Settings.{IsSetting}
use Rattle.exception_unwind.specs.RaisedObjects.{IsRaisedIn}
use Rattle.exception_unwind.specs.UnwoundFrames.{IsUnwound}
use Rattle.exception_unwind.proofs.InsidesChanged.{inside_then}
use Rattle.exception_unwind.proofs.KnownDomains.{known_quota, known_setting, may_still_change, setting_stays, some_setting}
use Rattle.segment_steps.specs.declared.went.Went.{Went}
use Rattle.segment_steps.specs.RaisingHere.{RaisedHere, went_of}

-- whatever is in the stores, a domain has one name and one table
same_names : {old new : Contents} {here : Here} (a : KnowsDomain old here) (b : KnowsDomain new here) → a.names ≡ b.names
same_names a b = same_Some a.names b.names (sym a.is_domain ∙ b.is_domain)

-- ---- Where something may be raised the domain's inside may change.

abbrev pub may_change : (c : Contents) (here : Here) → MayRaise c here → MayChange c here
may_change c here may = record {
  domain = may.domain;
  sealed = subst (IsSealedInside (around may.domain) may.domain.quota) may.holds.inside may.sealed.inside;
}

module _ (w : WorldRecord) (d : DomainId) (s : SegmentNo) (heaps made : HeapContent) (frames : FrameContent) (own : KeptState) (r : Raise) (a : ℕ)
    (can : MayBeRaised w.classes (heaps.heap d) r)
    (raised : (shared : SharedState) → IsRaisedIn (contents_of heaps frames own) (contents_of made frames own) (here_at w shared d s) r a) where
  abbrev old : Contents
  old = contents_of heaps frames own

  abbrev mid : Contents
  mid = contents_of made frames own

  module _ (shared : SharedState) (may : MayRaise old (here_at w shared d s)) where
    abbrev here : Here
    here = here_at w shared d s

    -- ---- In some setting, of which there is one, the object is a throwable of the domain.

    module _ (x : Setting) (set : IsSetting old here x) where
      abbrev done : (inside : Inside) × IsRaised x (inside_in old here) r inside a × InsideBecomes old mid here inside
      done = raised shared x (may_change old here may) set

      sealed_here : IsSealedInside (around may.domain) x.quota (inside_in old here)
      sealed_here =
          subst (λ (q : ℕ). IsSealedInside (around may.domain) q (inside_in old here)) (known_quota old here may.domain x set)
          (may_change old here may).sealed

      abbrev Kept : Inside → Type 0
      Kept inside =
          KeepsInside (around may.domain) x (inside_in old here) inside × IsThrowable w.classes inside.heap a × (inside.own ≡ own.state)

      kept : Kept (inside_in mid here)
      kept =
          subst Kept done.2.is_inside
          (thrown (around may.domain) x (known_setting old here may.domain x set) (inside_in old here) sealed_here done.0 r a can done.1)

      is_raised : IsRaised x may.run.inside r (inside_in mid here) a
      is_raised =
          subst (λ (i : Inside). IsRaised x i r (inside_in mid here) a) (sym may.holds.inside)
          (subst (λ (i : Inside). IsRaised x (inside_in old here) r i a) done.2.is_inside done.1)

      became : InsideBecomes old mid here (inside_in mid here)
      became = subst (InsideBecomes old mid here) done.2.is_inside done.2

      pub still_set : IsSetting mid here x
      still_set = setting_stays old here made own (inside_in mid here) became x set

      may_change_still : MayChange mid here
      may_change_still =
          may_still_change old here made own (inside_in mid here) became may.domain refl
          (subst (λ (q : ℕ). IsSealedInside (around may.domain) q (inside_in mid here)) (sym (known_quota old here may.domain x set)) kept.0.sealed)

      grown : IsGrown may.run.inside.heap (made.heap d)
      grown = subst (λ (i : Inside). IsGrown i.heap (made.heap d)) (sym may.holds.inside) kept.0.grown

      frames_there : AreSealedFrames (around may.domain) (MayMeetRaise w.classes (made.heap d)) (made.heap d) may.run.frames
      frames_there =
          frames_sealed may.run.inside.heap (made.heap d) grown (MayMeetRaise w.classes may.run.inside.heap) (MayMeetRaise w.classes (made.heap d))
          (meets_raise may.run.inside.heap (made.heap d) grown w.classes) (around may.domain) may.run.frames may.sealed.frames

      -- ---- It may go through the segment.

      pub may_unwind : MayRaise mid here
      may_unwind = record {
        domain = may_change_still.domain;
        run = record { inside = inside_in mid here; frames = may.run.frames };
        holds = record { inside = refl; frames = may.holds.frames };
        sealed = record {
          inside = may_change_still.sealed;
          frames = subst (λ (n : DomainRecord). AreSealedFrames (record { classes = w.classes; table = n.table; caps = caps_of shared })
              (MayMeetRaise w.classes (made.heap d)) (made.heap d) may.run.frames) (same_names may.domain may_change_still.domain) frames_there;
        };
        states = subst (λ (i : Inside). KeepsStates i.own may.run.frames) may.holds.inside may.states;
      }

      pub is_throwable : IsThrowable w.classes (made.heap d) a
      is_throwable = kept.1

      -- ---- It went through it.

      become : (new : Contents) (run : Run) → Becomes mid new here (record { inside = inside_in mid here; frames = may.run.frames }) run
          → Becomes old new here may.run run
      become new run b = record {
        inside = inside_then old mid new here (inside_in mid here) run.inside became b.inside;
        frames = record { used = b.frames.used; chunks = b.frames.chunks; changes = b.frames.changes };
      }

      went_through : (new : Contents) (unwound : Unwound) → IsUnwound mid new here a unwound
          → (run : Run) × RaisesIn x may.run r run unwound × Becomes old new here may.run run
      unfolding may_unwind
      went_through new unwound goes =
          let went = goes x may_unwind still_set in (
            went.0,
            record { thrown = a; made = inside_in mid here; is_raised = is_raised; unwinds = went.1 },
            become new went.0 went.2,
          )

    -- by some setting
    pub may_unwind_there : MayRaise mid here
    may_unwind_there = let some = some_setting old here may.domain in may_unwind some.0 some.1

    pub throwable_there : IsThrowable w.classes (made.heap d) a
    throwable_there = let some = some_setting old here may.domain in is_throwable some.0 some.1

  pub raised_here : (new : Contents) (unwound : Unwound) (went : Went) → went ≡ went_of unwound
      → ((shared : SharedState) → IsUnwound mid new (here_at w shared d s) a unwound) → (shared : SharedState)
      → RaisedHere old new (here_at w shared d s) r went
  raised_here new unwound went is goes shared = λ x may set.
      let by = went_through shared may x set new unwound (goes shared) in (by.0, unwound, by.1, is, by.2)
