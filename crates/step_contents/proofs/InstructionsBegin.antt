-- Where an instruction may be done, its frame is on top in the store and runs well in every setting, of which there is one.
use Rattle.std.proofs.Common.{◌≡◌, List, [], ◌∷◌, ◌++◌, None, Contains, slice_get, refl, sym, subst, ap, ◌∙◌, inl, inr}
use Rattle.std.specs.List.{AllByRecursion}
use Rattle.std.proofs.lemmas.Option.{same_Some}
use Rattle.jk_model.specs.declared.frames.FrameHead.{FrameHead}
use Rattle.jk_model.specs.declared.identifiers.ClassId.{ClassId}
use Rattle.jk_model.proofs.EachItem.{all_back}
use Rattle.jk_model_classes.specs.declared.records.ClassRecord.{ClassRecord}
use Rattle.jk_model_classes.specs.declared.sharing.Stub.{Stub}
use Rattle.jk_model_classes.specs.Classes.{IsInterface}
use Rattle.jk_model_frames.specs.Frames.{FrameState}
use Rattle.jk_model_domains.specs.Objects.{NamedObject}
use Rattle.jk_model_heaps.specs.RunningCode.{RunsCode}
use Rattle.jk_model_heaps.specs.Workings.{Setting}
use Rattle.jk_model_sealing.specs.FittingFrames.{FitsAsTop, FitsHere, FramesFit}
use Rattle.jk_model_sealing.specs.SealedInsides.{IsSealedInside}
use Rattle.jk_model_sealing.specs.SealedRuns.{IsAtHome, NamesKnown}
use Rattle.jk_model_sharing.specs.KnownStubs.{AreKnownStubs}
use Rattle.jk_model_sharing.specs.SharedStates.{caps_of}
use Rattle.frame_store.specs.FrameContents.{TopFrame, free_chunks}
use Rattle.heap_laws.specs.RunningFrames.{IsKnownSetting, RunsWell}
use Rattle.step_contents.specs.Conditions.{MayDo, around, working}
use Rattle.step_contents.specs.Contents.{Contents, Here}
use Rattle.step_contents.specs.PlacesInCode.{PlaceInCode}
use Rattle.step_contents.specs.Settings.{IsSetting}

-- ---- The top one of frames in a row.

pub fit_top : (Top : FrameState → Type 0) (classes : List ClassRecord) (heap : List NamedObject) (callers : List FrameState) (f : FrameState)
    → FramesFit Top classes heap (callers ++ f ∷ []) → Top f
fit_top Top classes heap [] f h = h
fit_top Top classes heap (g ∷ []) f h = h.1
fit_top Top classes heap (g ∷ above ∷ more) f h = fit_top Top classes heap (above ∷ more) f h.1

-- a frame without a need has code, and fits there
fits_here : (classes : List ClassRecord) (heap : List NamedObject) (f : FrameState) → f.head.need ≡ None → FitsAsTop classes heap f
    → FitsHere classes heap f
fits_here classes heap f none (inl empty) = absurd (empty.need none)
fits_here classes heap f none (inr (stands, fits)) = fits

-- each stub shows interfaces
shows_interfaces : (classes : List ClassRecord) (stubs : List Stub) → AreKnownStubs classes stubs → (s : Stub) (i : ClassId)
    → Contains stubs s → Contains s.interfaces i → IsInterface classes i
shows_interfaces classes stubs known s i has shows = elim (known.each s has) [
  | inl stub ↦ (stub.listed i shows).0.0
  | inr foreign ↦ foreign.interfaces i shows
]

module _ {old : Contents} {here : Here} {at : PlaceInCode} (may : MayDo old here at) where
  -- ---- The frame on top, and its code.

  abbrev pub top_frame : TopFrame old.frames here.segment may.frame
  top_frame = record {
    segment = record { domain = here.domain; frames = may.run.frames };
    is_there = may.holds.frames;
    lower = may.callers;
    frames = may.are_frames;
  }

  abbrev pub runs_code : RunsCode here.world.classes may.frame
  runs_code = record {
    method = may.place.method;
    is_method = ap (λ (h : FrameHead). h.method) (sym may.head) ∙ may.place.is_method;
    scope = at.scope;
    is_scope = may.place.is_scope;
    instr = at.instr;
    stands = ap (λ (h : FrameHead). slice_get at.scope.code.instrs h.at) (sym may.head) ∙ may.place.stands;
  }

  no_need_on_top : may.frame.head.need ≡ None
  no_need_on_top = ap (λ (h : FrameHead). h.need) (sym may.head) ∙ may.no_need

  of_top : (P : FrameState → Type 0) → AllByRecursion P may.run.frames → P may.frame
  of_top P all =
      (all_back P may.callers (may.frame ∷ []) (subst (λ (l : List FrameState). AllByRecursion P l) may.are_frames all)).0

  -- ---- There is a setting.

  abbrev pub some_setting : Setting
  some_setting = record {
    classes = here.world.classes;
    caps = record { ranges = caps_of here.shared; stand_ins = here.shared.stubs };
    name = may.domain.names.name;
    segment = here.segment;
    quota = may.domain.quota;
    chunks = free_chunks old.frames here.domain;
  }

  pub is_some_setting : IsSetting old here some_setting
  is_some_setting = record {
    classes = refl;
    caps = record { ranges = refl; stand_ins = λ s none. (λ h. h, λ h. h) };
    names = may.domain.names;
    is_domain = may.domain.is_domain;
    name = refl;
    segment = refl;
    quota = may.domain.has_quota;
    chunks = refl;
  }

  -- ---- The frame runs well in each.

  module _ (x : Setting) (is : IsSetting old here x) where
    pub is_known_setting : IsKnownSetting (around may.domain) x
    is_known_setting = record {
      classes = is.classes;
      ranges = is.caps.ranges;
      stand_ins = λ s i has none shows.
          shows_interfaces here.world.classes here.shared.stubs may.domain.shares.stubs s i ((is.caps.stand_ins s none).1 has) shows;
      codes = may.domain.codes;
      table = may.domain.table;
    }

    pub same_quota : may.domain.quota ≡ x.quota
    same_quota = same_Some may.domain.quota x.quota (sym may.domain.has_quota ∙ is.quota)

    pub runs_well : RunsWell (around may.domain) x (working may)
    runs_well = record {
      setting = is_known_setting;
      inside = subst (λ q. IsSealedInside (around may.domain) q may.run.inside) same_quota may.sealed.inside;
      no_need = no_need_on_top;
      fits =
          fits_here here.world.classes may.run.inside.heap may.frame no_need_on_top
          (fit_top (FitsAsTop here.world.classes may.run.inside.heap) here.world.classes may.run.inside.heap may.callers may.frame
          (subst (λ (l : List FrameState). FramesFit (FitsAsTop here.world.classes may.run.inside.heap) here.world.classes may.run.inside.heap l)
          may.are_frames may.sealed.frames.fit));
      at_home = of_top (IsAtHome may.domain.names.table) may.sealed.frames.at_home;
      known = of_top (NamesKnown (caps_of here.shared) may.run.inside.heap) may.sealed.frames.known;
    }
