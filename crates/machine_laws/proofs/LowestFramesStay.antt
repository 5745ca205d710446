-- In each step of a segment that doesn't end it the lowest frame stays one of the same method, and so gives what it gave.
use Rattle.std.proofs.Common.{◌≡◌, ◌≢◌, ℕ, ◌⊎◌, inl, inr, List, [], ◌∷◌, ◌++◌, Option, Some, None, refl, sym, ap, subst, ◌∙◌}
use Rattle.std.proofs.lemmas.Option.{same_Some}
use Rattle.jk_model.specs.declared.frames.FrameHead.{FrameHead}
use Rattle.jk_model.specs.declared.identifiers.MemberId.{MemberId}
use Rattle.jk_model.specs.declared.identifiers.ThreadNo.{ThreadNo}
use Rattle.jk_model.specs.declared.steps.Raise.{Raise}
use Rattle.jk_model_classes.specs.declared.records.ClassRecord.{ClassRecord}
use Rattle.jk_model_classes.specs.Worlds.{NamedClass}
use Rattle.jk_model_frames.specs.Frames.{FrameState}
use Rattle.jk_model_heaps.specs.declared.shapes.Unwound.{Unwound}
use Rattle.jk_model_heaps.specs.declared.shapes.Unwound.TheVariants as Unwinding
use Rattle.jk_model_heaps.specs.CalledFrames.{at_place, resumed}
use Rattle.jk_model_heaps.specs.Capabilities.{CapRange}
use Rattle.jk_model_heaps.specs.Workings.{Outcome, Run, Setting, Working}
use Rattle.jk_model_running.specs.LocalSteps.{Continues, DoesInstr, LocalStep, asks, calls, crosses, does, ends, ends_initialiser, goes_on, lacks_constants, meets_broken, need_falls, overflows, raises, returns, says, sets_constants, terminates, touches, without_need}
use Rattle.jk_model_running.specs.Raising.{RaisesIn}
use Rattle.jk_model_running.specs.Ways.{Went}
use Rattle.jk_model_sealing.specs.SealedInsides.{Surroundings}
use Rattle.jk_model_unwinding.specs.Unwinding.{Unwinds, at_handler}
use Rattle.row_laws.specs.HeapRowLaws.{HeapRowsKeep}
use Rattle.row_laws.specs.KeptRuns.{ActsWell}
use Rattle.row_laws.proofs.StepsKept.{runs_well}
use Rattle.row_laws.proofs.InstructionsKept.{instruction_kept}
use Rattle.machine_laws.specs.RunsInMachines.{GivesStill}

-- the method of the lowest frame; nothing where there is no frame
abbrev pub lowest_method : List FrameState → Option (Option MemberId)
lowest_method [] = None
lowest_method (f ∷ frames) = Some f.head.method

-- no frame is left, or the lowest one is of the same method
abbrev pub LowestStays : List FrameState → List FrameState → Type 0
LowestStays old new = (new ≡ []) ⊎ (lowest_method new ≡ lowest_method old)

-- ---- Lists of frames.

pub same_lowest : (callers : List FrameState) (f g : FrameState) (xs ys : List FrameState) → g.head.method ≡ f.head.method
    → lowest_method (callers ++ g ∷ ys) ≡ lowest_method (callers ++ f ∷ xs)
same_lowest [] f g xs ys same = ap (λ (m : Option MemberId). Some m) same
same_lowest (c ∷ callers) f g xs ys same = refl

below_lowest : (callers xs : List FrameState) → callers ≢ [] → lowest_method callers ≡ lowest_method (callers ++ xs)
below_lowest [] xs some = absurd (some refl)
below_lowest (c ∷ callers) xs some = refl

-- ---- What is raised.

caught_by : (x : Setting) (old new : Run) (a : ℕ) (unwound : Unwound) → Unwinds x old a unwound new → LowestStays old.frames new.frames
caught_by x old new a Unwinding.Caught h =
    inr (ap lowest_method h.left ∙ same_lowest h.lower h.catcher (at_handler h.catcher h.handler h.met) h.upper [] refl
    ∙ ap lowest_method (sym h.are_frames))
caught_by x old new a (Unwinding.Uncaught b) h = inl h.1

pub raised_lowest : (x : Setting) (old new : Run) (r : Raise) (unwound : Unwound) → RaisesIn x old r new unwound
    → LowestStays old.frames new.frames
raised_lowest x old new r unwound h = caught_by x (record old { inside = h.made }) new h.thrown unwound h.unwinds

-- ---- After an instruction, whose frame is of the method still.

continued : (x : Setting) (callers : List FrameState) (top : FrameState) (w : Working) → w.frame.head.method ≡ top.head.method
    → (outcome : Outcome) (new : Run) (went : Went) → Continues x callers w outcome new went
    → LowestStays (callers ++ top ∷ []) new.frames
continued x callers top w same outcome new went (goes_on n) = inr (same_lowest callers top (at_place w.frame n) [] [] same)
continued x callers top w same outcome new went (says text n) = inr (same_lowest callers top (at_place w.frame n) [] [] same)
continued x callers top w same outcome new went (calls called) = inr (same_lowest callers top w.frame [] (called ∷ []) same)
continued x callers top w same outcome new went (ends_initialiser v c initialises state some) = inr (below_lowest callers (top ∷ []) some)
continued x callers top w same outcome new went (returns v lower below plain are) =
    inr (same_lowest lower below (resumed v below) [] [] refl ∙ ap lowest_method (sym are) ∙ below_lowest callers (top ∷ []) (some are))
  where
    some : callers ≡ lower ++ below ∷ [] → callers ≢ []
    some is none = no_frames lower (sym is ∙ none)
      where
        no_frames : (fs : List FrameState) → fs ++ below ∷ [] ≡ [] → ⊥
        no_frames [] e = cc
        no_frames (f ∷ fs) e = cc
continued x callers top w same outcome new went (ends v plain are) = inl refl
continued x callers top w same outcome new went (raises r run unwound rises) =
    by (raised_lowest x (record { inside = w.inside; frames = callers ++ w.frame ∷ [] }) run r unwound rises)
  where
    by : LowestStays (callers ++ w.frame ∷ []) run.frames → LowestStays (callers ++ top ∷ []) run.frames
    by (inl none) = inl none
    by (inr lowest) = inr (lowest ∙ same_lowest callers top w.frame [] [] same)
continued x callers top w same outcome new went (crosses k m) = inr (same_lowest callers top w.frame [] [] same)
continued x callers top w same outcome new went (asks request) = inr (same_lowest callers top w.frame [] [] same)
continued x callers top w same outcome new went terminates = inr (same_lowest callers top w.frame [] [] same)

-- ---- A step.

-- The surroundings have the setting's own classes.
module _ (rows : HeapRowsKeep) (x : Setting) (table : List NamedClass) (caps : List CapRange) (t : ThreadNo) (old : Run)
    (acts : ActsWell (record { classes = x.classes; table = table; caps = caps }) x t old) where
  abbrev around : Surroundings
  around = record { classes = x.classes; table = table; caps = caps }

  instr_lowest : (at : DoesInstr x t old) (new : Run) (went : Went) → Continues x at.top.callers at.working at.outcome new went
      → LowestStays old.frames new.frames
  instr_lowest at new went continues =
      let kept = instruction_kept rows around x (record { inside = old.inside; frame = at.top.frame }) at.working at.outcome
      (runs_well rows x table caps t old acts at.top at.no_need) at.code at.executes in
      subst (λ (fs : List FrameState). LowestStays fs new.frames) (sym at.top.are_frames)
      (continued x at.top.callers at.top.frame at.working (ap (λ (h : FrameHead). h.method) kept.0.head) at.outcome new went continues)

  replaced_lowest : (callers : List FrameState) (f g : FrameState) (xs : List FrameState) → old.frames ≡ callers ++ f ∷ []
      → g.head.method ≡ f.head.method → LowestStays old.frames (callers ++ g ∷ xs)
  replaced_lowest callers f g xs are same = inr (same_lowest callers f g [] xs same ∙ ap lowest_method (sym are))

  covered_lowest : (callers : List FrameState) (f : FrameState) (xs : List FrameState) → old.frames ≡ callers ++ f ∷ []
      → LowestStays old.frames (old.frames ++ xs)
  covered_lowest callers f xs are =
      subst (λ (fs : List FrameState). LowestStays fs (fs ++ xs)) (sym are)
      (inr (ap lowest_method (joined callers) ∙ same_lowest callers f f [] xs refl))
    where
      joined : (fs : List FrameState) → (fs ++ f ∷ []) ++ xs ≡ fs ++ f ∷ xs
      joined [] = refl
      joined (g ∷ fs) = ap (λ (gs : List FrameState). g ∷ gs) (joined fs)

  step_lowest : (new : Run) (went : Went) → LocalStep x t old new went → LowestStays old.frames new.frames
  step_lowest new went (touches class at room is) =
      subst (λ (y : Run). LowestStays old.frames y.frames) (sym is) (covered_lowest at.top.callers at.top.frame _ at.top.are_frames)
  step_lowest new went (overflows class at unwound short rises) = raised_lowest x old new _ unwound rises
  step_lowest new went (meets_broken at unwound rises) = raised_lowest x old new _ unwound rises
  step_lowest new went (need_falls at plain is) =
      subst (λ (y : Run). LowestStays old.frames y.frames) (sym is)
      (replaced_lowest at.top.callers at.top.frame (without_need at.top.frame) [] at.top.are_frames refl)
  step_lowest new went (sets_constants at of set sets (inl (some, is))) =
      subst (λ (y : Run). LowestStays old.frames y.frames) (sym is)
      (replaced_lowest at.top.callers at.top.frame (without_need at.top.frame) [] at.top.are_frames refl)
  step_lowest new went (sets_constants at of set sets (inr (none, some, is))) =
      subst (λ (y : Run). LowestStays old.frames y.frames) (sym is)
      (inr (below_lowest at.top.callers (at.top.frame ∷ []) some ∙ ap lowest_method (sym at.top.are_frames)))
  step_lowest new went (lacks_constants at of unwound lacks rises) = raised_lowest x old new _ unwound rises
  step_lowest new went (does at way continues) = instr_lowest at new way continues

-- ---- It gives what it gave.

pub gives_by : (classes : List ClassRecord) (old new : List FrameState) → LowestStays old new → new ≢ [] → GivesStill classes old new
gives_by classes old [] stays some = absurd (some refl)
gives_by classes old (f ∷ frames) (inl none) some = absurd (some none)
gives_by classes old (f ∷ frames) (inr same) some = λ result h. (
  f,
  frames,
  refl,
  (
    h.3.0,
    h.3.1,
    same_Some f.head.method h.0.head.method (same ∙ ap lowest_method h.2) ∙ h.3.2,
    h.3.3,
    h.3.4,
  ),
)

-- In any surroundings of the setting.
pub step_gives : HeapRowsKeep → (around : Surroundings) (x : Setting) (t : ThreadNo) (old new : Run) (went : Went) → ActsWell around x t old
    → LocalStep x t old new went → new.frames ≢ [] → GivesStill around.classes old.frames new.frames
step_gives rows around x t old new went acts step some =
    gives_by around.classes old.frames new.frames
    (subst (λ (classes : List ClassRecord). ActsWell (record around { classes = classes }) x t old → LowestStays old.frames new.frames)
    acts.setting.classes (λ known. step_lowest rows x around.table around.caps t old known new went step) acts) some
