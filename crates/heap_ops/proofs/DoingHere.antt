-- An instruction that may be done, with all that functions find of it.
use Rattle.std.proofs.Common.{◌≡◌, ℕ, ◌+◌, ◌∷◌, ◌++◌, [], List, length, Some, Result, Err, refl, sym, ap, subst, ◌∙◌}
use Rattle.jk_model.specs.declared.instructions.Instr.{Instr}
use Rattle.jk_model.specs.declared.steps.After.{After}
use Rattle.jk_model.specs.declared.steps.After.TheVariants as Next
use Rattle.jk_model.specs.declared.steps.Raise.{Raise}
use Rattle.jk_model.specs.declared.values.Value.{Value}
use Rattle.jk_model_typing.specs.Scopes.{CodeScope}
use Rattle.jk_model_frames.specs.Frames.{FrameState}
use Rattle.jk_model_domains.specs.NumberRows.{IsOnTop}
use Rattle.jk_model_domains.specs.Objects.{NamedObject, Object, object_named}
use Rattle.jk_model_heaps.specs.Capabilities.{KnownCapabilities}
use Rattle.jk_model_heaps.specs.Workings.{GoesOn, GoesOnWith, Inside, Raises, Setting, Working}
use Rattle.jk_model_heap_rows.specs.HeapRows.{HeapRow, IsOfHeaps}
use Rattle.jk_model_sharing.specs.SharedStates.{SharedState}
use Rattle.class_init.specs.KeptStates.{KeptState}
use Rattle.frame_store.specs.FrameContents.{FrameContent, SetsTop, TopFrame}
use Rattle.object_store.specs.HeapContents.{HeapContent, IsLive}
use Rattle.row_laws.specs.HeapOperands.{HeapOperands}
use Rattle.row_laws.proofs.OperandsFound.{operands_found}
use Rattle.number_laws.proofs.FrameParts.{with_stack}
use Rattle.step_contents.specs.Conditions.{MayDo, around, working}
use Rattle.step_contents.specs.Contents.{Contents, contents_of}
use Rattle.step_contents.specs.Contents.{Here as Within}
use Rattle.step_contents.specs.InstructionKinds.{IsAccess}
use Rattle.step_contents.specs.Settings.{IsSetting}
use Rattle.step_contents.proofs.InstructionsBegin.{is_some_setting, runs_code, runs_well, some_setting, top_frame}
use Rattle.step_contents.proofs.KindsByOpcode.{access_of_heaps}
use Rattle.heap_ops.specs.declared.here.Here.{Here}
use Rattle.heap_ops.specs.OneInstruction.{MayStep, MayStepAmong, MayStepWith, among, answer, place_in}
use Rattle.heap_ops.specs.TopEntries.{HasEntries, PutsFor, StandsBelow, TakesOff}
use Rattle.heap_ops.proofs.InstructionDone.{DoneAs, frame_stays, going, goes_on, inside_stays, is_same, raises}
use Rattle.heap_ops.proofs.ValuesOnTop.{entries_there, same_below, stands_below}

pub record Doing (heaps : HeapContent) (frames : FrameContent) (h : Here) : Type 0 where
  pub own : KeptState
  pub shared : SharedState
  pub may : MayDo (contents_of heaps frames own) (among h shared) (place_in h)
  pub kind : IsOfHeaps (place_in h).scope (place_in h).instr
  pub setting : Setting
  pub is_setting : IsSetting (contents_of heaps frames own) (among h shared) setting

abbrev pub doing : (heaps : HeapContent) (frames : FrameContent) (h : Here) → MayStep heaps frames h → Doing heaps frames h
doing heaps frames h step =
    record {
      own = step.own;
      shared = step.shared;
      may = step.may;
      kind = step.kind;
      setting = some_setting step.may;
      is_setting = is_some_setting step.may;
    }

-- the same where it is given what is known of capabilities
abbrev pub doing_among : (heaps : HeapContent) (frames : FrameContent) (caps : KnownCapabilities) (h : Here) → MayStepAmong heaps frames caps h
    → Doing heaps frames h
doing_among heaps frames caps h step =
    doing heaps frames h (record { own = step.own; shared = step.shared; may = step.may; kind = step.kind })

-- the same where the own state is given
abbrev pub doing_with : (heaps : HeapContent) (frames : FrameContent) (own : KeptState) (h : Here) → MayStepWith heaps frames own h → Doing heaps frames h
doing_with heaps frames own h step =
    doing heaps frames h (record { own = own; shared = step.shared; may = step.may; kind = step.kind })

-- an access may be done where it may be done for some own state and some state that domains share
pub accessing : (heaps : HeapContent) (frames : FrameContent) (h : Here) → IsAccess (place_in h).instr.op
    → (own : KeptState) × (shared : SharedState) × MayDo (contents_of heaps frames own) (among h shared) (place_in h) → MayStep heaps frames h
accessing heaps frames h access (own, shared, may) =
    record { own = own; shared = shared; may = may; kind = access_of_heaps (place_in h) access }

module _ (heaps : HeapContent) (frames : FrameContent) (h : Here) (k : Doing heaps frames h) where
  abbrev pub c : Contents
  c = contents_of heaps frames k.own

  abbrev pub here : Within
  here = among h k.shared

  abbrev pub w : Working
  w = working k.may

  abbrev pub s : CodeScope
  s = (place_in h).scope

  abbrev pub i : Instr
  i = (place_in h).instr

  pub found : HeapOperands k.setting s i w
  found = operands_found (around k.may.domain) k.setting w (runs_well k.may k.setting k.is_setting) (runs_code k.may) k.kind

  pub top : TopFrame frames h.segment w.frame
  top = top_frame k.may

  pub same_heap : w.inside.heap ≡ heaps.heap h.domain
  same_heap = ap (λ (x : Inside). x.heap) k.may.holds.inside

  -- the setting's classes are those of the world
  pub same_classes : k.setting.classes ≡ h.world.now.classes
  same_classes = k.is_setting.classes

  -- an object of the heap is one of the store's
  pub live : (a : ℕ) (o : Object) → object_named w.inside.heap a ≡ Some o → IsLive heaps h.domain a o
  live a o is = subst (λ (heap : List NamedObject). object_named heap a ≡ Some o) same_heap is

  -- ---- The stack.

  pub below : (first : List Value) (v : Value) (above : List Value) → IsOnTop w.frame (first ++ v ∷ above)
      → StandsBelow frames h.segment (length above) v
  below first v above on_top = stands_below frames h.segment w.frame first v above top on_top

  pub is_there : (first : List Value) (v u : Value) (above : List Value) → IsOnTop w.frame (first ++ v ∷ above)
      → StandsBelow frames h.segment (length above) u → v ≡ u
  is_there first v u above on_top at = same_below frames h.segment (length above) v u (below first v above on_top) at

  pub entries : (taken : List Value) → IsOnTop w.frame taken → HasEntries frames h.segment (length taken)
  entries taken on_top = entries_there frames h.segment w.frame taken (length taken) top on_top refl

  -- ---- The end.

  abbrev pub Done : HeapContent → FrameContent → KeptState → After → Type 0
  Done new_heaps new_frames own after = DoneAs c (contents_of new_heaps new_frames own) here (place_in h) k.may k.setting after

  -- something is raised where nothing changed
  pub raised : (r : Raise) → HeapRow k.setting s i w w (Raises r) → Done heaps frames k.own (Next.Raise r)
  raised r row =
      raises c c here (place_in h) k.may k.setting r row (frame_stays c here (place_in h) k.may)
      (inside_stays c here (place_in h) k.may c (is_same heaps) refl refl)

  page_stays : (new : FrameContent) (g : FrameState) → SetsTop frames new h.segment g → new.first_page h.domain ≡ frames.first_page h.domain
  page_stays new g sets = sets.2.domains.first_page h.domain

  -- the frame goes on, with other values on top, and the inside is as before
  pub went_on : (new : FrameContent) (taken pushed : List Value) (on_top : IsOnTop w.frame taken)
      → SetsTop frames new h.segment (with_stack w.frame (on_top.0 ++ pushed))
      → ((new_w : Working) → GoesOnWith w taken pushed w.inside new_w (GoesOn (w.frame.head.at + 1))
      → HeapRow k.setting s i w new_w (GoesOn (w.frame.head.at + 1)))
      → Done heaps new k.own (Next.Goto ((place_in h).head.at + 1))
  went_on new taken pushed on_top sets row =
      let g = with_stack w.frame (on_top.0 ++ pushed) in
      let after = contents_of heaps new k.own in
      goes_on c after here (place_in h) k.may k.setting w.inside g (row (record { inside = w.inside; frame = g }) (going w taken pushed w.inside on_top))
      refl sets (inside_stays c here (place_in h) k.may after (is_same heaps) refl (page_stays new g sets))

  -- one value is put for those that were taken
  pub put : (new : FrameContent) (taken : List Value) (v : Value) (on_top : IsOnTop w.frame taken) → PutsFor frames new h.segment (length taken) v
      → SetsTop frames new h.segment (with_stack w.frame (on_top.0 ++ v ∷ []))
  put new taken v on_top puts = puts w.frame on_top.0 taken top on_top.1 refl

  pub took : (new : FrameContent) (taken : List Value) (on_top : IsOnTop w.frame taken) → TakesOff frames new h.segment (length taken)
      → SetsTop frames new h.segment (with_stack w.frame on_top.0)
  took new taken on_top takes = takes w.frame on_top.0 taken top on_top.1 refl

  -- what `?` hands on
  pub answered : (new_heaps : HeapContent) (new_frames : FrameContent) (new_own : KeptState) (result : Result (Unit {0}) Raise) (y r : Raise)
      → result ≡ Err y → y ≡ r → Done new_heaps new_frames new_own (Next.Raise r) → Done new_heaps new_frames new_own (answer h result)
  answered new_heaps new_frames new_own result y r is same done =
      subst (λ (a : Result (Unit {0}) Raise). Done new_heaps new_frames new_own (answer h a)) (sym (is ∙ ap Err same)) done
