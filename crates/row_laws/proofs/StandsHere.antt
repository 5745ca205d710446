-- A frame that runs stands at an instruction of its method, and fits again where it goes on.
use Rattle.std.proofs.Common.{◌≡◌, ℕ, pos, List, Some, slice_get, sym, ap, subst, ◌∙◌, arith}
use Rattle.std.proofs.lemmas.Option.{same_Some, slice_get_within}
use Rattle.list_lemmas.proofs.ItemsByPlace.{item_there}
use Rattle.list_lemmas.proofs.TestsAndOrders.{same_pos}
use Rattle.jk_model.specs.declared.frames.FrameHead.{FrameHead}
use Rattle.jk_model.specs.declared.identifiers.MemberId.{MemberId}
use Rattle.jk_model_classes.specs.declared.records.ClassRecord.{ClassRecord}
use Rattle.jk_model_classes.specs.Classes.{AreOrdered}
use Rattle.jk_model_typing.specs.declared.frames.FrameType.{FrameType}
use Rattle.jk_model_typing.specs.FrameTypes.{IsFrameOf}
use Rattle.jk_model_typing.specs.Scopes.{CodeScope, IsScopeOf}
use Rattle.jk_model_typing.specs.Typing.{FitsAt, GoesOnAt, GoesWell, IsLeastTyping}
use Rattle.typing_lemmas.proofs.OneScope.{one-scope}
use Rattle.jk_model_frames.specs.Frames.{FrameState}
use Rattle.jk_model_domains.specs.Objects.{NamedObject}
use Rattle.jk_model_domains.specs.ValueTypes.{FrameHolds}
use Rattle.jk_model_heaps.specs.CalledFrames.{at_place}
use Rattle.jk_model_heaps.specs.RunningCode.{RunsCode}
use Rattle.jk_model_sealing.specs.FittingFrames.{FitsHere, HasTyping}
use Rattle.erased_typings.specs.ErasedFrames.{IsErasedFrame}
use Rattle.erased_typings.proofs.InterfacesErased.{least-erased}
use Rattle.number_laws.proofs.ValuesAbove.{frame-above}
use Rattle.heap_laws.specs.SoundCodes.{AreSoundCodes}
use Rattle.row_laws.specs.StandingFrames.{StandsTyped}

-- ---- Code.

-- a frame that fits stands at an instruction
pub code_here : (classes : List ClassRecord) (f : FrameState) → HasTyping classes f → RunsCode classes f
code_here classes f t =
    let typing = t.is_least.typing in
    let low = slice_get_within t.frames f.head.at (Some t.type) t.stands in
    let found = item_there typing.scope.code.instrs f.head.at (omega (arith, low, typing.as_many)) in
    record {
      method = t.method;
      is_method = t.is_method;
      scope = typing.scope;
      is_scope = typing.scope_is;
      instr = found.0;
      stands = found.1;
    }

-- its code is one
pub code_is_one : (classes : List ClassRecord) (f : FrameState) (a b : RunsCode classes f) → (a.scope ≡ b.scope) × (a.instr ≡ b.instr)
code_is_one classes f a b =
    let method : a.method ≡ b.method = same_Some a.method b.method (sym a.is_method ∙ b.is_method) in
    let scope : a.scope ≡ b.scope =
    one-scope classes b.method a.scope b.scope (subst (λ (m : MemberId). IsScopeOf classes m a.scope) method a.is_scope) b.is_scope in
    let there : slice_get b.scope.code.instrs f.head.at ≡ Some a.instr =
    subst (λ (s : CodeScope). slice_get s.code.instrs f.head.at ≡ Some a.instr) scope a.stands in
    (scope, same_Some a.instr b.instr (sym there ∙ b.stands))

-- ---- The frame's typing in the scope of its code.

module _ (classes : List ClassRecord) (sound : AreSoundCodes classes) (f : FrameState) (code : RunsCode classes f) (t : HasTyping classes f) where
  abbrev pub same_method : t.method ≡ code.method
  same_method = same_Some t.method code.method (sym t.is_method ∙ code.is_method)

  abbrev pub same_scope : t.scope ≡ code.scope
  same_scope =
      one-scope classes code.method t.scope code.scope (subst (λ (m : MemberId). IsScopeOf classes m t.scope) same_method t.is_scope) code.is_scope

  abbrev pub least : IsLeastTyping classes code.method t.frames
  least = subst (λ (m : MemberId). IsLeastTyping classes m t.frames) same_method t.is_least

  abbrev pub typed : least.typing.scope ≡ code.scope
  typed = one-scope classes code.method least.typing.scope code.scope least.typing.scope_is code.is_scope

  abbrev pub goes : GoesWell code.scope t.frames f.head.at code.instr t.type
  goes =
      let instr : slice_get least.typing.scope.code.instrs f.head.at ≡ Some code.instr =
      subst (λ (s : CodeScope). slice_get s.code.instrs f.head.at ≡ Some code.instr) (sym typed) code.stands in
      subst (λ (s : CodeScope). GoesWell s t.frames f.head.at code.instr t.type) typed
      (least.typing.each f.head.at code.instr t.type instr t.stands)

  sized : IsFrameOf code.scope.code t.type
  sized = subst (λ (s : CodeScope). IsFrameOf s.code t.type) typed (least.typing.sized f.head.at t.type t.stands)

  abbrev pub room : (f.head.max_locals ≡ code.scope.code.max_locals) × (f.head.max_stack ≡ code.scope.code.max_stack)
  room = subst (λ (s : CodeScope). (f.head.max_locals ≡ s.code.max_locals) × (f.head.max_stack ≡ s.code.max_stack)) same_scope t.room

  ordered : AreOrdered code.scope.classes
  ordered = subst AreOrdered (sym code.is_scope.all) sound.ordered

  erased : IsErasedFrame code.scope.classes t.type
  erased =
      subst (λ (x : List ClassRecord). IsErasedFrame x t.type) (sym code.is_scope.all)
      (least-erased classes code.method t.frames f.head.at t.type sound.ordered sound.system sound.class_parents least t.stands)

  -- it fits at a place whose frame type it fits
  fits_on : (heap : List NamedObject) (g : FrameState) (after : FrameType) → g.head.method ≡ f.head.method
      → g.head.max_locals ≡ f.head.max_locals → g.head.max_stack ≡ f.head.max_stack → FitsAt code.scope t.frames g.head.at after
      → FrameHolds code.scope heap g after → FitsHere classes heap g
  fits_on heap g after method locals stack fits holds =
      let typing : HasTyping classes g = record {
        method = code.method;
        is_method = method ∙ code.is_method;
        scope = code.scope;
        is_scope = code.is_scope;
        room = (locals ∙ room.0, stack ∙ room.1);
        frames = t.frames;
        is_least = least;
        type = fits.0;
        stands = fits.1;
      } in
      (typing, frame-above code.scope heap ordered g after fits.0 holds fits.2)

  -- the same typing of a frame with the same head
  abbrev pub typing_of : (g : FrameState) → g.head ≡ f.head → HasTyping classes g
  typing_of g head = record {
    method = code.method;
    is_method = ap (λ (h : FrameHead). h.method) head ∙ code.is_method;
    scope = code.scope;
    is_scope = code.is_scope;
    room = (ap (λ (h : FrameHead). h.max_locals) head ∙ room.0, ap (λ (h : FrameHead). h.max_stack) head ∙ room.1);
    frames = t.frames;
    is_least = least;
    type = t.type;
    stands = ap (λ (h : FrameHead). slice_get t.frames h.at) head ∙ t.stands;
  }

  stays : (heap : List NamedObject) (g : FrameState) → g.head ≡ f.head → FrameHolds code.scope heap g t.type → FitsHere classes heap g
  stays heap g head holds = (typing_of g head, holds)

  pub goes_on : (heap : List NamedObject) (g : FrameState) (n : ℕ) → g.head ≡ f.head → FrameHolds code.scope heap g goes.after
      → GoesOnAt f.head.at code.instr (pos n) → FitsHere classes heap (at_place g n)
  goes_on heap g n head holds next =
      let to = goes.goes_on (pos n) next in
      let same : to.0 ≡ n = same_pos to.0 n (sym to.1) in
      let fits : FitsAt code.scope t.frames n goes.after = subst (λ (k : ℕ). FitsAt code.scope t.frames k goes.after) same to.2 in
      fits_on heap (at_place g n) goes.after (ap (λ (h : FrameHead). h.method) head) (ap (λ (h : FrameHead). h.max_locals) head)
      (ap (λ (h : FrameHead). h.max_stack) head) fits (record { locals = holds.locals; stack = holds.stack })

  pub holds_here : (heap : List NamedObject) → FrameHolds t.scope heap f t.type → FrameHolds code.scope heap f t.type
  holds_here heap holds = subst (λ (s : CodeScope). FrameHolds s heap f t.type) same_scope holds

  pub stands_typed : (heap : List NamedObject) → FrameHolds t.scope heap f t.type → StandsTyped classes heap f code
  stands_typed heap holds = record {
    before = t.type;
    after = goes.after;
    typed = record { sized = sized; row = goes.row; holds = subst (λ (s : CodeScope). FrameHolds s heap f t.type) same_scope holds };
    erased = erased;
    within = λ next at. let to = goes.goes_on next at in (to.0, to.1);
    stays = stays;
    goes_on = goes_on;
  }
