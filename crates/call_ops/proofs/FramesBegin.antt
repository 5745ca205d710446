-- A method's code has a first instruction, and there its frame stands once it is on top.
use Rattle.std.proofs.Common.{◌≡◌, ℕ, List, [], ◌∷◌, ◌++◌, length, Some, slice_get, refl, sym, ap, subst, ◌∙◌, append_assoc, arith}
use Rattle.std.proofs.lemmas.Option.{slice_get_within}
use Rattle.jk_model.specs.declared.frames.FrameHead.{FrameHead}
use Rattle.jk_model.specs.declared.identifiers.MemberId.{MemberId}
use Rattle.jk_model.specs.declared.identifiers.SegmentNo.{SegmentNo}
use Rattle.jk_model.specs.declared.instructions.Instr.{Instr}
use Rattle.jk_model_classes.specs.declared.records.ClassRecord.{ClassRecord}
use Rattle.jk_model_classes.specs.declared.records.MethodRecord.{MethodRecord}
use Rattle.class_lemmas.proofs.OneRecord.{one_method}
use Rattle.jk_model_frames.specs.Frames.{FrameState, called_frame}
use Rattle.jk_model_heaps.specs.CalledFrames.{call_head}
use Rattle.jk_model_typing.specs.Scopes.{CodeScope, IsScopeOf}
use Rattle.typing_lemmas.proofs.OneScope.{one-scope}
use Rattle.frame_store.specs.FrameContents.{Calls, FrameContent, HasArguments}
use Rattle.step_contents.specs.Conditions.{MayDo}
use Rattle.step_contents.specs.Contents.{Contents, Here}
use Rattle.step_contents.specs.PlacesInCode.{PlaceInCode}
use Rattle.step_contents.specs.StandingTops.{StandsThere}
use Rattle.call_ops.specs.FramesRun.{HasFirst, HasParams}

-- the typing of the code has a first frame, and as many frames as there are instructions
pub has_first : {old : Contents} {here : Here} {at : PlaceInCode} (may : MayDo old here at) (t : List ClassRecord) (same : t ≡ here.world.classes)
    (m : MemberId) → HasFirst t m
has_first {old} {here} {at} may t same m = λ scope is.
    let known : IsScopeOf here.world.classes m scope = subst (λ (l : List ClassRecord). IsScopeOf l m scope) same is in
    let typing = (may.domain.codes.typed m scope known).1.typing in
    let one : typing.scope ≡ scope = one-scope here.world.classes m typing.scope scope typing.scope_is known in
    let low = slice_get_within _ 0 (Some typing.first.0) typing.first.1 in
    let long : length typing.scope.code.instrs ≡ length scope.code.instrs = ap (λ (s : CodeScope). length s.code.instrs) one in
    omega (arith, low, typing.as_many, long)

pub stands_first : (classes : List ClassRecord) (old new : FrameContent) (s : SegmentNo) (m : MemberId) (given : ℕ) (scope : CodeScope)
    → IsScopeOf classes m scope → (head : FrameHead) → head ≡ call_head m scope.code → HasArguments old s (call_head m scope.code) given
    → Calls old new s head given → (instr : Instr) → slice_get scope.code.instrs 0 ≡ Some instr
    → StandsThere new classes s (record { head = head; scope = scope; instr = instr })
stands_first classes old new s m given scope is head begins (f, top, below, values, stack, many, fits) calls instr there =
    let departed : FrameState = record f { stack = below } in
    let called : FrameState = called_frame head values in
    let changes = calls f top below values stack many in
    record {
      frame = called;
      top = record {
        segment = record top.segment { frames = top.lower ++ departed ∷ called ∷ [] };
        is_there = changes.becomes;
        lower = top.lower ++ departed ∷ [];
        frames = sym (append_assoc top.lower (departed ∷ []) (called ∷ []));
      };
      head = refl;
      no_need = ap (λ (h : FrameHead). h.need) begins;
      place = record {
        method = m;
        is_method = ap (λ (h : FrameHead). h.method) begins;
        is_scope = is;
        stands = subst (λ (k : ℕ). slice_get scope.code.instrs k ≡ Some instr) (sym (ap (λ (h : FrameHead). h.at) begins)) there;
      };
    }

-- how many parameters a method has is told by the scope of its code
pub params_counted : (classes : List ClassRecord) (m : MemberId) (n : ℕ) → HasParams classes m n → (scope : CodeScope) → IsScopeOf classes m scope
    → n ≡ length scope.method.params
params_counted classes m n (method, is_method, count) scope is =
    count ∙ ap (λ (r : MethodRecord). length r.params) (one_method classes m method scope.method is_method (is.class, is.class_is, is.method))
