-- A frame that catches has room for the throwable: the least typing of its method has the handler's frame.
use Rattle.std.proofs.Common.{◌≡◌, ℕ, suc, ◌≤◌, List, [], ◌∷◌, length, Some, slice_get, refl, sym, ap, subst, ◌∙◌, arith}
use Rattle.std.proofs.lemmas.Option.{same_Some}
use Rattle.list_lemmas.proofs.ItemsOfLists.{Contains-at}
use Rattle.jk_model.specs.declared.identifiers.MemberId.{MemberId}
use Rattle.jk_model_classes.specs.declared.records.Caught.{Caught}
use Rattle.jk_model_classes.specs.declared.records.ClassRecord.{ClassRecord}
use Rattle.jk_model_typing.specs.declared.frames.VType.{VType}
use Rattle.jk_model_typing.specs.FrameTypes.{EachFits}
use Rattle.jk_model_typing.specs.Scopes.{CodeScope, IsScopeOf}
use Rattle.jk_model_typing.specs.Typing.{caught_value}
use Rattle.typing_lemmas.proofs.OneScope.{one-scope}
use Rattle.jk_model_frames.specs.Frames.{FrameState}
use Rattle.jk_model_domains.specs.Objects.{NamedObject}
use Rattle.jk_model_heaps.specs.Workings.{Setting}
use Rattle.jk_model_sealing.specs.FittingFrames.{HasTyping}
use Rattle.jk_model_unwinding.specs.Unwinding.{Catches}
use Rattle.number_laws.proofs.ValuesFit.{long_slots}

as_many_fit : (classes : List ClassRecord) (ts us : List VType) → EachFits classes ts us → length ts ≡ length us
as_many_fit classes [] [] h = refl
as_many_fit classes [] (u ∷ us) h = absurd h
as_many_fit classes (t ∷ ts) [] h = absurd h
as_many_fit classes (t ∷ ts) (u ∷ us) h = ap suc (as_many_fit classes ts us h.1)

pub room_to_catch : (x : Setting) (heap : List NamedObject) (f : FrameState) (a : ℕ) (h : Caught) → HasTyping x.classes f → Catches x heap f a h
    → 1 ≤ f.head.max_stack
room_to_catch x heap f a h t c =
    let typing = t.is_least.typing in
    let method : c.code.method ≡ t.method = same_Some c.code.method t.method (sym c.code.is_method ∙ t.is_method) in
    let scope : c.code.scope ≡ typing.scope =
    one-scope x.classes t.method c.code.scope typing.scope
    (subst (λ (m : MemberId). IsScopeOf x.classes m c.code.scope) method c.code.is_scope) typing.scope_is in
    let own : t.scope ≡ typing.scope = one-scope x.classes t.method t.scope typing.scope t.is_scope typing.scope_is in
    let stands : slice_get typing.scope.code.instrs f.head.at ≡ Some c.code.instr =
    subst (λ (s : CodeScope). slice_get s.code.instrs f.head.at ≡ Some c.code.instr) scope c.code.stands in
    let listed : slice_get typing.scope.code.handlers c.place ≡ Some h =
    subst (λ (s : CodeScope). slice_get s.code.handlers c.place ≡ Some h) scope c.listed in
    let goes = typing.each f.head.at c.code.instr t.type stands t.stands in
    let to = goes.caught h (Contains-at typing.scope.code.handlers c.place h listed) c.covers in
    let sized = typing.sized h.handler to.0 to.1 in
    let many = as_many_fit typing.scope.classes (caught_value typing.scope h ∷ []) to.0.stack to.2.stack in
    let room : f.head.max_stack ≡ typing.scope.code.max_stack = t.room.1 ∙ ap (λ (s : CodeScope). s.code.max_stack) own in
    omega (arith, many, long_slots to.0.stack, sized.stack, room)
