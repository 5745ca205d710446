-- Typings of a method are those of its code in the method's scope; and what is told of a code over its kept locals holds of it.
use Rattle.std.proofs.Common.{◌≡◌, Bool, false, IsTrue, List, map, Option, Some, None, refl, sym, subst}
use Rattle.std.specs.Prelude.{IfOk, IfSome, Result, Ok, Err}
use Rattle.jk_model.specs.declared.identifiers.MemberId.{MemberId}
use Rattle.jk_model_classes.specs.declared.records.ClassRecord.{ClassRecord}
use Rattle.jk_model_classes.specs.declared.records.LinkedCode.{LinkedCode}
use Rattle.jk_model_typing.specs.declared.frames.FrameType.{FrameType}
use Rattle.jk_model_typing.specs.FrameTypes.{FrameFits}
use Rattle.jk_model_typing.specs.Scopes.{CodeScope, IsScopeOf}
use Rattle.jk_model_typing.specs.Typing.{IsLeastTyping, IsTyping}
use Rattle.typing_lemmas.proofs.OneScope.{one-scope}
use Rattle.touched_locals.specs.Narrowing.{IsNarrowed, with_code}
use Rattle.touched_locals.specs.TypingsIn.{IsLeastTypingIn, IsTypingIn}
use Rattle.touched_locals.proofs.TypingsWidened.{keep, least-wide, typing-narrow}

module _ (classes : List ClassRecord) (m : MemberId) (s : CodeScope) (is : IsScopeOf classes m s) where
  pub in-scope : (typing : List (Option FrameType)) → IsTyping classes m typing → IsTypingIn s typing
  in-scope typing types =
      let own : IsTypingIn types.scope typing = record {
        as_many = types.as_many;
        sized = types.sized;
        start = types.start;
        start_is = types.start_is;
        first = types.first;
        each = types.each;
      } in
      subst (λ (t : CodeScope). IsTypingIn t typing) (one-scope classes m types.scope s types.scope_is is) own

  of-method : (typing : List (Option FrameType)) → IsTypingIn s typing → IsTyping classes m typing
  of-method typing types = record {
    scope = s;
    scope_is = is;
    as_many = types.as_many;
    sized = types.sized;
    start = types.start;
    start_is = types.start_is;
    first = types.first;
    each = types.each;
  }

  pub least-of_method : (typing : List (Option FrameType)) → IsLeastTypingIn s typing → IsLeastTyping classes m typing
  least-of_method typing least = record {
    typing = of-method typing least.typing;
    least = λ other types place f at.
        let (g, g_at, fits) = least.least other (in-scope other types) place f at in
        (g, g_at, subst (λ (cs : List ClassRecord). FrameFits cs f g) is.all fits);
  }

  -- ---- Answers that may lack memory.

  pub typed-told : {E : Type 0} (r : Result Bool E) → IfOk r (λ yes. IsTrue yes → (frames : List (Option FrameType)) × IsLeastTypingIn s frames)
      → IfOk r (λ yes. IsTrue yes → (frames : List (Option FrameType)) × IsLeastTyping classes m frames)
  typed-told (Ok b) h = λ t. let (frames, least) = h t in (frames, least-of_method frames least)
  typed-told (Err e) h = tt

  pub none-told : {E : Type 0} (r : Result Bool E) → IfOk r (λ yes. yes ≡ false → (frames : List (Option FrameType)) → IsTypingIn s frames → ⊥)
      → IfOk r (λ yes. yes ≡ false → (frames : List (Option FrameType)) → IsTyping classes m frames → ⊥)
  none-told (Ok b) h = λ e frames types. h e frames (in-scope frames types)
  none-told (Err e) h = tt

module _ (s t : CodeScope) (marks : List Bool) (code : LinkedCode) (narrowed : IsNarrowed s marks code) (over : t ≡ with_code s code) where
  pub typed-over : {E : Type 0} (r : Result Bool E) → IfOk r (λ yes. IsTrue yes → (frames : List (Option FrameType)) × IsLeastTypingIn t frames)
      → IfOk r (λ yes. IsTrue yes → (frames : List (Option FrameType)) × IsLeastTypingIn s frames)
  typed-over (Ok b) h = λ y.
      let (frames, least) = h y in
      (_, least-wide s marks code narrowed frames (subst (λ (x : CodeScope). IsLeastTypingIn x frames) over least))
  typed-over (Err e) h = tt

  pub none-over : {E : Type 0} (r : Result Bool E) → IfOk r (λ yes. yes ≡ false → (frames : List (Option FrameType)) → IsTypingIn t frames → ⊥)
      → IfOk r (λ yes. yes ≡ false → (frames : List (Option FrameType)) → IsTypingIn s frames → ⊥)
  none-over (Ok b) h = λ e frames types.
      h e (map (keep marks) frames)
      (subst (λ (x : CodeScope). IsTypingIn x (map (keep marks) frames)) (sym over) (typing-narrow s marks code narrowed frames types))
  none-over (Err e) h = tt

-- the code that was narrowed is that of the scope
pub narrowed-here : {E : Type 0} (s : CodeScope) (r : Result (Option LinkedCode) E)
    → IfOk r (λ o. IfSome o (λ narrow. (t : CodeScope) → t.code ≡ s.code → t.method ≡ s.method → (marks : List Bool) × IsNarrowed t marks narrow))
    → IfOk r (λ o. IfSome o (λ narrow. (marks : List Bool) × IsNarrowed s marks narrow))
narrowed-here s (Ok None) h = tt
narrowed-here s (Ok (Some narrow)) h = h s refl refl
narrowed-here s (Err e) h = tt
