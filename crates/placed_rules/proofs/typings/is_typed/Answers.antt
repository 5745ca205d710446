-- A linked code without a typing is what C23 refuses.
use Rattle.std.proofs.Common.{◌≡◌, Bool, true, false, not, IsTrue, List, Option, refl}
use Rattle.std.specs.Prelude.{IfOk, Result, Ok, Err}
use Rattle.jk_model.specs.declared.identifiers.MemberId.{MemberId}
use Rattle.jk_model_classes.specs.declared.records.Body.TheVariants.{Linked}
use Rattle.jk_model_classes.specs.declared.records.ClassRecord.{ClassRecord}
use Rattle.jk_model_classes.specs.declared.records.LinkedCode.{LinkedCode}
use Rattle.jk_model_classes.specs.declared.records.MethodRecord.{MethodRecord}
use Rattle.jk_model_typing.specs.declared.frames.FrameType.{FrameType}
use Rattle.jk_model_typing.specs.Typing.{IsTyping}
use Rattle.placed_rules.specs.Codes.{IsUntypedAt}
use Rattle.placed_rules.proofs.typings.is_typed.Goals as goal

untyped-told : {E : Type 0} (classes : List ClassRecord) (m : MemberId) (method : MethodRecord) (code : LinkedCode) (r : Result Bool E)
    → method.body ≡ Linked code → IfOk r (λ b. b ≡ false → (frames : List (Option FrameType)) → IsTyping classes m frames → ⊥)
    → IfOk r (λ b. IsTrue (not b) → IsUntypedAt classes m method)
untyped-told classes m method code (Ok true) linked none = λ no. let z : false ≡ true = no in absurd cc
untyped-told classes m method code (Ok false) linked none = λ no. (code, linked, none refl)
untyped-told classes m method code (Err e) linked none = tt

pub returns-in-Linked-clause-untyped : goal.returns-in-Linked-clause-untyped
returns-in-Linked-clause-untyped c =
    untyped-told c.args.t.now c.args.m c.args.method.now c.in-Linked.field-0 c.has_typing.result c.in-Linked.is c.has_typing.ensures.none
