-- By the capability, and by the class that its target had.
use Rattle.std.proofs.Common.{◌≡◌, List, Ok, Err, option_map, sym, ap, subst, ◌∙◌}
use Rattle.std.proofs.lemmas.Option.{same_Some}
use Rattle.jk_model.specs.declared.capabilities.CapStatus.{CapStatus}
use Rattle.jk_model.specs.declared.identifiers.ClassId.{ClassId}
use Rattle.jk_model_classes.specs.declared.records.ClassRecord.{ClassRecord}
use Rattle.jk_model_heaps.specs.Capabilities.{OwnedCapability}
use Rattle.jk_model_sharing.specs.CapabilityCalls.{status_of}
use Rattle.domain_crossing.specs.CalleesFound.{FindsCallee, FindsHead}
use Rattle.domain_crossing.proofs.callees.find_callee.Goals as goal

pub returns-then-status : goal.returns-then-status
returns-then-status c = λ known is.
    let same : c.in-Some.status ≡ status_of known =
    same_Some c.in-Some.status (status_of known) (sym c.in-Some.is ∙ c.status.ensures ∙ ap (option_map status_of) is) in
    FindsCallee.is_revoked (ap (λ (s : CapStatus). s.revoked) (sym same) ∙ c.if-status.true)

pub returns-in-Ok : goal.returns-in-Ok
returns-in-Ok c = λ known is.
    let same : c.in-Some.status ≡ status_of known =
    same_Some c.in-Some.status (status_of known) (sym c.in-Some.is ∙ c.status.ensures ∙ ap (option_map status_of) is) in
    let class : c.in-Some-capability_class.class ≡ known.capability.class =
    same_Some c.in-Some-capability_class.class known.capability.class
    (sym c.in-Some-capability_class.is ∙ c.capability_class.ensures ∙ ap (option_map (λ (o : OwnedCapability). o.capability.class)) is) in
    subst (λ (s : CapStatus). FindsCallee c.args.w.now.classes known c.args.method
    (Ok (record { owner = s.owner; target = s.target; head = c.in-Ok.head }))) (sym same)
    (FindsCallee.runs c.in-Ok.head (ap (λ (s : CapStatus). s.revoked) (sym same) ∙ c.if-status.false)
    (subst (λ (k : ClassId). FindsHead c.args.w.now.classes k c.args.method (Ok c.in-Ok.head)) class
    (subst (λ (cs : List ClassRecord). FindsHead cs c.in-Some-capability_class.class c.args.method (Ok c.in-Ok.head)) c.classes.ensures c.in-Ok.ensures)))

pub returns-in-Err : goal.returns-in-Err
returns-in-Err c = λ known is.
    let same : c.in-Some.status ≡ status_of known =
    same_Some c.in-Some.status (status_of known) (sym c.in-Some.is ∙ c.status.ensures ∙ ap (option_map status_of) is) in
    let class : c.in-Some-capability_class.class ≡ known.capability.class =
    same_Some c.in-Some-capability_class.class known.capability.class
    (sym c.in-Some-capability_class.is ∙ c.capability_class.ensures ∙ ap (option_map (λ (o : OwnedCapability). o.capability.class)) is) in
    FindsCallee.fails c.in-Err.class (ap (λ (s : CapStatus). s.revoked) (sym same) ∙ c.if-status.false)
    (subst (λ (k : ClassId). FindsHead c.args.w.now.classes k c.args.method (Err c.in-Err.class)) class
    (subst (λ (cs : List ClassRecord). FindsHead cs c.in-Some-capability_class.class c.args.method (Err c.in-Err.class)) c.classes.ensures c.in-Err.ensures))
