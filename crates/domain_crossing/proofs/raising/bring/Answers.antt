-- By the class of the throwable, and by what comes of it.
use Rattle.std.proofs.Common.{◌≡◌, true, false, List, sym, subst, ◌∙◌}
use Rattle.jk_model.specs.declared.values.Value.{Value}
use Rattle.jk_model.specs.declared.values.Value.TheVariants as Held
use Rattle.jk_model_classes.specs.declared.records.ClassRecord.{ClassRecord}
use Rattle.jk_model_classes.specs.Classes.{IsSubclass}
use Rattle.jk_model_heaps.specs.SystemClasses.{THREAD_DEATH}
use Rattle.domain_crossing.specs.PassedValues.{Arrives, BringsSo, Crossing}
use Rattle.domain_crossing.proofs.raising.bring.Goals as goal

pub returns-then-is_subclass : goal.returns-then-is_subclass
returns-then-is_subclass g c =
    BringsSo.is_death
    (subst (λ (cs : List ClassRecord). IsSubclass cs c.args.class THREAD_DEATH) c.classes.ensures (c.is_subclass.ensures.0 c.if-is_subclass.true))

pub returns-in-As-Obj : goal.returns-in-As-Obj
returns-in-As-Obj g c =
    let x : Crossing = record { world = c.args.w.now; heap = g.H.ObjectStore.content c.args.heap.now; from = c.args.from; to = c.args.to } in
    let new = g.H.ObjectStore.content c.pass.new.heap in
    let alive : IsSubclass c.args.w.now.classes c.args.class THREAD_DEATH → ⊥ =
    λ d.
    let yes = c.is_subclass.ensures.1 (subst (λ (cs : List ClassRecord). IsSubclass cs c.args.class THREAD_DEATH) (sym c.classes.ensures) d) in
    let both : true ≡ false = sym yes ∙ c.if-is_subclass.false in
    cc in
    BringsSo.arrives c.in-As-Obj.copy new alive
    (subst (λ (u : Value). Arrives x (Held.Obj c.args.throwable) u new) c.in-As-Obj.field-0-is c.in-As-Obj.ensures)

pub returns-in-Uncopiable : goal.returns-in-Uncopiable
returns-in-Uncopiable g c =
    let new = g.H.ObjectStore.content c.pass.new.heap in
    let alive : IsSubclass c.args.w.now.classes c.args.class THREAD_DEATH → ⊥ =
    λ d.
    let yes = c.is_subclass.ensures.1 (subst (λ (cs : List ClassRecord). IsSubclass cs c.args.class THREAD_DEATH) (sym c.classes.ensures) d) in
    let both : true ≡ false = sym yes ∙ c.if-is_subclass.false in
    cc in
    BringsSo.is_uncopied new alive c.in-Uncopiable.ensures

pub returns-in-TooLarge : goal.returns-in-TooLarge
returns-in-TooLarge g c =
    let new = g.H.ObjectStore.content c.pass.new.heap in
    let alive : IsSubclass c.args.w.now.classes c.args.class THREAD_DEATH → ⊥ =
    λ d.
    let yes = c.is_subclass.ensures.1 (subst (λ (cs : List ClassRecord). IsSubclass cs c.args.class THREAD_DEATH) (sym c.classes.ensures) d) in
    let both : true ≡ false = sym yes ∙ c.if-is_subclass.false in
    cc in
    BringsSo.has_no_room new alive c.in-TooLarge.ensures
