-- What is left, and what is raised below after it, are together a case of `Returns` or of `Throws`.
use Rattle.std.proofs.Common.{◌≡◌, ℕ, suc, List, [], ◌∷◌, Option, refl, sym, ap, subst, ◌∙◌}
use Rattle.std.proofs.lemmas.Option.{same_Some}
use Rattle.jk_model.specs.declared.identifiers.ThreadNo.{ThreadNo}
use Rattle.jk_model.specs.declared.output.Line.{Line}
use Rattle.jk_model.specs.declared.output.Line.TheVariants as Says
use Rattle.jk_model.specs.declared.steps.Raise.{Raise}
use Rattle.jk_model.specs.declared.values.Value.{Value}
use Rattle.jk_model_classes.specs.declared.records.ClassRecord.{ClassRecord}
use Rattle.jk_model_machine_state.specs.Machines.{Machine}
use Rattle.jk_model_crossings.specs.Answers.{Returns}
use Rattle.jk_model_crossings.specs.Throwing.{RaisesInThread, Throws}
use Rattle.domain_crossing.specs.declared.answers.Left.{Left}
use Rattle.domain_crossing.specs.declared.answers.Left.TheVariants as Became
use Rattle.domain_crossing.specs.Crossings.{LeavesByReturn, LeavesByThrow, brings, drops, drops_throwable, ends, ends_orphan, gives, gives_nothing, is_too_large, is_uncaught, is_uncopiable}
use Rattle.domain_crossing.specs.PrintedOfThreads.{PrintedOf}

-- ---- Returns.

pub return_delivered : (m : Machine) (t : ThreadNo) (v : Option Value) (new : Machine) → LeavesByReturn m t v Became.Delivered new → Returns m t v 1 [] new
return_delivered m t v new (drops w s orphan) = Returns.drops w s orphan
return_delivered m t v new (gives_nothing s other below received) = Returns.gives_nothing s other below received
return_delivered m t v new (gives x w s heap other below passes received) = Returns.gives x w s heap other below passes received

pub return_ended : (m : Machine) (t : ThreadNo) (v : Option Value) (new : Machine) (lines : List Line) → LeavesByReturn m t v Became.Ended new
    → PrintedOf m.classes t Became.Ended lines → Returns m t v 1 lines new
return_ended m t v new lines (ends w p lowest) printed =
    subst (λ (xs : List Line). Returns m t w 1 xs new) (sym printed) (Returns.ends w p lowest)

pub return_raised : (m : Machine) (t : ThreadNo) (v : Option Value) (r : Raise) (n : ℕ) (lines : List Line) (mid new : Machine)
    → LeavesByReturn m t v (Became.Raised r) mid → RaisesInThread mid t r n lines new → Returns m t v (suc n) lines new
return_raised m t v r n lines mid new (is_uncopiable w s below uncopiable) raised = Returns.is_uncopiable w s n lines new below uncopiable raised
return_raised m t v r n lines mid new (is_too_large w s below large) raised = Returns.is_too_large w s n lines new below large raised

-- ---- Throwables.

pub throw_delivered : (m : Machine) (t : ThreadNo) (a : ℕ) (new : Machine) → LeavesByThrow m t a Became.Delivered new → Throws t 1 m a [] new
throw_delivered m t a new (drops_throwable s orphan) = Throws.drops m a s orphan

pub throw_raised : (m : Machine) (t : ThreadNo) (a : ℕ) (r : Raise) (n : ℕ) (lines : List Line) (mid new : Machine)
    → LeavesByThrow m t a (Became.Raised r) mid → RaisesInThread mid t r n lines new → Throws t (suc n) m a lines new
throw_raised m t a r n lines mid new (brings s x other below brought) (RaisesInThread.caught p run raised) =
    Throws.caught m mid a s r below brought p run raised
throw_raised m t a r n lines mid new (brings s x other below brought) (RaisesInThread.goes_down p run b k more end raised thrown) =
    Throws.goes_on k m mid end a b more s r below brought p run raised thrown

pub throw_ended : (m : Machine) (t : ThreadNo) (a : ℕ) (left : Left) (new : Machine) (lines : List Line) → LeavesByThrow m t a left new
    → PrintedOf m.classes t left lines → ((r : Raise) → left ≡ Became.Raised r → ⊥) → Throws t 1 m a lines new
throw_ended m t a left new lines (is_uncaught p b lowest below) (r, is_class, printed) ended =
    let one : b.of_class ≡ r = same_Some b.of_class r (sym b.is_class ∙ is_class) in
    let same : Says.EndedBy t b.of_class.name ∷ [] ≡ lines = ap (λ (k : ClassRecord). Says.EndedBy t k.name ∷ []) one ∙ sym printed in
    subst (λ (xs : List Line). Throws t 1 m a xs new) same (Throws.ends m a p b lowest below)
throw_ended m t a left new lines (ends_orphan p lowest orphan) printed ended =
    subst (λ (xs : List Line). Throws t 1 m a xs new) (sym printed) (Throws.ends_orphan m a p lowest orphan)
throw_ended m t a left new lines (drops_throwable s orphan) printed ended =
    subst (λ (xs : List Line). Throws t 1 m a xs new) (sym printed) (Throws.drops m a s orphan)
throw_ended m t a left new lines (brings s r mid below brought) printed ended = absurd (ended r refl)
