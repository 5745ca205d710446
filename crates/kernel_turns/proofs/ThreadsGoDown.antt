-- What has come of a thread, segment after segment, is a part of what comes of it.
use Rattle.std.proofs.Common.{◌≡◌, ℕ, suc, ◌+◌, ◌<◌, List, refl, subst, arith}
use Rattle.jk_model.specs.declared.identifiers.ThreadNo.{ThreadNo}
use Rattle.jk_model.specs.declared.output.Line.{Line}
use Rattle.jk_model.specs.declared.steps.Raise.{Raise}
use Rattle.jk_model_machine_state.specs.Machines.{Machine}
use Rattle.jk_model_crossings.specs.Throwing.{RaisesInThread}
use Rattle.domain_crossing.specs.PrintedOfThreads.{PrintedOf}
use Rattle.domain_crossing.specs.declared.answers.Left.{Left}
use Rattle.domain_crossing.specs.declared.answers.Left.TheVariants as Became
use Rattle.kernel_parts.specs.SoundKernels.{KernelContent, kernel_machine}
use Rattle.kernel_turns.specs.GoingDown.{ComesOf, IsToldWell, MayGoDown}

-- Something is raised still only while segments are left.
abbrev pub weight : Left → ℕ → ℕ
weight Became.Delivered n = 0
weight (Became.Raised r) n = suc n
weight Became.Ended n = 0
weight (Became.EndedBy c) n = 0

pub lighter : (left : Left) (old new : ℕ) → ((r : Raise) → left ≡ Became.Raised r → new < old) → weight left new < suc old
lighter Became.Delivered old new h = omega arith
lighter (Became.Raised r) old new h = let less = h r refl in omega (arith, less)
lighter Became.Ended old new h = omega arith
lighter (Became.EndedBy c) old new h = omega arith

-- from the first parts, where the thread may go down, to these
pub record IsFarDown (first : KernelContent) (t : ThreadNo) (at_first : Left) (now : KernelContent) (left : Left) : Type 0 where
  pub may : MayGoDown first t at_first → MayGoDown now t left
  pub done : MayGoDown first t at_first → ℕ
  pub comes : (h : MayGoDown first t at_first) (n : ℕ) (lines : List Line) (new : Machine) → ComesOf (kernel_machine now) t left n lines new
      → ComesOf (kernel_machine first) t at_first (done h + n) lines new

none_added : (n : ℕ) → n ≡ 0 + n
none_added n = omega arith

pub none_down : (k : KernelContent) (t : ThreadNo) (left : Left) → IsFarDown k t left k left
none_down k t left = record {
  may = λ h. h;
  done = λ h. 0;
  comes = λ h n lines new c. subst (λ (x : ℕ). ComesOf (kernel_machine k) t left x lines new) (none_added n) c;
}

-- one more
module _ (first now then : KernelContent) (t : ThreadNo) (at_first : Left) (r : Raise) (left : Left)
    (far : IsFarDown first t at_first now (Became.Raised r)) (may : MayGoDown now t (Became.Raised r) → MayGoDown then t left)
    (comes : MayGoDown now t (Became.Raised r)
    → (k : ℕ) × ((n : ℕ) (lines : List Line) (new : Machine) → ComesOf (kernel_machine then) t left n lines new
    → RaisesInThread (kernel_machine now) t r (k + n) lines new)) where
  added : (a b n : ℕ) → a + (b + n) ≡ (a + b) + n
  added a b n = omega arith

  pub one_down : IsFarDown first t at_first then left
  one_down = record {
    may = λ h. may (far.may h);
    done = λ h. far.done h + (comes (far.may h)).0;
    comes = λ h n lines new c.
        subst (λ (x : ℕ). ComesOf (kernel_machine first) t at_first x lines new) (added (far.done h) (comes (far.may h)).0 n)
        (far.comes h ((comes (far.may h)).0 + n) lines new ((comes (far.may h)).1 n lines new c));
  }

-- what is told of it may be told
pub told_well : (k : KernelContent) (t : ThreadNo) (left : Left) → MayGoDown k t left → IsToldWell k.world.classes left
told_well k t Became.Delivered h = tt
told_well k t (Became.Raised r) h = tt
told_well k t Became.Ended h = tt
told_well k t (Became.EndedBy c) h = h.1

-- where nothing is raised any more, what is printed of it is what comes of it
pub comes_done : (k : KernelContent) (t : ThreadNo) (left : Left) (lines : List Line) → ((r : Raise) → left ≡ Became.Raised r → ⊥)
    → PrintedOf k.world.classes t left lines → ComesOf (kernel_machine k) t left 0 lines (kernel_machine k)
comes_done k t Became.Delivered lines not said = (refl, said, refl)
comes_done k t (Became.Raised r) lines not said = absurd (not r refl)
comes_done k t Became.Ended lines not said = (refl, said, refl)
comes_done k t (Became.EndedBy c) lines not said = (refl, said, refl)
