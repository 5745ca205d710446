-- What a log grows by in calls, one after another, where it is told.
use Rattle.std.proofs.Common.{◌≡◌, arith, true, List, [], ◌∷◌, ◌++◌, Option, Some, None, Result, Err, refl, sym, ap, ◌∙◌, append_assoc, append-nil}
use Rattle.std.proofs.lemmas.List.Elements.{Contains-append_left, Contains-append_right}
use Rattle.jk_model.proofs.EachItem.{all_append, all_weaker}
use Rattle.jk_outside.specs.Systems.{Step, Logs, LogsOnly, LogsFault}

pub LogsOnly-nil : (Is : Step → Type 0) (a : Option (List Step)) → LogsOnly Is a a
LogsOnly-nil Is None = tt
LogsOnly-nil Is (Some xs) = ([], ap Some (sym (append-nil xs)), tt)

pub LogsOnly-one : (Is : Step → Type 0) (a b : Option (List Step)) (step : Step) → Logs a b step → Is step → LogsOnly Is a b
LogsOnly-one Is None b step h is = tt
LogsOnly-one Is (Some xs) b step h is = (step ∷ [], h, (is, tt))

pub LogsOnly-after : (Is : Step → Type 0) (a b c : Option (List Step)) → LogsOnly Is a b → LogsOnly Is b c → LogsOnly Is a c
LogsOnly-after Is None b c h k = tt
LogsOnly-after Is (Some xs) None c (more, e, all) k = absurd cc
LogsOnly-after Is (Some xs) (Some ys) c (more, e, all) (rest, d, each) =
    let same : ys ≡ xs ++ more = cc in
    (more ++ rest, d ∙ ap (λ (t : List Step). Some (t ++ rest)) same ∙ ap Some (append_assoc xs more rest), all_append Is more rest all each)

pub LogsOnly-weaker : (Is Are : Step → Type 0) (a b : Option (List Step)) → ((s : Step) → Is s → Are s) → LogsOnly Is a b → LogsOnly Are a b
LogsOnly-weaker Is Are None b implies h = tt
LogsOnly-weaker Is Are (Some xs) b implies (more, e, all) = (more, e, all_weaker Is Are more implies all)

pub LogsFault-one : (a b : Option (List Step)) (step : Step) → Logs a b step → step.failed ≡ true → LogsFault a b
LogsFault-one None b step h failed = tt
LogsFault-one (Some xs) b step h failed = (step ∷ [], h, step, (0, omega arith, refl), failed)

pub LogsFault-front : (Is : Step → Type 0) (a b c : Option (List Step)) → LogsFault a b → LogsOnly Is b c → LogsFault a c
LogsFault-front Is None b c h k = tt
LogsFault-front Is (Some xs) None c (more, e, step, at, failed) k = absurd cc
LogsFault-front Is (Some xs) (Some ys) c (more, e, step, at, failed) (rest, d, each) =
    let same : ys ≡ xs ++ more = cc in (
      more ++ rest,
      d ∙ ap (λ (t : List Step). Some (t ++ rest)) same ∙ ap Some (append_assoc xs more rest),
      step,
      Contains-append_left more rest step at,
      failed,
    )

pub LogsFault-back : (Is : Step → Type 0) (a b c : Option (List Step)) → LogsOnly Is a b → LogsFault b c → LogsFault a c
LogsFault-back Is None b c h k = tt
LogsFault-back Is (Some xs) None c (more, e, all) k = absurd cc
LogsFault-back Is (Some xs) (Some ys) c (more, e, all) (rest, d, step, at, failed) =
    let same : ys ≡ xs ++ more = cc in (
      more ++ rest,
      d ∙ ap (λ (t : List Step). Some (t ++ rest)) same ∙ ap Some (append_assoc xs more rest),
      step,
      Contains-append_right more rest step at,
      failed,
    )

-- errors that are one answer are one
pub same_error : {T E : Type 0} (a b : E) → ◌≡◌ {A = Result T E} (Err a) (Err b) → a ≡ b
same_error a b e = cc
