-- No call but an admission brings stubs.
use Rattle.std.proofs.Common.{◌≡◌, ℕ, Option, refl}
use Rattle.std.specs.Prelude.{Result}
use Rattle.jk_model.specs.declared.identifiers.CapId.{CapId}
use Rattle.jk_model.specs.declared.identifiers.ClassId.{ClassId}
use Rattle.jk_model.specs.declared.identifiers.DomainId.{DomainId}
use Rattle.jk_model.specs.declared.identifiers.ThreadNo.{ThreadNo}
use Rattle.jk_model.specs.declared.steps.Raise.{Raise}
use Rattle.jk_model_sharing.specs.SharedStates.{SharedState}
use Rattle.thread_segments.specs.Answers.{Begins, CreatesFor, begins, has_stub, no_stub, refused}

pub where_one_begins : (s : SharedState) (d : DomainId) (o : Option ThreadNo) (new : SharedState) → Begins s d o new → new.stubs ≡ s.stubs
where_one_begins s d o new (refused never) = refl
where_one_begins s d o new (begins may) = refl

pub where_one_is_created : (s : SharedState) (d : DomainId) (class : ClassId) (target : ℕ) (answer : Result CapId Raise) (new : SharedState)
    → CreatesFor s d class target answer new → new.stubs ≡ s.stubs
where_one_is_created s d class target answer new (no_stub none) = refl
where_one_is_created s d class target answer new (has_stub stub e _ range has is creates) = refl
