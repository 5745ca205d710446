-- What denies something that a domain asks for may be raised in it.
use Rattle.std.proofs.Common.{ℕ, List, Result, Ok, Err, refl, arith}
use Rattle.jk_model.specs.declared.identifiers.CapId.{CapId}
use Rattle.jk_model.specs.declared.identifiers.ClassId.{ClassId}
use Rattle.jk_model.specs.declared.identifiers.DomainId.{DomainId}
use Rattle.jk_model.specs.declared.steps.Raise.{Raise}
use Rattle.jk_model.specs.declared.steps.Raise.TheVariants as Raised
use Rattle.jk_model_classes.specs.declared.records.ClassRecord.{ClassRecord}
use Rattle.jk_model_domains.specs.Objects.{NamedObject}
use Rattle.jk_model_heaps.specs.Capabilities.{CapRange}
use Rattle.jk_model_heaps.specs.SystemClasses.{ILLEGAL_ARGUMENT_EXCEPTION}
use Rattle.jk_model_heaps.specs.Workings.{Request}
use Rattle.jk_model_sharing.specs.Answers.{Answers, Granted, as_capability, as_nothing, binds, creates, looks_up, resumes, revokes, stops, suspends, unbinds}
use Rattle.jk_model_sharing.specs.BoundNames.{Binds, BoundName, Unbinds, new_name, not_bound, not_own, of_another as bound_by_another, one_too_many, own_name, removed, too_long}
use Rattle.jk_model_sharing.specs.CapabilityCalls.{Creates, Revokes, has_room, of_another, own, used_up}
use Rattle.jk_model_sharing.specs.SharedStates.{SharedState}
use Rattle.heap_laws.specs.RaisableObjects.{MayBeRaised}
use Rattle.heap_laws.specs.SoundCodes.{AreSoundCodes}
use Rattle.row_laws.proofs.SystemParents.{below_listed}

module _ (classes : List ClassRecord) (sound : AreSoundCodes classes) (heap : List NamedObject) where
  abbrev Can : Raise → Type 0
  Can r = MayBeRaised classes heap r

  -- whatever the answer is, an error in it may be raised
  abbrev CanIn : {X : Type 0} → Result X Raise → Type 0
  CanIn (Ok answer) = Unit {0}
  CanIn (Err r) = Can r

  illegal : Can (Raised.Fresh ILLEGAL_ARGUMENT_EXCEPTION)
  illegal = (omega arith, below_listed classes sound 9 22 9 refl)

  created : (range : CapRange) (class : ClassId) (target : ℕ) (answer : Result CapId Raise) (new : CapRange)
      → Creates range class target answer new → CanIn answer
  created range class target answer new (used_up full) = tt
  created range class target answer new (has_room room) = tt

  revoked : (range : CapRange) (k : CapId) (answer : Result (Unit {0}) Raise) (new : CapRange) → Revokes range k answer new → CanIn answer
  revoked range k answer new (of_another other) = tt
  revoked range k answer new (own is) = tt

  bound : (names : List BoundName) (quota : ℕ) (asked : BoundName) (answer : Result (Unit {0}) Raise) (new : List BoundName)
      → Binds names quota asked answer new → CanIn answer
  bound names quota asked answer new (too_long long) = illegal
  bound names quota asked answer new (bound_by_another by short is other) = illegal
  bound names quota asked answer new (own_name by short is same) = tt
  bound names quota asked answer new (one_too_many short none full) = tt
  bound names quota asked answer new (new_name short none room) = tt

  unbound : (names : List BoundName) (d : DomainId) (text : List ℕ) (answer : Result (Unit {0}) Raise) (new : List BoundName)
      → Unbinds names d text answer new → CanIn answer
  unbound names d text answer new (not_own by is other) = tt
  unbound names d text answer new (removed by is same) = tt
  unbound names d text answer new (not_bound none) = tt

  as_capability_can : (answer : Result CapId Raise) → CanIn answer → CanIn (as_capability answer)
  as_capability_can (Ok k) h = tt
  as_capability_can (Err r) h = h

  as_nothing_can : (answer : Result (Unit {0}) Raise) → CanIn answer → CanIn (as_nothing answer)
  as_nothing_can (Ok u) h = tt
  as_nothing_can (Err r) h = h

  answer_can : (s : SharedState) (d : DomainId) (request : Request) (granted : Granted) (new : SharedState) → Answers s d request granted new
      → CanIn granted
  answer_can s d request granted new (creates e class target answer range is does) =
      as_capability_can answer (created e.caps class target answer range does)
  answer_can s d request granted new (revokes e k answer range is does) = as_nothing_can answer (revoked e.caps k answer range does)
  answer_can s d request granted new (binds e text k answer names is does) = as_nothing_can answer (bound s.names e.quotas.names _ answer names does)
  answer_can s d request granted new (looks_up text found is) = tt
  answer_can s d request granted new (unbinds text answer names does) = as_nothing_can answer (unbound s.names d text answer names does)
  answer_can s d request granted new (suspends n after does) = tt
  answer_can s d request granted new (resumes n after does) = tt
  answer_can s d request granted new (stops n after does) = tt

  pub denied_can : (s : SharedState) (d : DomainId) (request : Request) (r : Raise) (new : SharedState) → Answers s d request (Err r) new → Can r
  denied_can s d request r new answers = answer_can s d request (Err r) new answers
