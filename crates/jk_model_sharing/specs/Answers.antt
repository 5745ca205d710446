-- What is answered to a method of package jk that touches more than its own domain's inside: capabilities, bound names, and flags of
-- segments. What is asked for is done, and the answer is a value or none, or something to raise. All of it is over what domains share alone.
use Rattle.std.specs.Prelude.{◌≡◌, List, ℕ, Option, Some, None, Result, Ok, Err}
use Rattle.jk_model.specs.declared.identifiers.CapId.{CapId}
use Rattle.jk_model.specs.declared.identifiers.ClassId.{ClassId}
use Rattle.jk_model.specs.declared.identifiers.DomainId.{DomainId}
use Rattle.jk_model.specs.declared.identifiers.SegmentNo.{SegmentNo}
use Rattle.jk_model.specs.declared.steps.Raise.{Raise}
use Rattle.jk_model.specs.declared.values.Value.{Value}
use Rattle.jk_model.specs.declared.values.Value.TheVariants as Held
use Rattle.jk_model_heaps.specs.Capabilities.{CapRange}
use Rattle.jk_model_heaps.specs.Workings.{Request}
use Rattle.jk_model_heaps.specs.Workings.{Binds as AsksToBind, Creates as AsksToCreate, LooksUp as AsksToLookUp, Resumes as AsksToResume, Revokes as AsksToRevoke, Stops as AsksToStop, Suspends as AsksToSuspend, Unbinds as AsksToUnbind}
use Rattle.jk_model_sharing.specs.BoundNames.{Binds, BoundName, LooksUp, Unbinds}
use Rattle.jk_model_sharing.specs.CapabilityCalls.{Creates, Revokes}
use Rattle.jk_model_sharing.specs.SharedStates.{Resumes, SharedDomain, SharedState, Stops, Suspends, domain_numbered, with_caps}

-- ---- Answers as values.

abbrev pub Granted : Type 0
Granted = Result (Option Value) Raise

abbrev pub as_capability : Result CapId Raise → Granted
as_capability (Ok k) = Ok (Some (Held.Cap k))
as_capability (Err r) = Err r

abbrev pub as_nothing : Result (Unit {0}) Raise → Granted
as_nothing (Ok u) = Ok None
as_nothing (Err r) = Err r

-- a capability, or null
abbrev pub as_reference : Option CapId → Value
as_reference (Some k) = Held.Cap k
as_reference None = Held.Null

-- ---- What is answered to a domain.

pub data Answers (s : SharedState) (d : DomainId) : Request → Granted → SharedState → Type 0 where
  creates : (e : SharedDomain) (class : ClassId) (target : ℕ) (answer : Result CapId Raise) (range : CapRange) → domain_numbered s d ≡ Some e
      → Creates e.caps class target answer range → Answers s d (AsksToCreate class target) (as_capability answer) (with_caps d range s)
  revokes : (e : SharedDomain) (k : CapId) (answer : Result (Unit {0}) Raise) (range : CapRange) → domain_numbered s d ≡ Some e
      → Revokes e.caps k answer range → Answers s d (AsksToRevoke k) (as_nothing answer) (with_caps d range s)
  binds : (e : SharedDomain) (text : List ℕ) (k : CapId) (answer : Result (Unit {0}) Raise) (names : List BoundName)
      → domain_numbered s d ≡ Some e → Binds s.names e.quotas.names (record { text = text; cap = k; binder = d }) answer names
      → Answers s d (AsksToBind text k) (as_nothing answer) (record s { names = names })
  looks_up : (text : List ℕ) (found : Option CapId) → LooksUp s.names text found
      → Answers s d (AsksToLookUp text) (Ok (Some (as_reference found))) s
  unbinds : (text : List ℕ) (answer : Result (Unit {0}) Raise) (names : List BoundName) → Unbinds s.names d text answer names
      → Answers s d (AsksToUnbind text) (as_nothing answer) (record s { names = names })
  suspends : (n : SegmentNo) (new : SharedState) → Suspends s n new → Answers s d (AsksToSuspend n) (Ok None) new
  resumes : (n : SegmentNo) (new : SharedState) → Resumes s n new → Answers s d (AsksToResume n) (Ok None) new
  stops : (n : SegmentNo) (new : SharedState) → Stops s n new → Answers s d (AsksToStop n) (Ok None) new
