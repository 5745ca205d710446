-- What a copy over the stores is to the machine: where a crossing may be made, what a copy asks is so of any two live domains, its answers are the
-- three ways in which a passage may go, and what it makes is the passage.
use Rattle.std.specs.Prelude.{ℕ, List}
use Rattle.std.specs.List.{AllByRecursion}
use Rattle.jk_model.specs.declared.identifiers.DomainId.{DomainId}
use Rattle.jk_model.specs.declared.values.Value.{Value}
use Rattle.jk_model_crossings.specs.Passages.{IsTooLarge, IsUncopiable, MayPass, Passes, passage}
use Rattle.jk_model_machine_state.specs.Places.{LiveDomain}
use Rattle.jk_model_machine_state.specs.Machines.{caps_of}
use Rattle.jk_model_sealing.specs.SealedInsides.{IsKnownValue}
use Rattle.object_store.specs.HeapContents.{HeapContent}
use Rattle.graph_copy.specs.declared.answers.CopyAnswer.TheVariants as Answered
use Rattle.graph_copy.specs.AskedOfCopies.{MayCopy}
use Rattle.graph_copy.specs.CopyAnswers.{Copies, CopyAnswers}
use Rattle.machine_parts.specs.FittingParts.{AreFittingParts}
use Rattle.machine_parts.specs.MachineParts.{MachineParts, machine_of}
use Rattle.domain_crossing.specs.AskedOfCrossings.{MayCross}

-- known values of a live domain may be copied to another, or to itself
abbrev pub CrossingsMayCopy : Type 0
CrossingsMayCopy =
    (p : MachineParts) (d e : DomainId) (giver : LiveDomain (machine_of p) d) (taker : LiveDomain (machine_of p) e) (values : List Value) → MayCross p
    → AllByRecursion (IsKnownValue (caps_of (machine_of p)) giver.inside.heap) values → MayCopy p.heap p.world d e values

pub record AnswersArePassages : Type 0 where
  pub copied : (p : MachineParts) (d e : DomainId) (giver : LiveDomain (machine_of p) d) (taker : LiveDomain (machine_of p) e) (values : List Value)
      → AreFittingParts p → CopyAnswers p.heap p.world d e values Answered.Copied → MayPass (passage giver taker values)
  pub uncopiable : (p : MachineParts) (d e : DomainId) (giver : LiveDomain (machine_of p) d) (taker : LiveDomain (machine_of p) e)
      (values : List Value) (a : ℕ) → AreFittingParts p → CopyAnswers p.heap p.world d e values (Answered.NotCopiable a)
      → IsUncopiable (passage giver taker values)
  pub too_large : (p : MachineParts) (d e : DomainId) (giver : LiveDomain (machine_of p) d) (taker : LiveDomain (machine_of p) e)
      (values : List Value) (n : ℕ) → AreFittingParts p → CopyAnswers p.heap p.world d e values (Answered.NoRoom n)
      → IsTooLarge (passage giver taker values)

abbrev pub CopiesArePassages : Type 0
CopiesArePassages =
    (p : MachineParts) (new : HeapContent) (d e : DomainId) (giver : LiveDomain (machine_of p) d) (taker : LiveDomain (machine_of p) e)
    (values answers : List Value) → AreFittingParts p → CopyAnswers p.heap p.world d e values Answered.Copied
    → Copies p.heap new p.world.classes d e values answers → Passes (passage giver taker values) (new.heap e) answers
