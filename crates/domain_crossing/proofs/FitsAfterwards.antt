-- Parts fit again where what domains share and the two stores are others, but for domains and stubs.
use Rattle.std.proofs.Common.{◌≡◌, ◌≢◌, ℕ, ◌+◌, inl, inr, List, Option, refl, sym, ap, ◌∙◌}
use Rattle.std.proofs.lemmas.Bool.{cases_eq}
use Rattle.jk_model.specs.declared.identifiers.DomainId.{DomainId}
use Rattle.jk_model.specs.declared.values.Value.{Value}
use Rattle.jk_model_classes.specs.declared.records.ClassRecord.{ClassRecord}
use Rattle.jk_model_domains.specs.OwnStates.{OwnState}
use Rattle.jk_model_heaps.specs.Heaps.{heap_words}
use Rattle.jk_model_sharing.specs.SharedStates.{SharedState}
use Rattle.object_store.specs.HeapContents.{HeapContent, IsSame}
use Rattle.frame_store.specs.FrameContents.{FrameContent}
use Rattle.heap_laws.proofs.CopiesCostTheSame.{copies_cost_their_reach}
use Rattle.graph_copy.specs.CopyAnswers.{Copies, graph_in}
use Rattle.machine_parts.specs.FittingParts.{AreFittingParts}
use Rattle.machine_parts.specs.MachineParts.{MachineParts}
use Rattle.domain_crossing.proofs.FitsAgain.{fits_again, same_owns, same_shared}
use Rattle.domain_crossing.proofs.FramesOfParts.{HaveFrames}

-- ---- Heaps: the store has the same domains, counts what its objects cost, and has marked none.

pub record KeepsWords (classes : List ClassRecord) (old new : HeapContent) : Type 0 where
  pub quotas : (d : DomainId) → new.quota d ≡ old.quota d
  pub words : (d : DomainId) → new.used d ≡ heap_words classes (new.heap d)
  pub calm : (d : DomainId) (a : ℕ) → new.mark d a ≡ 0

pub kept_itself : (p : MachineParts) → AreFittingParts p → KeepsWords p.world.classes p.heap p.heap
kept_itself p fit = record { quotas = λ d. refl; words = fit.used.words; calm = fit.calm }

pub same_content : (old new : HeapContent) → IsSame old new → new ≡ old
same_content old new same = λ i. record {
  pages = same.domains.pages i;
  took_all = same.domains.took_all i;
  quota = λ d. same.domains.quota d i;
  first_page = λ d. same.domains.first_page d i;
  used = λ d. same.used d i;
  heap = λ d. same.heap d i;
  mark = λ d a. same.mark d a i;
}

pub kept_same : (p : MachineParts) → AreFittingParts p → (new : HeapContent) → IsSame p.heap new → KeepsWords p.world.classes p.heap new
kept_same p fit new same = record {
  quotas = same.domains.quota;
  words = λ d. same.used d ∙ fit.used.words d ∙ ap (heap_words p.world.classes) (sym (same.heap d));
  calm = λ d a. same.mark d a ∙ fit.calm d a;
}

pub kept_copied : (p : MachineParts) → AreFittingParts p → (new : HeapContent) (from to : DomainId) (values answers : List Value)
    → Copies p.heap new p.world.classes from to values answers → KeepsWords p.world.classes p.heap new
kept_copied p fit new from to values answers copied = record {
  quotas = copied.becomes.domains.quota;
  words = words;
  calm = λ d a. copied.becomes.mark d a ∙ fit.calm d a;
}
  where
    words : (d : DomainId) → new.used d ≡ heap_words p.world.classes (new.heap d)
    words d = elim (cases_eq d.0 to.0) [
      | inl same ↦
          let number : d ≡ to = (λ i. record { 0 = same i }) in
          ap new.used number ∙ copied.becomes.uses ∙ ap (λ (n : ℕ). n + copied.words) (fit.used.words to)
          ∙ sym (copies_cost_their_reach p.world.classes (graph_in p.heap from values) (p.heap.heap to) (graph_in new to answers) copied.pairs
          copied.words copied.is_copy copied.costs)
          ∙ ap (λ (e : DomainId). heap_words p.world.classes (new.heap e)) (sym number)
      | inr differ ↦
          let other : d ≢ to = (λ e. differ (ap (λ (x : DomainId). x.0) e)) in
          copied.becomes.other_uses d other ∙ fit.used.words d ∙ ap (heap_words p.world.classes) (sym (copied.becomes.others d other))
    ]

-- ---- Frames, whatever the own states and the heaps are.

pub frames_of_any : (p : MachineParts) (owns : List (Option OwnState)) (heap : HeapContent) → HaveFrames p
    → HaveFrames (record { world = p.world; owns = owns; shared = p.shared; heap = heap; frames = p.frames })
frames_of_any p owns heap has = record {
  segments = record { each = has.segments.each; no_others = has.segments.no_others };
  chunks = has.chunks;
}

-- ---- All of it.

pub fits_after : (p : MachineParts) → AreFittingParts p → (shared : SharedState) (heap : HeapContent) (frames : FrameContent)
    → shared.domains ≡ p.shared.domains → shared.stubs ≡ p.shared.stubs → KeepsWords p.world.classes p.heap heap
    → ((d : DomainId) → frames.quota d ≡ p.frames.quota d)
    → HaveFrames (record { world = p.world; owns = p.owns; shared = shared; heap = heap; frames = frames })
    → AreFittingParts (record { world = p.world; owns = p.owns; shared = shared; heap = heap; frames = frames })
fits_after p fit shared heap frames domains stubs words quotas has =
    fits_again p fit p.owns shared heap frames (same_shared p.shared shared domains stubs) (same_owns p.owns) words.quotas quotas words.words has.chunks
    has.segments words.calm
