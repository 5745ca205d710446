-- What a copy over the stores is to the machine: its answers are the ways in which a passage may go, and what it makes is the passage.
use Rattle.std.proofs.Common.{◌≡◌, ℕ, ◌-◌, ◌<◌, ◌≤◌, List, [], Option, sym, ap, subst, ◌∙◌}
use Rattle.std.specs.Option.{option_map_or}
use Rattle.jk_model.specs.declared.identifiers.DomainId.{DomainId}
use Rattle.jk_model.specs.declared.values.Value.{Value}
use Rattle.jk_model_classes.specs.Worlds.{DomainRecord}
use Rattle.jk_model_heaps.specs.Heaps.{free_words}
use Rattle.jk_model_heaps.specs.Workings.{Inside}
use Rattle.jk_model_crossings.specs.Passages.{IsTooLarge, IsUncopiable, MayPass, Passage, Passes, passage}
use Rattle.jk_model_machine_state.specs.Machines.{DomainState}
use Rattle.jk_model_machine_state.specs.Places.{LiveDomain}
use Rattle.object_store.specs.HeapContents.{HeapContent, words_left}
use Rattle.graph_copy.specs.declared.answers.CopyAnswer.TheVariants as Answered
use Rattle.graph_copy.specs.AskedOfCopies.{table_of}
use Rattle.graph_copy.specs.CopyAnswers.{Copies, CopyAnswers}
use Rattle.machine_parts.specs.FittingParts.{AreFittingParts}
use Rattle.machine_parts.specs.MachineParts.{MachineParts, machine_of}
use Rattle.machine_parts.proofs.DomainsOfParts.{live_domain_is_of_parts}

-- ---- A live domain's heap and table are those of the parts.

pub heap_is : (p : MachineParts) (d : DomainId) (l : LiveDomain (machine_of p) d) → AreFittingParts p → p.heap.heap d ≡ l.inside.heap
heap_is p d l fit = let found = live_domain_is_of_parts p d l fit.domains in sym (ap (λ (x : Inside). x.heap) found.5)

pub table_is : (p : MachineParts) (d : DomainId) (l : LiveDomain (machine_of p) d) → AreFittingParts p → table_of p.world d ≡ l.domain.table
table_is p d l fit =
    let found = live_domain_is_of_parts p d l fit.domains in
    ap (λ (o : Option DomainRecord). option_map_or (λ (r : DomainRecord). r.table) o []) found.3.is_named
    ∙ sym (ap (λ (x : DomainState). x.table) found.4)

-- ---- The passage between two live domains, by the parts.

abbrev by_parts : (p : MachineParts) (d e : DomainId) → ℕ → List Value → Passage
by_parts p d e quota values = record {
  classes = p.world.classes;
  from = table_of p.world d;
  to = table_of p.world e;
  source = record { heap = p.heap.heap d; values = values };
  target = p.heap.heap e;
  quota = quota;
}

same_passage : (p : MachineParts) (d e : DomainId) (giver : LiveDomain (machine_of p) d) (taker : LiveDomain (machine_of p) e) (values : List Value)
    → AreFittingParts p → by_parts p d e taker.domain.quotas.heap values ≡ passage giver taker values
same_passage p d e giver taker values fit =
    λ i. record {
      classes = p.world.classes;
      from = table_is p d giver fit i;
      to = table_is p e taker fit i;
      source = record { heap = heap_is p d giver fit i; values = values };
      target = heap_is p e taker fit i;
      quota = taker.domain.quotas.heap;
    }

-- what is left of a live domain's words
left_is : (p : MachineParts) (e : DomainId) (l : LiveDomain (machine_of p) e) → AreFittingParts p
    → words_left p.heap e ≡ free_words p.world.classes l.domain.quotas.heap (p.heap.heap e)
left_is p e l fit =
    ap (λ (q : Option ℕ). option_map_or (λ (n : ℕ). n - p.heap.used e) q 0) (fit.live.words e l)
    ∙ ap (λ (n : ℕ). l.domain.quotas.heap - n) (fit.used.words e)

module _ (p : MachineParts) (d e : DomainId) (giver : LiveDomain (machine_of p) d) (taker : LiveDomain (machine_of p) e) (values : List Value)
    (fit : AreFittingParts p) where
  abbrev own : Passage
  own = by_parts p d e taker.domain.quotas.heap values

  same : own ≡ passage giver taker values
  same = same_passage p d e giver taker values fit

  may_pass : CopyAnswers p.heap p.world d e values Answered.Copied → MayPass own
  may_pass h = (h.0, (h.1.0, h.1.1, subst (λ (n : ℕ). h.1.0 ≤ n) (left_is p e taker fit) h.1.2))

  pub answer_copied : CopyAnswers p.heap p.world d e values Answered.Copied → MayPass (passage giver taker values)
  answer_copied h = subst (λ (x : Passage). MayPass x) same (may_pass h)

  pub answer_uncopiable : (a : ℕ) → CopyAnswers p.heap p.world d e values (Answered.NotCopiable a) → IsUncopiable (passage giver taker values)
  answer_uncopiable a h = subst (λ (x : Passage). IsUncopiable x) same (a, h)

  pub answer_too_large : (n : ℕ) → CopyAnswers p.heap p.world d e values (Answered.NoRoom n) → IsTooLarge (passage giver taker values)
  answer_too_large n h =
      let large : IsTooLarge own = (h.0, (n, h.1, subst (λ (k : ℕ). k < n) (left_is p e taker fit) h.2)) in
      subst (λ (x : Passage). IsTooLarge x) same large

  pub copy_passes : (new : HeapContent) (answers : List Value) → CopyAnswers p.heap p.world d e values Answered.Copied
      → Copies p.heap new p.world.classes d e values answers → Passes (passage giver taker values) (new.heap e) answers
  copy_passes new answers h copied =
      let passes : Passes own (new.heap e) answers = record { may = may_pass h; pairs = copied.pairs; copy = copied.is_copy } in
      subst (λ (x : Passage). Passes x (new.heap e) answers) same passes
