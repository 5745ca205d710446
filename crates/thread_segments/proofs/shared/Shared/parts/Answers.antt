-- Each list is that of its part of the state.
use Rattle.std.proofs.Common.{◌≤◌, List, ap, subst, sum_by, sym, ◌∙◌}
use Rattle.jk_model.specs.Capabilities.{last_number}
use Rattle.jk_model_sharing.specs.SharedStates.{SharedState}
use Rattle.std.specs.List.{flat_map}
use Rattle.jk_model_heaps.specs.Capabilities.{CapRange}
use Rattle.thread_segments.specs.declared.domains.DomainEntry.{DomainEntry}
use Rattle.thread_segments.specs.StateParts.{ArePartsOf, cap_parts, entry_parts, numbers_of}
use Rattle.thread_segments.proofs.PartsOfDomains.{domain_parts_are, numbers_few}
use Rattle.thread_segments.proofs.StatesByPart.{caps_are}
use Rattle.thread_segments.proofs.shared.Shared.parts.Goals as goal

pub domain_parts-requires : goal.domain_parts-requires
domain_parts-requires c =
    let s = c.self.inside in
    let P : List DomainEntry → Type 0 = λ es. sum_by numbers_of es ≤ last_number in
    subst P (sym c.as_slice.ensures.value) (numbers_few s.domains.items s.caps s.stubs.stubs s.names s.threads c.self.invariant)

pub returns : goal.returns
returns c =
    let s = c.self.inside in
    let Q : SharedState → Type 0 = λ x. ArePartsOf x (record {
      next_thread = c.next_thread.result;
      next_segment = c.next_segment.result;
      domains = c.in_ok-domain_parts.field-0;
      caps = c.in_ok-parts.field-0;
      names = c.in_ok-parts-2.field-0;
      threads = c.in_ok-parts-3.field-0;
    }) in
    subst Q c.self.view_is
    (record {
      next_thread = c.next_thread.ensures;
      next_segment = c.next_segment.ensures;
      domains =
          c.in_ok-domain_parts.ensures ∙ ap (λ (es : List DomainEntry). entry_parts 1 es) c.as_slice.ensures.value
          ∙ domain_parts_are s.domains.items s.caps s.stubs.stubs s.names s.threads c.self.invariant;
      caps =
          c.in_ok-parts.ensures
          ∙ ap (λ (rs : List CapRange). flat_map cap_parts rs)
          (sym (caps_are s.domains.items s.caps s.stubs.stubs s.names s.threads c.self.invariant.counted));
      names = c.in_ok-parts-2.ensures;
      threads = c.in_ok-parts-3.ensures;
    })
