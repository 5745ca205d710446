-- The end of a domain, by the script or by itself: it gives its whole heap back, its capabilities are revoked, the names that it bound are
-- removed, and its segments are taken out of every thread.
use Rattle.std.specs.Prelude.{◌≡◌, true, false, not, Bool, List, [], ◌∷◌, filter, map, None}
use Rattle.jk_model.specs.declared.identifiers.DomainId.{DomainId}
use Rattle.jk_model.specs.declared.output.Line.{Line}
use Rattle.jk_model.specs.declared.output.Line.TheVariants.{EndedByKill, Killed}
use Rattle.jk_model_sharing.specs.BoundNames.{without_names_of}
use Rattle.jk_model_sharing.specs.CapabilityCalls.{all_revoked}
use Rattle.jk_model_sharing.specs.Segments.{segments_left}
use Rattle.jk_model_machine_state.specs.Machines.{DomainState, IsLiveDomain, Machine, Thread, segment_form, with_domain, with_stacks}

abbrev pub ended_domain : DomainState → DomainState
ended_domain d = record d { caps = all_revoked d.caps; inside = None }

abbrev pub has_segments : Thread → Bool
has_segments t = elim t.segments as (λ _. Bool) [ [] ↦ false | s ∷ more ↦ true ]

-- all threads without the domain's segments, those also that have none left
abbrev pub without_segments_of : DomainId → Machine → Machine
without_segments_of d m = with_stacks (segments_left segment_form d) m

-- The lines of the threads that have no segment left stand after that of the domain, in rising number.
pub record Terminates (m : Machine) (d : DomainState) (lines : List Line) (new : Machine) : Type 0 where
  pub live : IsLiveDomain d
  pub cut : Machine
  pub is_cut : cut ≡ without_segments_of d.number (with_domain d.number ended_domain m)
  pub leads : new ≡ record cut { names = without_names_of d.number cut.names; threads = filter has_segments cut.threads }
  pub said : lines ≡ Killed d.name ∷ map (λ (t : Thread). EndedByKill t.number) (filter (λ (t : Thread). not (has_segments t)) cut.threads)
