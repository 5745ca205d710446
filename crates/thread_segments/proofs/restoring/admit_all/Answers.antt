-- One more domain gets its range.
use Rattle.std.proofs.Common.{◌≤◌, ◌∙◌, List, [], add-one, ap, arith, length, map, refl, take_all}
use Rattle.std.proofs.lemmas.List.{length-map}
use Rattle.std.proofs.lemmas.Option.{slice_get-get_or}
use Rattle.jk_model_heaps.specs.Capabilities.{CapRange}
use Rattle.jk_model_sharing.specs.SharedStates.{SharedDomain, caps_of}
use Rattle.thread_segments.specs.declared.parts.DomainPart.{DomainPart}
use Rattle.thread_segments.specs.RestoredParts.{with_made}
use Rattle.thread_segments.specs.StateParts.{domain_part}
use Rattle.thread_segments.proofs.RestoredRanges.{next_range, no_range_yet, numbers_fit}
use Rattle.thread_segments.proofs.restoring.admit_all.Goals as goal

pub loop-place-init : goal.loop-place-init
loop-place-init c = λ s h. c.requires.none

pub admit-requires-clause-new : goal.admit-requires-clause-new
admit-requires-clause-new c =
    let s = c.requires.state.0 in
    let h = c.requires.state.1 in
    no_range_yet s h.sound c.args.domains.now h.told c.loop-place.place c.loop-place.caps (c.loop-place.invariant s h) c.loop-place.place refl

pub admit-requires-clause-numbers : goal.admit-requires-clause-numbers
admit-requires-clause-numbers c =
    let s = c.requires.state.0 in
    let h = c.requires.state.1 in
    let k = c.loop-place.place in
    let at = slice_get-get_or c.args.domains.now k _ c.loop-place-test.true in
    numbers_fit s h.sound c.args.domains.now h.told k c.loop-place.caps (c.loop-place.invariant s h) _ at

pub loop-place-preserved : goal.loop-place-preserved
loop-place-preserved c =
    λ s h.
    let k = c.loop-place.place in
    let at = slice_get-get_or c.args.domains.now k _ c.loop-place-test.true in
    rw (add-one k)
    (next_range s h.sound c.args.domains.now h.told k c.loop-place.caps (c.loop-place.invariant s h) _ at (record { 0 = k })
    refl c.admit.new.caps c.in_ok-admit.ensures)

pub returns : goal.returns
returns c =
    λ s h.
    let long : length (caps_of s) ≤ c.loop-place.place =
    omega (
      arith,
      length-map s.domains (λ (e : SharedDomain). e.caps),
      length-map s.domains domain_part,
      ap (λ (ps : List DomainPart). length ps) h.told,
    ) in
    c.loop-place.invariant s h ∙ ap (λ (rs : List CapRange). map (with_made []) rs) (take_all c.loop-place.place (caps_of s) long)
