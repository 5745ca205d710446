-- Where a thread's top segment has run over the contents of the stores, it has run in the machine, and the parts fit again.
use Rattle.std.proofs.Common.{◌≡◌, ◌==◌, Bool, true, false, cond, List, [], ◌∷◌, ◌++◌, map, slice_set, Some, option_map, refl, sym, ap, ◌∙◌}
use Rattle.std.proofs.lemmas.List.{map-set}
use Rattle.jk_model.specs.declared.identifiers.DomainId.{DomainId}
use Rattle.jk_model.specs.declared.identifiers.ThreadNo.{ThreadNo}
use Rattle.jk_model_heaps.specs.Heaps.{heap_words}
use Rattle.jk_model_heaps.specs.Workings.{Inside, Run}
use Rattle.jk_model_machine_state.specs.Machines.{DomainState, Machine, Segment, with_inside, with_segments}
use Rattle.jk_model_machine_state.specs.Places.{LiveDomain, RunningSegment, with_run}
use Rattle.class_init.specs.KeptStates.{KeptState}
use Rattle.machine_parts.specs.ChangedParts.{AreSegmentsApart}
use Rattle.machine_parts.specs.FittingParts.{AreFittingParts, HaveOneList}
use Rattle.machine_parts.specs.MachineParts.{MachineParts, machine_of}
use Rattle.machine_parts.proofs.DomainsChanged.{heaps_change_machines, own_states_change_machines}
use Rattle.machine_parts.proofs.RunningChanged.{frames_run}
use Rattle.step_contents.specs.Contents.{Becomes, Contents}
use Rattle.kernel_parts.specs.SoundKernels.{KernelContent, kernel_machine, parts_of}
use Rattle.kernel_turns.specs.RunningPlaces.{RunsAt, contents_at, here_in}
use Rattle.kernel_turns.specs.SteppedParts.{with_left}
use Rattle.domain_crossing.proofs.DomainsByPlace.{home_of}
use Rattle.kernel_turns.proofs.PlacedThreads.{own_at, place}

-- ---- A domain that is set twice.

set_by : (b : Bool) (d : DomainId) (x y : Inside) (e : DomainState) → e.number.0 == d.0 ≡ b
    → cond ((cond b (record e { inside = Some y }) e).number.0 == d.0) (record (cond b (record e { inside = Some y }) e) { inside = Some x })
    (cond b (record e { inside = Some y }) e)
    ≡ cond b (record e { inside = Some x }) e
set_by true d x y e is = ap (λ (c : Bool). cond c (record e { inside = Some x }) (record e { inside = Some y })) is
set_by false d x y e is = ap (λ (c : Bool). cond c (record e { inside = Some x }) e) is

set_twice : (d : DomainId) (x y : Inside) (domains : List DomainState)
    → map (λ (e : DomainState). cond (e.number.0 == d.0) (record e { inside = Some x }) e)
    (map (λ (e : DomainState). cond (e.number.0 == d.0) (record e { inside = Some y }) e) domains)
    ≡ map (λ (e : DomainState). cond (e.number.0 == d.0) (record e { inside = Some x }) e) domains
set_twice d x y [] = refl
set_twice d x y (e ∷ domains) = λ i. set_by (e.number.0 == d.0) d x y e refl i ∷ set_twice d x y domains i

inside_twice : (d : DomainId) (x y : Inside) (m : Machine) → with_inside d x (with_inside d y m) ≡ with_inside d x m
inside_twice d x y m = ap (λ (ds : List DomainState). record m { domains = ds }) (set_twice d x y m.domains)

module _ (k : KernelContent) (t : ThreadNo) (at : RunsAt k t) (fit : AreFittingParts (parts_of k)) (apart : AreSegmentsApart (kernel_machine k))
    (left : Contents) (before run : Run) (becomes : Becomes (contents_at at) left (here_in k at.segment) before run) where
  abbrev pub d : DomainId
  d = at.segment.domain

  abbrev pub one : HaveOneList (parts_of k)
  one = fit.domains

  abbrev pub p : RunningSegment (kernel_machine k) t
  p = place k t at one

  abbrev pub run_there : Segment
  run_there = record p.segment { frames = run.frames }

  -- ---- One part after the other.

  abbrev pub framed : MachineParts
  framed = record (parts_of k) { frames = left.frames }

  abbrev pub heaped : MachineParts
  heaped = record framed { heap = left.heaps }

  abbrev pub after : MachineParts
  after = record heaped { owns = slice_set (parts_of k).owns d.0 (Some left.own.state) }

  pub one_framed : HaveOneList framed
  one_framed = record {
    shared = one.shared;
    owns = one.owns;
    numbered = one.numbered;
    same_number = one.same_number;
    same_life = one.same_life;
  }

  pub one_heaped : HaveOneList heaped
  one_heaped = record {
    shared = one.shared;
    owns = one.owns;
    numbered = one.numbered;
    same_number = one.same_number;
    same_life = one.same_life;
  }

  is_framed : machine_of framed ≡ with_segments t (p.lower ++ run_there ∷ []) (with_inside d p.home.inside (kernel_machine k))
  is_framed =
      frames_run (parts_of k) left.frames t p d run.frames becomes.frames.used one apart
      becomes.frames.changes

  abbrev pub home_framed : LiveDomain (machine_of framed) d
  home_framed = home_of framed one_framed d at.own.state (own_at k t at one)

  is_heaped : machine_of heaped ≡ with_inside d (record home_framed.inside { heap = run.inside.heap }) (machine_of framed)
  is_heaped =
      heaps_change_machines framed left.heaps d run.inside.heap (heap_words k.world.classes run.inside.heap) home_framed one_framed
      becomes.inside.heaps

  abbrev pub home_heaped : LiveDomain (machine_of heaped) d
  home_heaped = home_of heaped one_heaped d at.own.state (own_at k t at one)

  is_after : machine_of after ≡ with_inside d (record home_heaped.inside { own = left.own.state }) (machine_of heaped)
  is_after = own_states_change_machines heaped left.own.state d home_heaped one_heaped

  pub has_run : machine_of after ≡ with_run p run
  has_run =
      is_after ∙ ap (λ (x : Inside). with_inside d x (machine_of heaped)) (sym becomes.inside.is_inside)
      ∙ ap (with_inside d run.inside) is_heaped
      ∙ inside_twice d run.inside (record home_framed.inside { heap = run.inside.heap }) (machine_of framed)
      ∙ ap (with_inside d run.inside) is_framed
      ∙ ap (with_segments t (p.lower ++ run_there ∷ [])) (inside_twice d run.inside p.home.inside (kernel_machine k))

  -- the parts that are left have these own states
  pub owns_after : (parts_of (with_left d (record { contents = left; shared = k.shared }) k)).owns ≡ slice_set (parts_of k).owns d.0 (Some left.own.state)
  owns_after = map-set (option_map (λ (own : KeptState). own.state)) k.owns d.0 (Some left.own)
