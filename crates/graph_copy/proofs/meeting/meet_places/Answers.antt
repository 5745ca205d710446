-- What is followed at each place is met after what is followed before it.
use Rattle.std.proofs.Common.{◌≡◌, ◌<◌, List, sym, ap, ◌∙◌, subst, arith}
use Rattle.jk_model.specs.declared.values.Value.{Value}
use Rattle.jk_model_domains.specs.Objects.{NamedObject, object_named}
use Rattle.graph_copy.specs.MetObjects.{Meets}
use Rattle.graph_copy.specs.Places.{followed_at, followed_before, reference_count}
use Rattle.graph_copy.proofs.ObjectsMet.{has_met_still, meets_both, meets_none}
use Rattle.graph_copy.proofs.PlacesWalked.{all_met, more_met, no_names_before, walked_still}
use Rattle.graph_copy.proofs.meeting.meet_places.Goals as goal

pub loop-i-init : goal.loop-i-init
loop-i-init g c = λ object live.
    meets_none (g.H.ObjectStore.content c.args.store.now) c.args.d (followed_before c.args.t.now object 0) c.args.head
    (no_names_before c.args.t.now object)

pub meet_place-next-requires-clause-queue : goal.meet_place-next-requires-clause-queue
meet_place-next-requires-clause-queue g c =
    has_met_still (g.H.ObjectStore.content c.args.store.now) (g.H.ObjectStore.content c.loop-i.store) c.args.d
    (followed_before c.args.t.now c.requires.walked.object c.loop-i.i) c.args.head c.loop-i.next
    (c.loop-i.invariant c.requires.walked.object c.requires.walked.live) c.requires.queue

pub meet_place-next-requires-clause-walked : goal.meet_place-next-requires-clause-walked
meet_place-next-requires-clause-walked g c =
    walked_still (g.H.ObjectStore.content c.args.store.now) (g.H.ObjectStore.content c.loop-i.store) c.args.t.now c.args.d c.args.a c.args.shape.now
    ((c.loop-i.invariant c.requires.walked.object c.requires.walked.live).marks.heap c.args.d) c.requires.walked

pub meet_place-next-requires-clause-place : goal.meet_place-next-requires-clause-place
meet_place-next-requires-clause-place g c =
    let count : c.args.kind.now.references ≡ reference_count c.args.t.now c.args.shape.now = c.requires.kind.references in
    let within = c.loop-i-test.true in
    omega (arith, count, within)

pub loop-i-preserved : goal.loop-i-preserved
loop-i-preserved g c = λ object live.
    let within : c.loop-i.i < reference_count c.args.t.now c.args.shape.now =
    let count : c.args.kind.now.references ≡ reference_count c.args.t.now c.args.shape.now = c.requires.kind.references in
    let test = c.loop-i-test.true in
    omega (arith, count, test) in
    let before = c.loop-i.invariant object live in
    subst
    (λ (vs : List Value). Meets (g.H.ObjectStore.content c.args.store.now) (g.H.ObjectStore.content c.meet_place-next.new.store) c.args.d vs
    c.args.head c.meet_place-next.result)
    (sym (more_met (g.H.ObjectStore.content c.args.store.now) c.args.t.now c.args.d c.args.a c.loop-i.i c.args.shape.now object c.requires.walked
    within live))
    (meets_both (g.H.ObjectStore.content c.args.store.now) (g.H.ObjectStore.content c.loop-i.store)
    (g.H.ObjectStore.content c.meet_place-next.new.store) c.args.d (followed_before c.args.t.now object c.loop-i.i)
    (followed_at c.args.t.now object c.loop-i.i) c.args.head c.loop-i.next c.meet_place-next.result before
    (c.meet_place-next.ensures object
    (ap (λ (l : List NamedObject). object_named l c.args.a) (before.marks.heap c.args.d) ∙ live)))

pub returns : goal.returns
returns g c = λ object live.
    let end : c.loop-i.i ≡ c.args.kind.now.references = omega (arith, c.loop-i-test.false, c.loop-i.auto.i-end) in
    all_met (g.H.ObjectStore.content c.args.store.now) (g.H.ObjectStore.content c.loop-i.store) c.args.t.now c.args.d c.args.a c.loop-i.i
    c.args.shape.now c.args.head c.loop-i.next object (g.met.H.ObjectStore.holds c.args.store.now) c.requires.walked
    (end ∙ c.requires.kind.references) live (c.loop-i.invariant object live)
