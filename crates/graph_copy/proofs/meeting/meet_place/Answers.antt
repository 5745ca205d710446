-- What is kept at the place is met.
use Rattle.std.proofs.Common.{List, sym, subst, arith}
use Rattle.jk_model.specs.declared.values.Value.{Value}
use Rattle.graph_copy.specs.MetObjects.{Meets}
use Rattle.graph_copy.proofs.PlacesWalked.{has_item, kept_is_named, no_more_references, nothing_met, one_at_place}
use Rattle.graph_copy.proofs.meeting.meet_place.Goals as goal

pub is_kept-requires-clause-place : goal.is_kept-requires-clause-place
is_kept-requires-clause-place g c =
    let few = no_more_references c.args.t.now c.args.shape.now in omega (arith, few, c.requires.place)

pub is_kept-requires-clause-classes : goal.is_kept-requires-clause-classes
is_kept-requires-clause-classes g c = c.requires.walked.has_classes

pub read-v-requires : goal.read-v-requires
read-v-requires g c =
    has_item (g.H.ObjectStore.content c.args.store.now) c.args.t.now c.args.d c.args.a c.args.i c.args.shape.now c.requires.walked c.requires.place

pub returns-then-not-is_kept : goal.returns-then-not-is_kept
returns-then-not-is_kept g c = λ object live.
    nothing_met (g.H.ObjectStore.content c.args.store.now) c.args.t.now c.args.d c.args.a c.args.i c.args.shape.now c.args.head c.is_kept.result
    c.requires.walked c.requires.place c.is_kept.ensures c.if-not-is_kept.true object live

pub meet_value-requires-clause-named : goal.meet_value-requires-clause-named
meet_value-requires-clause-named g c =
    kept_is_named (g.H.ObjectStore.content c.args.store.now) c.args.t.now c.args.d c.args.a c.args.i c.args.shape.now c.is_kept.result
    c.read-v.result c.requires.walked c.requires.place c.is_kept.ensures c.if-not-is_kept.false c.read-v.ensures

pub returns : goal.returns
returns g c = λ object live.
    subst
    (λ (vs : List Value). Meets (g.H.ObjectStore.content c.args.store.now) (g.H.ObjectStore.content c.meet_value.new.store) c.args.d vs c.args.head
    c.meet_value.result)
    (sym (one_at_place (g.H.ObjectStore.content c.args.store.now) c.args.t.now c.args.d c.args.a c.args.i c.args.shape.now c.is_kept.result
    c.read-v.result c.requires.walked c.requires.place c.is_kept.ensures c.if-not-is_kept.false object live (c.read-v.ensures object live)))
    c.meet_value.ensures
