-- Each value is met after those before it.
use Rattle.std.proofs.Common.{[], ◌∷◌, List, None, take, sym, subst}
use Rattle.jk_model.specs.declared.values.Value.{Value}
use Rattle.list_lemmas.proofs.ItemsOfLists.{Contains-at}
use Rattle.graph_copy.specs.MetObjects.{Meets}
use Rattle.graph_copy.proofs.ObjectsMet.{has_met_still, meets_both, one_is_named, one_more_value}
use Rattle.graph_copy.proofs.meeting.meet_given.Goals as goal

pub meet_value-head-requires-clause-queue : goal.meet_value-head-requires-clause-queue
meet_value-head-requires-clause-queue g c =
    has_met_still (g.H.ObjectStore.content c.args.store.now) (g.H.ObjectStore.content c.loop-i.store) c.args.d (take c.loop-i.i c.args.values.now)
    None c.loop-i.head c.loop-i.invariant c.requires.queue

pub meet_value-head-requires-clause-named : goal.meet_value-head-requires-clause-named
meet_value-head-requires-clause-named g c =
    one_is_named (g.H.ObjectStore.content c.args.store.now) (g.H.ObjectStore.content c.loop-i.store) c.args.d c.args.values.now c.get.result
    (c.loop-i.invariant.marks.heap c.args.d) (Contains-at c.args.values.now c.loop-i.i c.get.result c.get.ensures) c.requires.named

pub loop-i-preserved : goal.loop-i-preserved
loop-i-preserved g c =
    subst
    (λ (vs : List Value). Meets (g.H.ObjectStore.content c.args.store.now) (g.H.ObjectStore.content c.meet_value-head.new.store) c.args.d vs None
    c.meet_value-head.result) (sym (one_more_value c.args.values.now c.loop-i.i c.get.result c.get.ensures))
    (meets_both (g.H.ObjectStore.content c.args.store.now) (g.H.ObjectStore.content c.loop-i.store)
    (g.H.ObjectStore.content c.meet_value-head.new.store) c.args.d (take c.loop-i.i c.args.values.now) (c.get.result ∷ []) None c.loop-i.head
    c.meet_value-head.result c.loop-i.invariant c.meet_value-head.ensures)
