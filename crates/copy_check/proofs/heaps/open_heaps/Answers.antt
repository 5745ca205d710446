-- One domain after the other is admitted.
use Rattle.copy_check.proofs.ReadyStill.{few_at_first, few_then, opened}
use Rattle.copy_check.proofs.heaps.open_heaps.Goals as goal

pub admit-requires-clause-few : goal.admit-requires-clause-few
admit-requires-clause-few g c = few_at_first (g.H.ObjectStore.content c.args.store.now) c.requires

pub admit-requires-2-clause-few : goal.admit-requires-2-clause-few
admit-requires-2-clause-few g c =
    few_then (g.H.ObjectStore.content c.args.store.now) (g.H.ObjectStore.content c.admit.new.self) c.args.words.0 c.requires c.in_ok-admit.ensures.ok

pub returns : goal.returns
returns g c =
    opened (g.H.ObjectStore.content c.args.store.now) (g.H.ObjectStore.content c.admit.new.self) (g.H.ObjectStore.content c.admit-2.new.self)
    c.args.t.now c.args.words.0 c.args.words.1 c.in_ok-admit.ensures.ok c.in_ok-admit-2.ensures.ok
