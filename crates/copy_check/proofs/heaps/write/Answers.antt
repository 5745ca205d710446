-- The value may stand at the place.
use Rattle.copy_check.proofs.ReadyStill.{ready_written, takes_item}
use Rattle.copy_check.proofs.heaps.write.Goals as goal

pub write-requires : goal.write-requires
write-requires g c =
    takes_item (g.H.ObjectStore.content c.args.store.now) c.args.t.now c.args.place.0 c.args.place.1 c.args.place.2 c.item-before.result c.args.v
    c.requires.domain c.requires.ready c.item-before.ensures.named c.item-before.ensures.value
    (c.are_of_kind.ensures c.if-not-are_of_kind.false) (c.is_known.ensures c.if-not-is_known.false).1
    (c.may_stand.ensures c.if-not-may_stand.false)

pub returns : goal.returns
returns g c =
    let takes = takes_item (g.H.ObjectStore.content c.args.store.now) c.args.t.now c.args.place.0 c.args.place.1 c.args.place.2 c.item-before.result c.args.v
    c.requires.domain c.requires.ready c.item-before.ensures.named c.item-before.ensures.value
    (c.are_of_kind.ensures c.if-not-are_of_kind.false) (c.is_known.ensures c.if-not-is_known.false).1
    (c.may_stand.ensures c.if-not-may_stand.false) in
    ready_written (g.H.ObjectStore.content c.args.store.now) (g.H.ObjectStore.content c.write.new.self) c.args.t.now c.args.place.0 c.args.place.1
    c.args.place.2 c.args.v c.requires.domain c.requires.ready takes (c.is_known.ensures c.if-not-is_known.false).0 c.write.ensures
