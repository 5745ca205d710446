-- A new object is good.
use Rattle.copy_check.proofs.ReadyStill.{ready_made}
use Rattle.copy_check.proofs.heaps.make.Goals as goal

pub returns : goal.returns
returns g c =
    ready_made (g.H.ObjectStore.content c.args.store.now) (g.H.ObjectStore.content c.make.new.self) c.args.t.now c.args.d c.in_ok-make.field-0
    c.args.shape c.requires.ready (c.has_classes.ensures c.if-not-has_classes.false) c.in_ok-make.ensures.ok
