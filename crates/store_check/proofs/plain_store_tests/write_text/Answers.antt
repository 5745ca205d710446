-- The text is there with the unit that was written.
use Rattle.std.proofs.Common.{pos, refl}
use Rattle.jk_model.specs.declared.values.Value.TheVariants as Held
use Rattle.store_check.proofs.TextWritten.{has_unit, live_written, still_live, written}
use Rattle.store_check.proofs.plain_store_tests.write_text.Goals as goal

pub set_mark-requires : goal.set_mark-requires
set_mark-requires g c =
    let old = g.H.ObjectStore.content c.args.heap.now in
    (written, live_written old (g.H.ObjectStore.content c.write.new.self) _ c.args.a c.requires.text c.write.ensures)

pub read-requires : goal.read-requires
read-requires g c =
    let old = g.H.ObjectStore.content c.args.heap.now in
    let mid = g.H.ObjectStore.content c.write.new.self in
    let new = g.H.ObjectStore.content c.set_mark.new.self in
    has_unit new c.args.t.now _ c.args.a 0 (Held.Int (pos 0))
    (still_live mid new _ c.args.a c.set_mark.ensures.heap (live_written old mid _ c.args.a c.requires.text c.write.ensures)) refl

pub read-requires-2 : goal.read-requires-2
read-requires-2 g c =
    let old = g.H.ObjectStore.content c.args.heap.now in
    let mid = g.H.ObjectStore.content c.write.new.self in
    let new = g.H.ObjectStore.content c.set_mark.new.self in
    has_unit new c.args.t.now _ c.args.a 1 (Held.Int (pos 65535))
    (still_live mid new _ c.args.a c.set_mark.ensures.heap (live_written old mid _ c.args.a c.requires.text c.write.ensures)) refl
