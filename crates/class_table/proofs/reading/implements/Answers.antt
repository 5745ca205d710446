-- An interface is implemented where it is on the class's walk.
use Rattle.std.proofs.Common.{◌↔◌, Contains, IsTrue, sym}
use Rattle.std.proofs.lemmas.Bool.{false≢true}
use Rattle.class_table.proofs.ReadingIsRight.{implements-none, implements-some}
use Rattle.class_table.proofs.reading.implements.Goals as goal

pub returns-then-is_interface : goal.returns-then-is_interface
returns-then-is_interface c =
    let e = c.in-Some.entry.now in
    let found : IsTrue c.has_class.result ↔ Contains e.walk.classes c.args.i = rw c.as_slice.ensures at c.has_class.ensures in
    implements-some c.args.entries.now c.requires c.args.a c.args.i e (sym c.in-Some.ensures) c.has_class.result
    (c.is_interface.ensures.0 c.if-is_interface.true) found

pub returns-in-None : goal.returns-in-None
returns-in-None c = (
  (λ yes. absurd (false≢true yes)),
  (λ is. absurd (implements-none c.args.entries.now c.requires c.args.a c.args.i (sym c.in-None.ensures) is)),
)
