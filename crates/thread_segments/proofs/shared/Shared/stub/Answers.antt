-- The stub is that of the class that the target had.
use Rattle.std.proofs.Common.{◌∙◌}
use Rattle.thread_segments.proofs.StatesByPart.{stub_none, stub_some}
use Rattle.thread_segments.proofs.shared.Shared.stub.Goals as goal

pub returns-in-Some : goal.returns-in-Some
returns-in-Some c =
    let s = c.self.inside in
    rw (← c.self.view_is)
    (c.find.ensures ∙ stub_some s.domains.items s.caps s.stubs.stubs s.names s.threads c.self.invariant.counted c.args.k c.in-Some.class c.in-Some.ensures)

pub returns-in-None : goal.returns-in-None
returns-in-None c =
    let s = c.self.inside in
    rw (← c.self.view_is) (stub_none s.domains.items s.caps s.stubs.stubs s.names s.threads c.self.invariant.counted c.args.k c.in-None.ensures)
