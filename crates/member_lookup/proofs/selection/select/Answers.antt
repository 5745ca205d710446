-- Where there is no such method, no method runs for it.
use Rattle.std.proofs.Common.{None}
use Rattle.member_lookup.proofs.selection.select.Goals as goal

pub returns-in_err-called : goal.returns-in_err-called
returns-in_err-called c =
    (None, λ d there (i, runs). c.in_err-called.ensures.none runs.method runs.m_is, c.from_residual.ensures)
