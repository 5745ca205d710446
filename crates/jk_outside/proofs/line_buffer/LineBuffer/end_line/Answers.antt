-- The line feed goes out with all that is held.
use Rattle.std.proofs.Common.{arith, rules}
use Rattle.std.proofs.lemmas.Result.{on_ok_weaker, on_err_weaker}
use Rattle.jk_outside.proofs.BufferFills.{IsHeld, line_sends, line_breaks}
use Rattle.jk_outside.proofs.line_buffer.LineBuffer.end_line.Goals as goal

pub returns-clause-sent : goal.returns-clause-sent
returns-clause-sent g c =
    let held : IsHeld c.self.inside.bytes c.args.self.now c.self.inside.len = record { size = search rules; within = omega arith; front = c.self.view_is } in
    on_ok_weaker c.write.result (line_sends _ _ _ _ _ _ _ 10 held c.write.ensures.handed) c.write.ensures.ok

pub returns-clause-part : goal.returns-clause-part
returns-clause-part g c =
    let held : IsHeld c.self.inside.bytes c.args.self.now c.self.inside.len = record { size = search rules; within = omega arith; front = c.self.view_is } in
    on_err_weaker c.write.result (line_breaks _ _ _ _ _ _ _ 10 held c.write.ensures.handed) c.write.ensures.part
