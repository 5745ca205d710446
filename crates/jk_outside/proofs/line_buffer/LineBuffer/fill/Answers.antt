-- What fits is held after the other bytes, or goes out with them.
use Rattle.std.proofs.Common.{arith, rules}
use Rattle.std.proofs.lemmas.Result.{on_ok_weaker, on_err_weaker}
use Rattle.jk_outside.proofs.BufferFills.{IsHeld, fits_at, length_held, full_sends, full_breaks, full_rest, short_sends, short_rest}
use Rattle.jk_outside.proofs.line_buffer.LineBuffer.fill.Goals as goal

pub returns-then-end-eq-PIECE-clause-sent : goal.returns-then-end-eq-PIECE-clause-sent
returns-then-end-eq-PIECE-clause-sent g c =
    let held : IsHeld c.self.inside.bytes c.args.self.now c.self.inside.len =
    record { size = search rules; within = omega arith; front = c.self.view_is } in
    let fits = fits_at _ _ _ _ _ held c.copy_from_slice.ensures.after c.requires in
    on_ok_weaker c.write.result (full_sends _ _ _ _ _ _ _ _ _ _ fits (omega arith) c.write.ensures.handed) c.write.ensures.ok

pub returns-then-end-eq-PIECE-clause-held : goal.returns-then-end-eq-PIECE-clause-held
returns-then-end-eq-PIECE-clause-held g c =
    let held : IsHeld c.self.inside.bytes c.args.self.now c.self.inside.len =
    record { size = search rules; within = omega arith; front = c.self.view_is } in
    let fits = fits_at _ _ _ _ _ held c.copy_from_slice.ensures.after c.requires in
    on_ok_weaker c.write.result (λ _. full_rest _ _ _ _ _ _ fits (omega arith)) c.write.ensures.ok

pub returns-then-end-eq-PIECE-clause-part : goal.returns-then-end-eq-PIECE-clause-part
returns-then-end-eq-PIECE-clause-part g c =
    let held : IsHeld c.self.inside.bytes c.args.self.now c.self.inside.len =
    record { size = search rules; within = omega arith; front = c.self.view_is } in
    let fits = fits_at _ _ _ _ _ held c.copy_from_slice.ensures.after c.requires in
    on_err_weaker c.write.result (full_breaks _ _ _ _ _ _ _ _ _ _ fits (omega arith) c.write.ensures.handed) c.write.ensures.part

pub returns-clause-sent : goal.returns-clause-sent
returns-clause-sent g c =
    let held : IsHeld c.self.inside.bytes c.args.self.now c.self.inside.len =
    record { size = search rules; within = omega arith; front = c.self.view_is } in
    let fits = fits_at _ _ _ _ _ held c.copy_from_slice.ensures.after c.requires in
    short_sends _ _ _ _ _ _ _ _ fits (omega (arith, length_held _ _ _ held))

pub returns-clause-held : goal.returns-clause-held
returns-clause-held g c =
    let held : IsHeld c.self.inside.bytes c.args.self.now c.self.inside.len =
    record { size = search rules; within = omega arith; front = c.self.view_is } in
    let fits = fits_at _ _ _ _ _ held c.copy_from_slice.ensures.after c.requires in
    short_rest _ _ _ _ _ _ _ fits (omega (arith, length_held _ _ _ held)) (omega arith)
