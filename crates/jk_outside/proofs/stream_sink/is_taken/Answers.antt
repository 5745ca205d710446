-- Each turn takes more of the piece, or nothing.
use Rattle.std.proofs.Common.{◌++◌, List, ℕ, Bor, take, sym, ap, ◌∙◌}
use Rattle.jk_outside.proofs.TakenInOrder.{Takes-append, Takes-kept, more_of}
use Rattle.jk_outside.proofs.stream_sink.is_taken.Goals as goal
use Rattle.jk_outside.proofs.stream_sink.is_taken.Goals.{in-Ok, in-Err+else-ne}

pub loop-try-preserved : goal.loop-try-preserved
loop-try-preserved g c =
    elim c.match-write.branch [
      | in-Ok w ↦ (
        c.loop-try.invariant.0 ++ take w.in-Ok.taken c.loop-try.rest.now,
        more_of c.args.piece.now c.loop-try.invariant.0 c.loop-try.rest.now w.in-Ok.taken c.loop-try.invariant.1
            ∙ ap (λ (rest : List ℕ). c.loop-try.invariant.0 ++ take w.in-Ok.taken c.loop-try.rest.now ++ rest) (sym w.split_at.ensures.back)
            ∙ ap (λ (rest : Bor (List ℕ)). c.loop-try.invariant.0 ++ take w.in-Ok.taken c.loop-try.rest.now ++ rest.now) (sym w.rest-is),
        Takes-append _ _ _ _ _ c.loop-try.invariant.2 w.in-Ok.ensures.bytes,
      )
      | in-Err+else-ne w ↦ (
        c.loop-try.invariant.0,
        c.loop-try.invariant.1 ∙ ap (λ (rest : Bor (List ℕ)). c.loop-try.invariant.0 ++ rest.now) (sym w.rest-is),
        Takes-kept _ _ _ _ c.loop-try.invariant.2 w.in-Err.ensures.bytes,
      )
    ]
