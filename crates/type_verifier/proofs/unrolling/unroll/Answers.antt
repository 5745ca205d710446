-- One place more is unrolled, and its frame stands; at the end all are, and make the least typing.
use Rattle.std.proofs.Common.{◌≡◌, ◌∙◌, ℕ, ◌+◌, length, ap, refl, arith}
use Rattle.std.proofs.lemmas.List.{length_push}
use Rattle.std.proofs.lemmas.Option.{slice_get_read}
use Rattle.type_verifier.specs.Tasks.{scope_in}
use Rattle.type_verifier.proofs.LinesStand.{stands_begins}
use Rattle.type_verifier.proofs.UnrolledIsTyping.{unrolled_least}
use Rattle.type_verifier.proofs.UnrolledSoFar.{stands_at, unrolled_at}
use Rattle.type_verifier.proofs.unrolling.unroll.Goals as goal

pub left_by-requires-clause-begins : goal.left_by-requires-clause-begins
left_by-requires-clause-begins c =
    let task = c.args.task.now in
    let so = c.loop-place.invariant in
    let begins = c.in_ok-frame.ensures in
    let instrs = c.as_slice-i-items.result.now in
    let at = slice_get_read instrs (length instrs) c.loop-place.place c.i-item.result refl c.loop-place-test.true c.i-item.is in
    stands_begins task c.args.frames.now c.loop-place.place c.i-item.result c.in_ok-frame.frame (rw c.as_slice-i-items.ensures at at)
    (stands_at task c.args.frames.now c.requires.task c.requires.frames c.requires.settled c.loop-place.typed c.loop-place.line c.in_ok-frame.frame
    c.loop-place.place so.unrolled so.as_many begins.leader begins.other)

pub loop-place-preserved : goal.loop-place-preserved
loop-place-preserved c =
    let so = c.loop-place.invariant in
    let begins = c.in_ok-frame.ensures in
    let instrs = c.as_slice-i-items.result.now in
    let at = slice_get_read instrs (length instrs) c.loop-place.place c.i-item.result refl c.loop-place-test.true c.i-item.is in
    let pushed = c.in_ok-push.ensures in
    record {
      as_many = ap length pushed.ok ∙ length_push c.loop-place.typed c.in_ok-frame.frame ∙ ap (λ (n : ℕ). n + 1) so.as_many;
      unrolled = unrolled_at c.args.task.now c.args.frames.now c.requires.task c.requires.frames c.requires.settled c.loop-place.typed c.loop-place.line
          c.in_ok-frame.frame c.loop-place.place so.unrolled so.as_many begins.leader begins.other c.ordered.ensures.ordered c.push.new.self c.in_ok-line.line
          c.i-item.result pushed.ok (rw c.as_slice-i-items.ensures at at) c.in_ok-line.ensures;
    }

pub returns : goal.returns
returns c =
    let task = c.args.task.now in
    let so = c.loop-place.invariant in
    let (f, start, first) = c.requires.start in
    let e = ap length c.as_slice-i-items.ensures in
    let all : length c.loop-place.typed ≡ length (scope_in task).code.instrs = omega arith in
    unrolled_least task c.args.frames.now c.loop-place.typed c.loop-place.line c.requires.task c.requires.frames so.unrolled all f start first
