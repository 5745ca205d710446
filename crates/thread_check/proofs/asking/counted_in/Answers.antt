-- One more thread is counted.
use Rattle.std.proofs.Common.{◌≡◌, ◌+◌, ◌==◌, ℕ, List, filter, length, take, arith, ap, sym, ◌∙◌}
use Rattle.std.proofs.lemmas.List.Sums.{sum_by_more}
use Rattle.thread_stacks.specs.declared.parts.SegmentPart.{SegmentPart}
use Rattle.thread_stacks.specs.declared.parts.ThreadPart.{ThreadPart}
use Rattle.thread_check.specs.AskedOfParts.{count_in}
use Rattle.thread_check.proofs.asking.counted_in.Goals as goal

pub loop-thread-preserved : goal.loop-thread-preserved
loop-thread-preserved c =
    let of : List SegmentPart → ℕ = λ segments. length (filter (λ (s : SegmentPart). s.domain.0 == c.args.d.0) segments) in
    let more : ThreadPart → ℕ = λ t. of t.segments in
    let threads = c.args.threads.now in
    let i = c.loop-thread.thread-index in
    let counted : c.count_of.result ≡ more c.thread-item.result = c.count_of.ensures ∙ ap of c.as_slice.ensures in
    let next : count_in (take (i + 1) threads) c.args.d ≡ count_in (take i threads) c.args.d + more c.thread-item.result =
    sum_by_more more threads i c.thread-item.result c.loop-thread-test.true
    ∙ ap (λ (t : ThreadPart). count_in (take i threads) c.args.d + more t) (sym c.thread-item.is) in
    let before : c.loop-thread.count ≡ count_in (take i threads) c.args.d = c.loop-thread.invariant in
    omega (arith, next, before, counted, c.in_ok-count.ensures)
