-- Each turn reads the next one, or meets one below 0.
use Rattle.std.proofs.Common.{◌≡◌, ℕ, ◌-◌, length, pos, subst, sym, ◌∙◌, arith}
use Rattle.jk_model.specs.declared.values.Value.TheVariants as Held
use Rattle.heap_ops.specs.TopEntries.{StandsBelow}
use Rattle.heap_ops.proofs.CountsRead.{all_read, next_read, next_there, none_read, one_negative}
use Rattle.heap_ops.proofs.array_trees.read_counts.Goals as goal

pub loop-i-init : goal.loop-i-init
loop-i-init g c = none_read (g.F.SegmentFrames.content c.args.frames.now) c.args.s c.args.counts.now c.requires.ints

pub count_at-requires : goal.count_at-requires
count_at-requires g c =
    let frames = g.F.SegmentFrames.content c.args.frames.now in
    let long : length c.loop-i.counts ≡ length c.args.counts.now = c.loop-i.auto.counts in
    let low = c.loop-i-test.true in
    let next = next_there frames c.args.s c.loop-i.counts c.loop-i.i c.loop-i.invariant (omega (arith, low, long)) in
    (next.0, subst (λ (n : ℕ). StandsBelow frames c.args.s (n - 1 - c.loop-i.i) (Held.Int next.0)) long next.1)

pub returns-in-Err-clause-err : goal.returns-in-Err-clause-err
returns-in-Err-clause-err g c = (
  (λ ks on_top many. one_negative (g.F.SegmentFrames.content c.args.frames.now) c.args.s c.args.counts.now c.loop-i.i c.in-Err.ensures.0.0
      c.loop-i-test.true c.in-Err.ensures.0.1 c.in-Err.ensures.0.2 ks on_top many),
  c.in-Err.ensures.1,
)

pub loop-i-preserved : goal.loop-i-preserved
loop-i-preserved g c =
    let frames = g.F.SegmentFrames.content c.args.frames.now in
    let long : length c.loop-i.counts ≡ length c.args.counts.now = c.loop-i.auto.counts in
    let low = c.loop-i-test.true in
    next_read frames c.args.s c.loop-i.counts c.loop-i.i c.in-Ok.count c.loop-i.invariant (omega (arith, low, long))
    (subst (λ (n : ℕ). StandsBelow frames c.args.s (n - 1 - c.loop-i.i) (Held.Int (pos c.in-Ok.count))) (sym long) c.in-Ok.ensures)

pub returns-clause-ok : goal.returns-clause-ok
returns-clause-ok g c = λ ks on_top many.
    let long : length c.loop-i.counts ≡ length c.args.counts.now = c.loop-i.auto.counts in
    let end : c.loop-i.i ≡ length c.loop-i.counts = omega (arith, c.loop-i-test.false, c.loop-i.auto.i-end, long) in
    all_read (g.F.SegmentFrames.content c.args.frames.now) c.args.s c.loop-i.counts c.loop-i.i c.loop-i.invariant end ks on_top (many ∙ sym long)
