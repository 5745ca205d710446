-- Each turn reads one more value.
use Rattle.std.proofs.Common.{◌≡◌, ◌+◌, ◌-◌, set, sym, subst, ◌∙◌, arith, refl, rules}
use Rattle.std.proofs.lemmas.List.{length-set, length-take-le}
use Rattle.system_calls.proofs.GivenRead.{ReadSoFar, all_read, one_more_read, value_there}
use Rattle.system_calls.proofs.given.read_given.Goals as goal

pub loop-i-init : goal.loop-i-init
loop-i-init g c = (λ f below given top stack many. refl, refl)

pub peek-requires : goal.peek-requires
peek-requires g c =
    value_there (g.F.SegmentFrames.content c.args.frames.now) c.args.s c.args.count c.requires.given c.loop-i.i c.loop-i-test.true

pub loop-i-preserved : goal.loop-i-preserved
loop-i-preserved g c =
    let long = c.loop-i.invariant.1 in
    let low = c.loop-i-test.true in
    let place : c.from.result ≡ c.loop-i.i = search rules in (
      subst (λ n. ReadSoFar (g.F.SegmentFrames.content c.args.frames.now) c.args.s c.args.count (set c.loop-i.values n c.peek.result) (c.loop-i.i + 1))
          (sym place)
          (one_more_read (g.F.SegmentFrames.content c.args.frames.now) c.args.s c.args.count c.loop-i.values c.loop-i.i (c.args.count - 1 - c.loop-i.i)
          c.peek.result low (omega (arith, long, low, c.requires.few)) refl c.peek.ensures c.loop-i.invariant.0),
      length-set c.loop-i.values c.from.result c.peek.result ∙ long,
    )

pub returns-clause-given : goal.returns-clause-given
returns-clause-given g c =
    let end : c.loop-i.i ≡ c.args.count = omega (arith, c.loop-i-test.false, c.loop-i.auto.i-end) in
    all_read (g.F.SegmentFrames.content c.args.frames.now) c.args.s c.args.count c.requires.given c.loop-i.values c.loop-i.i end c.loop-i.invariant.0

pub returns-clause-many : goal.returns-clause-many
returns-clause-many g c = length-take-le c.args.count c.loop-i.values (omega (arith, c.loop-i.invariant.1, c.requires.few))
