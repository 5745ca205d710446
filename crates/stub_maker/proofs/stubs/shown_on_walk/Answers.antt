-- A class that implements jk/Remote and is an interface is kept, and no other.
use Rattle.std.proofs.Common.{◌≡◌, false, true}
use Rattle.stub_maker.specs.Kept.{IsShown}
use Rattle.stub_maker.proofs.KeptOfAWalk.{kept-more, kept-past}
use Rattle.stub_maker.proofs.stubs.shown_on_walk.Goals as goal
use Rattle.stub_maker.proofs.stubs.shown_on_walk.Goals.{then-is_shown+in_ok-push, else-is_shown}

pub loop-i-preserved : goal.loop-i-preserved
loop-i-preserved c =
    let shows = IsShown c.args.t.now c.args.remote in
    let walk = c.args.walk.now in
    let within = c.loop-i-test.true in
    elim c.if-is_shown.branch [
      | then-is_shown+in_ok-push w ↦
          rw (w.shown-is, w.in_ok-push.ensures.items)
          (kept-more shows walk c.loop-i.shown.items c.loop-i.i-index within c.loop-i.invariant (c.is_shown.ensures.0 w.if-is_shown.true))
      | else-is_shown w ↦
          rw w.shown-is
          (kept-past shows walk c.loop-i.shown.items c.loop-i.i-index within c.loop-i.invariant
          (λ so. let both : false ≡ true = rw w.if-is_shown.false at (c.is_shown.ensures.1 so) in cc))
    ]
