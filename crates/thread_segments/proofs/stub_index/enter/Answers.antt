-- One more stub has a place, in the list that is put behind the others.
use Rattle.std.proofs.Common.{◌+◌, ℕ, arith, refl, subst, sym}
use Rattle.list_lemmas.proofs.ItemsByPlace.{item_read}
use Rattle.thread_segments.specs.StubPlaces.{IsEntered}
use Rattle.thread_segments.proofs.StubsByClass.{all_entered, none_entered, one_entered}
use Rattle.thread_segments.proofs.stub_index.enter.Goals as goal

pub loop-at-init : goal.loop-at-init
loop-at-init c = record {
  entered = λ lists size h. none_entered lists c.args.stubs.now c.args.places.now h;
  room = omega (arith, c.requires);
}

pub loop-at-preserved : goal.loop-at-preserved
loop-at-preserved c = record {
  entered =
      λ lists size h.
      let s = c.index-stubs-at.result in
      let P : ℕ → Type 0 = λ n. IsEntered c.loop-at.places c.enter_one.new.places s.class.0 (record { list = n; at = c.loop-at.at }) in
      one_entered lists c.args.stubs.now c.loop-at.places c.enter_one.new.places c.loop-at.at (c.loop-at.at + 1) s
      (item_read c.args.stubs.now c.loop-at.at s (omega arith) c.index-stubs-at.is) refl (subst P (sym size) c.enter_one.ensures.entered)
      (c.loop-at.invariant.entered lists size h);
  room = omega arith;
}

pub returns : goal.returns
returns c =
    λ lists size h.
    all_entered lists c.args.stubs.now c.loop-at.places c.loop-at.at (omega arith) (c.loop-at.invariant.entered lists size h)
