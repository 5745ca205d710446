-- Each turn joins the types at one place, and at the end each place is passed.
use Rattle.std.proofs.Common.{◌≡◌, ◌<◌, length, get_or, Some, slice_get, refl, ◌∙◌, arith}
use Rattle.std.proofs.lemmas.Option.{slice_get-get_or}
use Rattle.jk_model_typing.specs.declared.frames.VType.TheVariants.{Unusable}
use Rattle.type_frames.proofs.OrderOfFrames.{EachFits-refl, EachFits-trans}
use Rattle.type_frames.proofs.RaisedByPlaces.{raised-left, raised-least, raised-outside, outside-all, turns-same, turns-fall}
use Rattle.type_frames.proofs.locals.raise_locals.Goals as goal

pub raise_at-changed-requires : goal.raise_at-changed-requires
raise_at-changed-requires c = omega arith

pub loop-i-init : goal.loop-i-init
loop-i-init c = record {
  within = c.requires.length;
  left = EachFits-refl c.args.t.now c.args.into.now;
  least = λ d left right. left;
  outside = c.requires.outside;
  same = λ _. refl;
  falls = λ never. absurd cc;
}

pub loop-i-preserved : goal.loop-i-preserved
loop-i-preserved c =
    let t = c.args.t.now in
    let from = c.args.from.now in
    let at = c.loop-i in
    let turn = c.raise_at-changed in
    let value = get_or from at.i Unusable in
    let within : at.i < length from = omega arith in
    let read : slice_get from at.i ≡ Some value = slice_get-get_or from at.i Unusable within in
    let up = raised-left t at.i value at.into turn.new.into turn.ensures.raised in
    record {
      within = turn.ensures.raised.length ∙ at.invariant.within;
      left = EachFits-trans t c.ordered.ensures.ordered c.args.into.now at.into turn.new.into at.invariant.left up;
      least = λ d left right.
          raised-least t at.i value at.into turn.new.into turn.ensures.raised from d read (at.invariant.least d left right) right;
      outside = raised-outside t at.i value at.into turn.new.into turn.ensures.raised c.args.end from read at.invariant.outside;
      same = turns-same at.changed turn.result c.args.into.now at.into turn.new.into at.invariant.same turn.ensures.same;
      falls = turns-fall t at.changed turn.result c.args.into.now at.into turn.new.into at.invariant.same at.invariant.falls
          turn.ensures.same turn.ensures.falls;
    }

pub returns-clause-right : goal.returns-clause-right
returns-clause-right c =
    let at = c.loop-i in
    outside-all c.args.t.now at.i c.args.end c.args.from.now at.into c.loop-i-test.false at.invariant.within at.invariant.outside
