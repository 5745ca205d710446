-- One more capability is made.
use Rattle.std.proofs.Common.{◌∙◌, List, add-one, ap, arith, map, take_all}
use Rattle.std.proofs.lemmas.Option.{slice_get-get_or}
use Rattle.jk_model_sharing.specs.SharedStates.{caps_of}
use Rattle.thread_segments.specs.declared.parts.CapPart.{CapPart}
use Rattle.thread_segments.specs.RestoredParts.{with_made}
use Rattle.thread_segments.proofs.RestoredRanges.{all_made, may_make, one_more_made}
use Rattle.thread_segments.proofs.restoring.make_all.Goals as goal

pub loop-part-init : goal.loop-part-init
loop-part-init c = λ s h. h.begun

pub make-requires : goal.make-requires
make-requires c =
    let s = c.requires.0 in
    let h = c.requires.1 in
    let k = c.loop-part.part-index in
    let at = slice_get-get_or c.args.parts.now k _ c.loop-part-test.true in
    may_make s h.sound c.args.parts.now h.told k _ at c.loop-part.caps (c.loop-part.invariant s h)

pub loop-part-preserved : goal.loop-part-preserved
loop-part-preserved c =
    λ s h.
    let k = c.loop-part.part-index in
    let at = slice_get-get_or c.args.parts.now k _ c.loop-part-test.true in
    rw (add-one k)
    (one_more_made s h.sound c.args.parts.now h.told k _ at c.loop-part.caps c.make.new.caps (c.loop-part.invariant s h) c.make.ensures)

pub returns : goal.returns
returns c =
    λ s h.
    c.loop-part.invariant s h
    ∙ ap (λ (ps : List CapPart). map (with_made ps) (caps_of s))
    (take_all c.loop-part.part-index c.args.parts.now (omega (arith, c.loop-part-test.false)))
    ∙ all_made s h.sound c.args.parts.now h.told
