-- The value is read where it is.
use Rattle.std.proofs.Common.{◌≡◌, ◌<◌, ◌∙◌, Some, get_or, sym, ap, arith}
use Rattle.std.proofs.lemmas.List.{get_or_read}
use Rattle.jk_model.specs.declared.values.Value.TheVariants.{Unset}
use Rattle.frame_store.specs.FrameBlocks.{record_at, index_of, value_of}
use Rattle.frame_store.specs.Builds.{get-build}
use Rattle.frame_store.proofs.TopIsWritten.{in_blocks, value_lt}
use Rattle.frame_store.proofs.TopValues.{locals_are}
use Rattle.frame_store.proofs.domain_frames.DomainFrames.local.Goals as goal

pub value_index-requires-clause-some : goal.value_index-requires-clause-some
value_index-requires-clause-some c =
    let d = c.args.self.now in
    let f = c.args.frame in
    omega (arith, c.from.ensures, in_blocks d f c.args.i c.requires.frame (omega (arith, c.requires.there, locals_are d f c.requires.frame)))

pub returns : goal.returns
returns c =
    let d = c.args.self.now in
    let f = c.args.frame in
    let low : c.args.i < (record_at d.records.items f).head.max_locals = omega (arith, c.requires.there, locals_are d f c.requires.frame) in
    let at : c.value_index.result ≡ index_of d.parts f c.args.i = c.value_index.ensures.index ∙ ap (index_of d.parts f) c.from.ensures in
    let lt = value_lt d f c.args.i c.requires.frame (in_blocks d f c.args.i c.requires.frame (omega arith)) in
    let read = get_or_read d.values.items _ _ (omega (arith, at)) c.index.ensures Unset in
    get-build (value_of d.parts d.values.items f) (record_at d.records.items f).head.max_locals c.args.i low
    ∙ ap Some (sym (read ∙ ap (λ k. get_or d.values.items k Unset) at))
