-- The value is read where it is.
use Rattle.std.proofs.Common.{◌≡◌, ◌<◌, ◌+◌, ◌∙◌, Some, get_or, sym, ap, arith}
use Rattle.std.proofs.lemmas.List.{get_or_read}
use Rattle.jk_model.specs.declared.values.Value.TheVariants.{Unset}
use Rattle.frame_store.specs.declared.frame_blocks.FrameRecord.{FrameRecord}
use Rattle.frame_store.specs.FrameBlocks.{no_record, record_at, index_of, value_of}
use Rattle.frame_store.specs.Builds.{get-build}
use Rattle.frame_store.proofs.TopIsWritten.{record_lt, in_blocks, value_lt}
use Rattle.frame_store.proofs.TopValues.{height_is}
use Rattle.frame_store.proofs.domain_frames.DomainFrames.entry.Goals as goal

pub value_index-requires-clause-some : goal.value_index-requires-clause-some
value_index-requires-clause-some c =
    let d = c.args.self.now in
    let f = c.args.frame in
    let is = c.requires.frame in
    let read = get_or_read d.records.items _ _ (record_lt d f is) c.index.ensures no_record in
    let locals = (record_at d.records.items f).head.max_locals in
    let locals_is : c.index.result.now.head.max_locals ≡ locals = ap (λ (r : FrameRecord). r.head.max_locals) read in
    omega (arith, c.from.ensures, c.from-2.ensures, in_blocks d f (locals + c.args.i) is (omega (arith, c.requires.there, height_is d f is, is.framed.low)))

pub returns : goal.returns
returns c =
    let d = c.args.self.now in
    let f = c.args.frame in
    let is = c.requires.frame in
    let record_read = get_or_read d.records.items _ _ (record_lt d f is) c.index.ensures no_record in
    let locals = (record_at d.records.items f).head.max_locals in
    let locals_is : c.index.result.now.head.max_locals ≡ locals = ap (λ (r : FrameRecord). r.head.max_locals) record_read in
    let low : c.args.i < (record_at d.records.items f).height = omega (arith, c.requires.there, height_is d f is) in
    let sum : c.from.result + c.from-2.result ≡ locals + c.args.i = omega (arith, c.from.ensures, c.from-2.ensures) in
    let at : c.value_index.result ≡ index_of d.parts f (locals + c.args.i) = c.value_index.ensures.index ∙ ap (index_of d.parts f) sum in
    let lt = value_lt d f (locals + c.args.i) is (in_blocks d f (locals + c.args.i) is (omega (arith, is.framed.low))) in
    let read = get_or_read d.values.items _ _ (omega (arith, at)) c.index-2.ensures Unset in
    get-build (λ p. value_of d.parts d.values.items f (locals + p)) (record_at d.records.items f).height c.args.i low
    ∙ ap Some (sym (read ∙ ap (λ k. get_or d.values.items k Unset) at))
