-- The entry is read where it is.
use Rattle.std.proofs.Common.{◌≡◌, ◌<◌, ◌+◌, ◌-◌, ◌∙◌, Some, get_or, slice_get, sym, ap, arith}
use Rattle.std.proofs.lemmas.List.{get_or_read}
use Rattle.jk_model.specs.declared.values.Value.TheVariants.{Unset}
use Rattle.frame_store.specs.declared.frame_blocks.FrameRecord.{FrameRecord}
use Rattle.frame_store.specs.FrameBlocks.{no_record, record_at, index_of, value_of}
use Rattle.frame_store.specs.DomainMoves.{value_at}
use Rattle.frame_store.specs.Builds.{get-build}
use Rattle.frame_store.proofs.TopIsWritten.{record_lt, in_blocks, value_lt}
use Rattle.frame_store.proofs.TopValues.{height_is}
use Rattle.frame_store.proofs.domain_frames.DomainFrames.entry_below.Goals as goal

pub overflow_sub-entry-2 : goal.overflow_sub-entry-2
overflow_sub-entry-2 c =
    let d = c.args.self.now in
    let f = c.args.c.frame in
    let is = c.requires.frame in
    let read = get_or_read d.records.items _ _ (record_lt d f is) c.index-record.ensures no_record in
    omega (arith, c.requires.there, height_is d f is, ap (λ (x : FrameRecord). x.height) read)

pub returns : goal.returns
returns c =
    let d = c.args.self.now in
    let f = c.args.c.frame in
    let is = c.requires.frame in
    let record_read = get_or_read d.records.items _ _ (record_lt d f is) c.index-record.ensures no_record in
    let r = record_at d.records.items f in
    let locals = r.head.max_locals in
    let q = r.height - 1 - c.args.above in
    let high = height_is d f is in
    let low : q < r.height = omega (arith, c.requires.there, high) in
    let sum : c.index-record.result.now.head.max_locals + (c.index-record.result.now.height - 1 - c.args.above) ≡ locals + q =
    omega (arith, ap (λ (x : FrameRecord). x.head.max_locals) record_read, ap (λ (x : FrameRecord). x.height) record_read) in
    let at : c.entry_index.result ≡ index_of d.parts f (locals + q) = c.entry_index.ensures.index ∙ ap (index_of d.parts f) sum in
    let lt = value_lt d f (locals + q) is (in_blocks d f (locals + q) is (omega (arith, is.framed.low))) in
    let read = get_or_read d.values.items _ _ (omega (arith, at)) c.index.ensures Unset in
    ap (λ n. slice_get (value_at d f).stack (n - 1 - c.args.above)) high
    ∙ get-build (λ p. value_of d.parts d.values.items f (locals + p)) r.height q low
    ∙ ap Some (sym (read ∙ ap (λ k. get_or d.values.items k Unset) at))
