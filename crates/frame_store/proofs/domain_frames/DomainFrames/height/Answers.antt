-- The record has the height.
use Rattle.std.proofs.Common.{◌∙◌, sym, ap}
use Rattle.std.proofs.lemmas.List.{get_or_read}
use Rattle.frame_store.specs.declared.frame_blocks.FrameRecord.{FrameRecord}
use Rattle.frame_store.specs.FrameBlocks.{no_record}
use Rattle.frame_store.proofs.TopIsWritten.{record_lt}
use Rattle.frame_store.proofs.TopValues.{height_is}
use Rattle.frame_store.proofs.domain_frames.DomainFrames.height.Goals as goal

pub returns : goal.returns
returns c =
    let d = c.args.self.now in
    let f = c.args.frame in
    ap (λ (r : FrameRecord). r.height) (get_or_read d.records.items _ _ (record_lt d f c.requires) c.index.ensures no_record) ∙ sym (height_is d f c.requires)
