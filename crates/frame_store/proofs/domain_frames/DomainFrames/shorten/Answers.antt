-- The height alone is written.
use Rattle.std.proofs.Common.{◌≡◌, ◌<◌, ◌^◌, ◌-◌, refl, sym, ap, subst, arith}
use Rattle.std.proofs.lemmas.List.{get_or_read}
use Rattle.jk_model_frames.specs.Frames.{head_chunks}
use Rattle.frame_store.specs.declared.frame_blocks.FrameRecord.{FrameRecord}
use Rattle.frame_store.specs.FrameBlocks.{no_record, record_at}
use Rattle.frame_store.proofs.TopIsWritten.{record_lt, record_keeps}
use Rattle.frame_store.proofs.TopValues.{height_is}
use Rattle.frame_store.proofs.EntriesDropped.{shorter_others, shorter_there}
use Rattle.frame_store.proofs.domain_frames.DomainFrames.shorten.Goals as goal

pub overflow_sub-index_mut : goal.overflow_sub-index_mut
overflow_sub-index_mut c =
    let d = c.args.self.now in
    let f = c.args.frame in
    let is = c.requires.frame in
    let read = get_or_read d.records.items _ _ (record_lt d f is) c.index_mut.ensures.value no_record in
    omega (arith, ap (λ (r : FrameRecord). r.height) read, c.requires.enough, height_is d f is)

pub invariant_of-self : goal.invariant_of-self
invariant_of-self c =
    let d = c.args.self.now in
    let f = c.args.frame in
    let is = c.requires.frame in
    let t = c.index_mut.result.now in
    let read = get_or_read d.records.items _ _ (record_lt d f is) c.index_mut.ensures.value no_record in
    let Q : FrameRecord → Type 0 = λ (x : FrameRecord). x.head.max_stack < 2 ^ 16 in
    let most : t.head.max_stack ≡ (record_at d.records.items f).head.max_stack = ap (λ (r : FrameRecord). r.head.max_stack) read in
    let height : t.height ≡ (record_at d.records.items f).height = ap (λ (r : FrameRecord). r.height) read in
    record {
      ok =
          record_keeps d f (record t { height = t.height - c.args.count }) d.values.items refl is.within
          (ap (λ (x : FrameRecord). head_chunks x.head) read) (omega (arith, is.framed.low)) (subst Q (sym read) is.framed.small);
    }

pub returns-clause-becomes : goal.returns-clause-becomes
returns-clause-becomes c =
    let d = c.args.self.now in
    let f = c.args.frame in
    let is = c.requires.frame in
    let t = c.index_mut.result.now in
    let read = get_or_read d.records.items _ _ (record_lt d f is) c.index_mut.ensures.value no_record in
    λ slot n below given within low f_is stack many.
    record {
      same_chunks = refl;
      same_slots = refl;
      becomes = shorter_there d f is t c.args.count read below given stack many slot n within low f_is;
      others = shorter_others d f is t c.args.count read below given stack many slot n within low f_is;
      uses = refl;
    }
