-- The value is written above the entries that stay.
use Rattle.std.proofs.Common.{◌≡◌, ◌≢◌, ◌<◌, ◌≤◌, ◌+◌, ◌-◌, ◌*◌, ◌^◌, ◌∙◌, ◌++◌, ◌∷◌, [], ℕ, set, refl, sym, ap, subst, arith}
use Rattle.std.proofs.lemmas.List.{get_or_read, length-set}
use Rattle.jk_model_frames.specs.Frames.{head_chunks}
use Rattle.frame_store.specs.declared.frame_blocks.FrameRecord.{FrameRecord}
use Rattle.number_table.specs.ChainMoves.{count}
use Rattle.frame_store.specs.FrameBlocks.{no_record, record_at, index_of, value_of, frame_of, lowest_in}
use Rattle.frame_store.specs.DomainMoves.{depth_of, lower_of, value_at, IsFrameNumber}
use Rattle.frame_store.proofs.EntriesDropped.{kept}
use Rattle.frame_store.proofs.TopIsWritten.{record_lt, in_blocks, write_top, write_others, other_records_of, other_value, record_keeps}
use Rattle.frame_store.proofs.TopValues.{entries_are_exchanged, height_is}
use Rattle.frame_store.proofs.domain_frames.DomainFrames.exchange.Goals as goal

pub overflow_sub-height : goal.overflow_sub-height
overflow_sub-height c =
    let d = c.args.self.now in
    let f = c.args.c.frame in
    let is = c.requires.frame in
    let read = get_or_read d.records.items _ _ (record_lt d f is) c.index_mut-record.ensures.value no_record in
    omega (arith, ap (λ (r : FrameRecord). r.height) read, c.requires.enough, height_is d f is)

pub invariant_of-self : goal.invariant_of-self
invariant_of-self c =
    let d = c.args.self.now in
    let f = c.args.c.frame in
    let is = c.requires.frame in
    let read = get_or_read d.records.items _ _ (record_lt d f is) c.index_mut-record.ensures.value no_record in
    let enough = c.requires.enough in
    let some = c.requires.some in
    let Q : FrameRecord → Type 0 = λ (x : FrameRecord). x.head.max_stack < 2 ^ 16 in
    let most : c.index_mut-record.result.now.head.max_stack ≡ (record_at d.records.items f).head.max_stack = ap (λ (r : FrameRecord). r.head.max_stack) read in
    let height : c.index_mut-record.result.now.height ≡ (record_at d.records.items f).height = ap (λ (r : FrameRecord). r.height) read in
    record {
      ok =
          record_keeps d f (record c.index_mut-record.result.now { height = c.index_mut-record.result.now.height - c.args.count + 1 })
          (set d.values.items c.entry_index-index.result c.args.v)
          (length-set d.values.items c.entry_index-index.result c.args.v) is.within
          (ap (λ (x : FrameRecord). head_chunks x.head) read) (omega (arith, enough, height_is d f is, is.framed.low)) (subst Q (sym read) is.framed.small);
    }

pub returns-clause-becomes : goal.returns-clause-becomes
returns-clause-becomes c =
    let d = c.args.self.now in
    let f = c.args.c.frame in
    let is = c.requires.frame in
    let many = c.args.count in
    let read = get_or_read d.records.items _ _ (record_lt d f is) c.index_mut-record.ensures.value no_record in
    let r = record_at d.records.items f in
    let q = r.head.max_locals + (r.height - many) in
    let some = c.requires.some in
    let enough : many ≤ r.height = omega (arith, c.requires.enough, height_is d f is) in
    let low : r.height - many < r.head.max_stack = omega (arith, is.framed.low) in
    let sum : c.index_mut-record.result.now.head.max_locals + (c.index_mut-record.result.now.height - many) ≡ q =
    omega (arith, ap (λ (x : FrameRecord). x.head.max_locals) read, ap (λ (x : FrameRecord). x.height) read) in
    let at : c.entry_index-index.result ≡ index_of d.parts f q = c.entry_index-index.ensures.index ∙ ap (index_of d.parts f) sum in
    let values = set d.values.items c.entry_index-index.result c.args.v in
    let written : FrameRecord = record c.index_mut-record.result.now { height = c.index_mut-record.result.now.height - many + 1 } in
    let records = set d.records.items f written in
    let others : (g p : ℕ) → IsFrameNumber d g → g ≢ f → p < 20 * count d.parts g → value_of d.parts values g p ≡ value_of d.parts d.values.items g p =
    λ g p g_is ne p_lt.
    let R : ℕ → Type 0 = λ k. value_of d.parts (set d.values.items k c.args.v) g p ≡ value_of d.parts d.values.items g p in
    subst R (sym at) (other_value d f q g p c.args.v is g_is (in_blocks d f q is (omega arith)) p_lt (λ e. absurd (ne e))) in
    λ i top below given stack as_many.
    let stack_here = ap (λ k. (value_at d k).stack) top.is ∙ stack in
    let stays = kept d f is c.index_mut-record.result.now many read below given stack_here as_many in
    let exchanged : frame_of d.parts records values f ≡ record (value_at d f) { stack = below ++ c.args.v ∷ [] } =
    entries_are_exchanged d f is c.entry_index-index.result many c.args.v below c.index_mut-record.result.now read at some enough stays in
    let S : ℕ → Type 0 = λ k. lowest_in d.frames d.parts records values i (depth_of d i)
    ≡ lower_of d i ++ record (value_at d k) { stack = below ++ c.args.v ∷ [] } ∷ [] in
    record {
      same_chunks = refl;
      same_slots = refl;
      becomes =
          subst S top.is
          (write_top d i f top.has_top top.is records values (λ g ne. other_records_of d.records.items f g written ne) others _ exchanged);
      others = write_others d i f top.has_top top.is records values (λ g ne. other_records_of d.records.items f g written ne) others;
      uses = refl;
    }
