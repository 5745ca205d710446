-- The local alone is written.
use Rattle.std.proofs.Common.{◌≡◌, ◌≢◌, ◌<◌, ◌*◌, ◌∙◌, ◌++◌, ◌∷◌, [], ℕ, set, refl, sym, ap, subst, arith}
use Rattle.number_table.specs.ChainMoves.{count}
use Rattle.frame_store.specs.FrameBlocks.{record_at, index_of, value_of, lowest_in}
use Rattle.frame_store.specs.DomainMoves.{depth_of, lower_of, value_at, IsFrameNumber}
use Rattle.frame_store.proofs.TopIsWritten.{in_blocks, write_top, write_others, other_value}
use Rattle.frame_store.proofs.TopValues.{local_is_set, locals_are}
use Rattle.frame_store.proofs.domain_frames.DomainFrames.set_local.Goals as goal

pub value_index-index-requires-clause-some : goal.value_index-index-requires-clause-some
value_index-index-requires-clause-some c =
    let d = c.args.self.now in
    let f = c.args.frame in
    let is = c.requires.frame in
    omega (arith, c.from.ensures, in_blocks d f c.args.i is (omega (arith, c.requires.there, locals_are d f is)))

pub returns-clause-becomes : goal.returns-clause-becomes
returns-clause-becomes c =
    let d = c.args.self.now in
    let f = c.args.frame in
    let is = c.requires.frame in
    let low : c.args.i < (record_at d.records.items f).head.max_locals = omega (arith, c.requires.there, locals_are d f is) in
    let at : c.value_index-index.result ≡ index_of d.parts f c.args.i = c.value_index-index.ensures.index ∙ ap (index_of d.parts f) c.from.ensures in
    let values = set d.values.items c.value_index-index.result c.args.v in
    let others : (g q : ℕ) → IsFrameNumber d g → g ≢ f → q < 20 * count d.parts g → value_of d.parts values g q ≡ value_of d.parts d.values.items g q =
    λ g q g_is ne q_lt.
    let P : ℕ → Type 0 = λ k. value_of d.parts (set d.values.items k c.args.v) g q ≡ value_of d.parts d.values.items g q in
    subst P (sym at) (other_value d f c.args.i g q c.args.v is g_is (in_blocks d f c.args.i is (omega arith)) q_lt (λ e. absurd (ne e))) in
    λ i top.
    let P : ℕ → Type 0 = λ k. lowest_in d.frames d.parts d.records.items values i (depth_of d i)
    ≡ lower_of d i ++ record (value_at d k) { locals = set (value_at d k).locals c.args.i c.args.v } ∷ [] in
    record {
      same_chunks = refl;
      same_slots = refl;
      becomes =
          subst P top.is
          (write_top d i f top.has_top top.is d.records.items values (λ _ _. refl) others _
          (local_is_set d f is c.value_index-index.result c.args.i c.args.v at low));
      others = write_others d i f top.has_top top.is d.records.items values (λ _ _. refl) others;
      uses = refl;
    }
