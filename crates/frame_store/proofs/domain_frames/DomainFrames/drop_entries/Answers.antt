-- The entries go off the frame that is the last of its segment.
use Rattle.std.proofs.Common.{◌≡◌, ◌-◌, ◌∙◌, ◌++◌, ◌∷◌, [], ℕ, ap, subst}
use Rattle.frame_store.specs.DomainMoves.{depth_of, frames_of, lower_of, value_at}
use Rattle.frame_store.proofs.TopEntries.{last_low, top_set}
use Rattle.frame_store.proofs.domain_frames.DomainFrames.drop_entries.Goals as goal

pub returns-clause-becomes : goal.returns-clause-becomes
returns-clause-becomes c =
    let d = c.args.self.now in
    let e = c.shorten.new.self in
    λ i top below given stack many.
    let b =
    c.shorten.ensures.becomes i (depth_of d i - 1) below given top.has_top.0 (last_low d i top.has_top) top.is
    (ap (λ k. (value_at d k).stack) top.is ∙ stack) many in
    let P : ℕ → Type 0 = λ k. frames_of e i ≡ lower_of d i ++ record (value_at d k) { stack = below } ∷ [] in
    record {
      same_chunks = b.same_chunks;
      same_slots = b.same_slots;
      becomes = subst P top.is (b.becomes ∙ top_set d i top.has_top (record (value_at d c.args.frame) { stack = below }));
      others = b.others;
      uses = b.uses;
    }
