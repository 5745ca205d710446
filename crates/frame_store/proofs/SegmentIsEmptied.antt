-- The frames of a segment are taken off one after another.
use Rattle.std.proofs.Common.{◌≡◌, ◌≢◌, ℕ, ◌+◌, ◌-◌, ◌<◌, ◌≤◌, refl, ap, arith, ◌∙◌}
use Rattle.jk_model_frames.specs.Frames.{FrameState, head_chunks, frames_chunks}
use Rattle.std.proofs.lemmas.List.Sums.{sum_by_push}
use Rattle.frame_store.specs.declared.domain_frames.DomainFrames.{DomainFrames}
use Rattle.frame_store.specs.DomainMoves.{frames_of, top_of, lower_of, HasTop, Becomes}
use Rattle.frame_store.proofs.TopIsWritten.{frames_more}

-- Some frames of a segment are off, and paid back.
pub record IsPartly (old new : DomainFrames) (i : ℕ) : Type 0 where
  pub within : i < old.chunks
  pub same_chunks : new.chunks ≡ old.chunks
  pub same_slots : new.slots ≡ old.slots
  pub others : (j : ℕ) → j < old.chunks → j ≢ i → frames_of new j ≡ frames_of old j
  pub uses : new.used + frames_chunks (frames_of old i) ≡ old.used + frames_chunks (frames_of new i)

pub none_off : (d : DomainFrames) (i : ℕ) → i < d.chunks → IsPartly d d i
none_off d i lt = record { within = lt; same_chunks = refl; same_slots = refl; others = λ _ _ _. refl; uses = refl }

chunks_more : (d : DomainFrames) (i : ℕ) → HasTop d i → frames_chunks (frames_of d i) ≡ frames_chunks (lower_of d i) + head_chunks (top_of d i).head
chunks_more d i h = ap frames_chunks (frames_more d i h) ∙ sum_by_push (λ (x : FrameState). head_chunks x.head) (lower_of d i) (top_of d i)

pub one_off : (old d new : DomainFrames) (i : ℕ) → IsPartly old d i → HasTop d i → head_chunks (top_of d i).head ≤ d.used
    → Becomes d new i (lower_of d i) (d.used - head_chunks (top_of d i).head) → IsPartly old new i
one_off old d new i part top le off =
    record {
      within = part.within;
      same_chunks = off.same_chunks ∙ part.same_chunks;
      same_slots = off.same_slots ∙ part.same_slots;
      others = λ j lt ne. off.others j (omega (arith, part.same_chunks)) ne ∙ part.others j lt ne;
      uses = omega (arith, part.uses, off.uses, chunks_more d i top, ap frames_chunks off.becomes);
    }
