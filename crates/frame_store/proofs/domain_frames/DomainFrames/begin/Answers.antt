-- The frame is the first of its segment, and the cursor is moved to the segment's slot.
use Rattle.std.proofs.Common.{◌∙◌, ◌++◌, ◌∷◌, [], ℕ, List, refl, ap, arith, subst, sym}
use Rattle.jk_model_frames.specs.Frames.{FrameState, new_frame}
use Rattle.number_table.specs.declared.entry_table.Place.{Place}
use Rattle.frame_store.specs.declared.slot_set.SlotSet.{SlotSet}
use Rattle.frame_store.specs.Cursors.{IsAimed, at_slot}
use Rattle.frame_store.specs.DomainMoves.{Begins}
use Rattle.frame_store.specs.SlotMoves.{TakesSlot}
use Rattle.frame_store.proofs.FramesCalled.{moved_number, moved_top}
use Rattle.frame_store.proofs.domain_frames.DomainFrames.begin.Goals as goal

pub aim_at-requires-clause-is_frame : goal.aim_at-requires-clause-is_frame
aim_at-requires-clause-is_frame c =
    let d = c.open-slot.new.self in
    let e = c.add-frame.new.self in
    let taken = c.open-slot.ensures in
    moved_number d e e c.open-slot.result c.add-frame.result.0 c.add-frame.ensures.moves refl
    (omega (arith, taken.takes.within, taken.same_chunks, c.args.self.now.ok.slots_are)) c.add-frame.ensures.becomes.same_chunks

pub aim_at-requires-clause-top : goal.aim_at-requires-clause-top
aim_at-requires-clause-top c =
    let e = c.add-frame.new.self in
    moved_top c.open-slot.new.self e e c.open-slot.result c.add-frame.result.0 c.add-frame.ensures.moves refl

pub returns-clause-ok : goal.returns-clause-ok
returns-clause-ok c =
    let d = c.args.self.now in
    let e = c.add-frame.new.self in
    let slot = c.open-slot.result in
    let opens = c.open-slot.ensures in
    let adds = c.add-frame.ensures.becomes in
    let Takes : SlotSet → Type 0 = λ (q : SlotSet). TakesSlot d.slots q c.args.number slot in
    let At : ℕ → Type 0 = λ k. Begins d e c.args.number c.args.head k in
    let begins : At slot =
    record {
      same_chunks = adds.same_chunks ∙ opens.same_chunks;
      takes = subst Takes (sym adds.same_slots) opens.takes;
      frames = adds.becomes ∙ ap (λ (fs : List FrameState). fs ++ new_frame c.args.head ∷ []) opens.frames;
      others = λ j lt ne. adds.others j (let same = opens.same_chunks in omega arith) ne ∙ opens.others j lt ne;
      uses = omega (arith, adds.uses, opens.uses, c.head_chunks-blocks.ensures.cost);
    } in
    subst At (sym (ap (λ (p : Place). p.slot) c.aim_at.ensures.place)) begins

pub returns-clause-aims : goal.returns-clause-aims
returns-clause-aims c =
    let Aimed : ℕ → Type 0 = λ k. IsAimed c.add-frame.new.self (at_slot c.args.c.now k) c.aim_at.new.c in
    subst Aimed (sym (ap (λ (p : Place). p.slot) c.aim_at.ensures.place)) c.aim_at.ensures
