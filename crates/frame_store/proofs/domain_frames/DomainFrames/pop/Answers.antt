-- The number and the blocks of the frame become free.
use Rattle.std.proofs.Common.{◌-◌, ◌∙◌, ℕ, refl, sym, ap, subst, arith}
use Rattle.jk_model_frames.specs.Frames.{head_chunks}
use Rattle.frame_store.specs.FrameBlocks.{record_at, IsDomain}
use Rattle.frame_store.proofs.FrameIsOff.{blocks_are, off_keeps, off_top, off_others}
use Rattle.number_table.proofs.MovesKeepChains.{count_le}
use Rattle.frame_store.proofs.TopIsWritten.{in_stacks, is_top_frame}
use Rattle.frame_store.proofs.domain_frames.DomainFrames.pop.Goals as goal

pub overflow_cast-blocks : goal.overflow_cast-blocks
overflow_cast-blocks c =
    let d = c.args.self.now in
    let f = c.free_top-frame.result in
    let is_frame = is_top_frame d c.args.slot f c.requires c.free_top-frame.ensures.moves.was_top in
    let few = count_le d.parts.nodes.items d.parts.stacks.items f d.parts.ok (in_stacks d f is_frame) in
    record { fits = omega (arith, c.count-blocks.ensures, few, d.ok.parts_are, d.ok.most) }

pub invariant_of-self : goal.invariant_of-self
invariant_of-self c =
    let d = c.args.self.now in
    let P : ℕ → Type 0 = λ n. IsDomain d.chunks (d.used - n) d.slots c.free_top-frame.new.self c.give_blocks.new.parts d.records.items d.values.items in
    record {
      ok =
          subst P (sym c.count-blocks.ensures)
          (off_keeps d c.free_top-frame.new.self c.give_blocks.new.parts c.args.slot c.free_top-frame.result _ c.requires c.free_top-frame.ensures.moves.was_top
          c.free_top-frame.ensures.moves c.give_blocks.ensures);
    }

pub returns : goal.returns
returns c =
    let d = c.args.self.now in
    record {
      same_chunks = refl;
      same_slots = refl;
      becomes =
          off_top d c.free_top-frame.new.self c.give_blocks.new.parts c.args.slot c.free_top-frame.result _ c.requires c.free_top-frame.ensures.moves.was_top
          c.free_top-frame.ensures.moves c.give_blocks.ensures;
      others =
          off_others d c.free_top-frame.new.self c.give_blocks.new.parts c.args.slot c.free_top-frame.result _ c.requires c.free_top-frame.ensures.moves.was_top
          c.free_top-frame.ensures.moves c.give_blocks.ensures;
      uses =
          ap (λ n. d.used - n)
          (c.count-blocks.ensures
          ∙ blocks_are d c.free_top-frame.new.self c.give_blocks.new.parts c.args.slot c.free_top-frame.result _ c.requires
          c.free_top-frame.ensures.moves.was_top
          c.free_top-frame.ensures.moves c.give_blocks.ensures
          ∙ ap (λ g. head_chunks (record_at d.records.items g).head) c.free_top-frame.ensures.moves.was_top);
    }
