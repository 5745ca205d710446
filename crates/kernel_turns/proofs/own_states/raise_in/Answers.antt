-- The own state among those of all is the one that is raised in.
use Rattle.std.proofs.Common.{◌≡◌, Some, refl, sym, subst, ◌∙◌}
use Rattle.std.proofs.lemmas.Option.{same_Some, slice_get_within}
use Rattle.class_init.specs.KeptStates.{KeptState}
use Rattle.list_lemmas.proofs.ItemsByPlace.{item_read}
use Rattle.step_contents.specs.Contents.{contents_of, here_at}
use Rattle.segment_steps.specs.RaisingHere.{RaisedHere}
use Rattle.kernel_turns.proofs.own_states.raise_in.Goals as goal

pub returns : goal.returns
returns g c = λ own is.
    let there = item_read c.args.owns.now.items c.args.r.domain.0 c.index_mut-own.result.now
    (slice_get_within c.args.owns.now.items c.args.r.domain.0 (Some own) is) c.index_mut-own.ensures.value in
    let lent : c.index_mut-own.result.now ≡ Some own = same_Some c.index_mut-own.result.now (Some own) (sym there ∙ is) in
    let same : own ≡ c.in-Some.own = same_Some own c.in-Some.own (sym lent ∙ c.in-Some.is) in (
      c.raise_here-went.new.own,
      refl,
      c.holds.ensures.literals,
      λ shared.
          subst
          (λ (o : KeptState). RaisedHere (contents_of (g.H.ObjectStore.content c.args.heap.now) (g.F.SegmentFrames.content c.args.frames.now) o)
          (contents_of (g.H.ObjectStore.content c.raise_here-went.new.heap) (g.F.SegmentFrames.content c.raise_here-went.new.frames) c.raise_here-went.new.own)
          (here_at c.args.w.now shared c.args.r.domain c.args.r.segment) c.args.raise c.raise_here-went.result)
          (sym same) (c.raise_here-went.ensures shared),
    )
