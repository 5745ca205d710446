-- The frame begins with nothing in its locals, and then has the target in the first.
use Rattle.std.proofs.Common.{◌+◌, [], ◌∷◌, refl, arith}
use Rattle.std.proofs.lemmas.List.{length-replicate}
use Rattle.jk_model.specs.declared.values.Value.{Value}
use Rattle.jk_model.specs.declared.values.Value.TheVariants as Held
use Rattle.jk_model_frames.specs.Frames.{head_chunks, new_frame}
use Rattle.domain_crossing.proofs.LocalsFilled.{begun_with}
use Rattle.domain_crossing.proofs.arguments.begin.Goals as goal

pub set_local-requires : goal.set_local-requires
set_local-requires g c =
    let head = c.args.callee.now.head in
    let some = c.requires.local in
    let many = length-replicate {A = Value} head.max_locals Held.Unset in (
      new_frame head,
      record {
        segment = record { domain = c.args.callee.now.owner; frames = new_frame head ∷ [] };
        is_there = c.in-Ok.ensures.ok.becomes;
        lower = [];
        frames = refl;
      },
      omega (arith, some, many),
    )

pub returns : goal.returns
returns g c =
    let old = g.F.SegmentFrames.content c.args.frames.now in
    let head = c.args.callee.now.head in
    begun_with old (g.F.SegmentFrames.content c.begin.new.self) (g.F.SegmentFrames.content c.set_local.new.self) c.args.n c.args.callee.now.owner head
    c.args.callee.now.target (old.used c.args.callee.now.owner + 1 + head_chunks head) c.in-Ok.ensures.ok c.requires.local c.set_local.ensures
