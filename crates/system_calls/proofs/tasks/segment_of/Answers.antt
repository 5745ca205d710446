-- The object is a Task, and its shape tells its segment.
use Rattle.std.proofs.Common.{◌≡◌, ◌∙◌, sym, subst}
use Rattle.jk_model.specs.declared.identifiers.SegmentNo.{SegmentNo}
use Rattle.jk_model_domains.specs.Objects.{Task}
use Rattle.jk_model_heaps.specs.declared.shapes.Shape.TheVariants as Of
use Rattle.object_store.specs.HeapContents.{IsLive}
use Rattle.system_calls.proofs.tasks.segment_of.Goals as goal

pub unreachable-requires : goal.unreachable-requires
unreachable-requires g c = c.in_default.not-Task c.requires.0 (c.shape.ensures (Task c.requires.0) c.requires.1)

same_segment : (n s : SegmentNo) → Of.Task n ≡ Of.Task s → n ≡ s
same_segment n s is = cc

pub returns : goal.returns
returns g c =
    subst (λ (n : SegmentNo). IsLive (g.H.ObjectStore.content c.args.heap.now) c.args.here.now.domain c.args.task (Task n))
    (same_segment c.requires.0 c.in-Task.s (sym (c.shape.ensures (Task c.requires.0) c.requires.1) ∙ c.in-Task.is)) c.requires.1
