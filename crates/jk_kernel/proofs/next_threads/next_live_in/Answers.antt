-- By what domains share of threads.
use Rattle.std.proofs.Common.{◌<◌, subst}
use Rattle.std.specs.Prelude.{IfNone, IfSome}
use Rattle.jk_model.specs.declared.identifiers.ThreadNo.{ThreadNo}
use Rattle.jk_model_machine_state.specs.Machines.{IsLiveThread, Machine}
use Rattle.kernel_events.specs.KernelCalls.{IsNextLive}
use Rattle.kernel_parts.specs.SoundKernels.{KernelContent, parts_of}
use Rattle.jk_kernel.proofs.NextThreads.{next_found, none_found}
use Rattle.jk_kernel.proofs.next_threads.next_live_in.Goals as goal

pub returns-clause-some : goal.returns-clause-some
returns-clause-some g c =
    let k = c.k.inside in
    let content : KernelContent = record {
      world = k.world;
      owns = k.owns.items;
      shared = k.shared;
      heap = g.H.ObjectStore.content k.heap;
      frames = g.F.SegmentFrames.content k.frames;
      main_kind = k.main_kind;
    } in
    subst (λ (m : Machine). IfSome c.next_live.result (λ t. IsNextLive m c.args.above t)) c.k.view_is
    (next_found (parts_of content) c.args.above c.next_live.result c.next_live.ensures)

pub returns-clause-none : goal.returns-clause-none
returns-clause-none g c =
    let k = c.k.inside in
    let content : KernelContent = record {
      world = k.world;
      owns = k.owns.items;
      shared = k.shared;
      heap = g.H.ObjectStore.content k.heap;
      frames = g.F.SegmentFrames.content k.frames;
      main_kind = k.main_kind;
    } in
    subst (λ (m : Machine). IfNone c.next_live.result ((u : ThreadNo) → c.args.above < u.0 → IsLiveThread m u → ⊥)) c.k.view_is
    (none_found (parts_of content) c.args.above c.next_live.result c.next_live.ensures)
