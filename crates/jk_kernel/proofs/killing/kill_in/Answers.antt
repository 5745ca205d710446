-- The domain of the name ends, or no live domain has it.
use Rattle.std.proofs.Common.{[], ◌∷◌, subst}
use Rattle.jk_model.specs.declared.output.Line.TheVariants.{KillRefused}
use Rattle.jk_model_machine_state.specs.Machines.{Machine}
use Rattle.jk_model_runs.specs.Events.{Kills}
use Rattle.jk_model_runs.specs.Events.Kills.{kills, no_domain}
use Rattle.kernel_events.specs.PrintedLines.{SinkState}
use Rattle.kernel_parts.specs.SoundKernels.{KernelContent, kernel_machine}
use Rattle.kernel_openings.proofs.NamedDomains.{domain_here, none_here}
use Rattle.jk_kernel.proofs.LinesJoined.{printed_none}
use Rattle.jk_kernel.proofs.killing.kill_in.Goals as goal

pub returns-in_default : goal.returns-in_default
returns-in_default g c =
    let k = c.k.inside in
    let here : KernelContent = record {
      world = k.world;
      owns = k.owns.items;
      shared = k.shared;
      heap = g.H.ObjectStore.content k.heap;
      frames = g.F.SegmentFrames.content k.frames;
      main_kind = k.main_kind;
    } in
    let name = c.args.name.now in
    let a : SinkState = record { bytes = g.S.Sink.bytes c.args.out.now; pieces = g.S.Sink.pieces c.args.out.now; faults = g.S.Sink.faults c.args.out.now } in (
      KillRefused name ∷ [],
      c.print_next.ensures a.bytes a.pieces a.faults [] (printed_none a (g.met.S.Sink.faults_fit c.args.out.now)),
      subst (λ (m : Machine). Kills m name (KillRefused name ∷ []) m) c.k.view_is (no_domain (none_here here c.k.invariant name c.in_default.ensures)),
    )

pub end_domain-requires : goal.end_domain-requires
end_domain-requires g c =
    let k = c.k.inside in
    let here : KernelContent = record {
      world = k.world;
      owns = k.owns.items;
      shared = k.shared;
      heap = g.H.ObjectStore.content k.heap;
      frames = g.F.SegmentFrames.content k.frames;
      main_kind = k.main_kind;
    } in
    let named = domain_here here c.k.invariant c.args.name.now c.in-Some.d c.in-Some.ensures in
    record { may = (k.main_kind, c.k.invariant.sound.fitting, named.live) }

pub invariant_of-k : goal.invariant_of-k
invariant_of-k g c = c.end_domain.ensures.parts c.k.inside.main_kind c.k.invariant

pub returns : goal.returns
returns g c =
    let k = c.k.inside in
    let here : KernelContent = record {
      world = k.world;
      owns = k.owns.items;
      shared = k.shared;
      heap = g.H.ObjectStore.content k.heap;
      frames = g.F.SegmentFrames.content k.frames;
      main_kind = k.main_kind;
    } in
    let then : KernelContent = record {
      world = c.end_domain.new.w;
      owns = c.end_domain.new.owns.items;
      shared = c.end_domain.new.shared;
      heap = g.H.ObjectStore.content c.end_domain.new.heap;
      frames = g.F.SegmentFrames.content c.end_domain.new.frames;
      main_kind = k.main_kind;
    } in
    let name = c.args.name.now in
    let named = domain_here here c.k.invariant name c.in-Some.d c.in-Some.ensures in
    let event = c.end_domain.ensures.event in (
      event.0,
      event.1,
      subst (λ (m : Machine). Kills m name event.0 (kernel_machine then)) c.k.view_is
          (kills named.live.domain event.0 (kernel_machine then) named.found (event.3 k.main_kind named.live c.k.invariant.sound.fitting)),
    )
