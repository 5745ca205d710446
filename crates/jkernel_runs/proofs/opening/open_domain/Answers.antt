-- A name is a text, what is told is the event's line, and what was asked is the folder.
use Rattle.kernel_events.specs.PrintedLines.{sink}
use Rattle.jkernel_runs.specs.Events.{moment}
use Rattle.jkernel_runs.proofs.DomainOpens.{asks_folder, ends_named, name_is_utf8, text_place}
use Rattle.jkernel_runs.proofs.opening.open_domain.Goals as goal

pub unreachable-requires : goal.unreachable-requires
unreachable-requires g c =
    let fault = rw c.in_default.is at c.from_utf8.ensures.cases in
    absurd (fault.0 (name_is_utf8 c.args.name.now c.requires.named))

pub tell-requires : goal.tell-requires
tell-requires g c = record {
  place = text_place (g.F.Files.tree c.args.files.now) c.args.root.now c.args.kernel.now c.in-Ok.text.now c.args.quotas c.add_domain-added.result
      c.add_domain-added.ensures.refused;
}

pub returns-clause-ends : goal.returns-clause-ends
returns-clause-ends g c =
    let e = c.add_domain-added.ensures in
    ends_named (g.F.Files.tree c.args.files.now) c.args.root.now c.in-Ok.text.now c.args.name.now c.args.quotas c.args.kernel.now
    c.add_domain-added.new.self
    (moment (sink (g.S.Sink.bytes c.args.out.now) (g.S.Sink.pieces c.args.out.now) (g.S.Sink.faults c.args.out.now)) (g.F.Files.asked c.args.files.now)
    (g.F.Files.faults c.args.files.now))
    (moment (sink (g.S.Sink.bytes c.tell.new.out) (g.S.Sink.pieces c.tell.new.out) (g.S.Sink.faults c.tell.new.out))
    (g.F.Files.asked c.add_domain-added.new.files) (g.F.Files.faults c.add_domain-added.new.files))
    c.holds.ensures c.tell.result c.add_domain-added.result c.in-Ok.ensures.cases.0 e.ok e.refused e.err e.read_fault e.something
    (record { within = e.asks; once = e.once; live = e.live; live_asks = e.live_asks; missed = e.missed }) c.tell.ensures

pub returns-clause-asks : goal.returns-clause-asks
returns-clause-asks g c =
    let e = c.add_domain-added.ensures in
    asks_folder (g.F.Files.tree c.args.files.now) c.args.root.now c.args.name.now c.in-Ok.text.now c.args.quotas c.args.kernel.now
    (g.F.Files.asked c.args.files.now) (g.F.Files.asked c.add_domain-added.new.files) c.add_domain-added.result c.in-Ok.ensures.cases.0
    (record { within = e.asks; once = e.once; live = e.live; live_asks = e.live_asks; missed = e.missed })
