-- By what was seen at the class.
use Rattle.std.proofs.Common.{rules}
use Rattle.step_contents.specs.StandingFrames.{place_of}
use Rattle.segment_steps.proofs.ReadyClasses.{ready_by_look}
use Rattle.segment_steps.proofs.working.is_ready.Goals as goal

pub returns-in-Some : goal.returns-in-Some
returns-in-Some c = λ ready k needs.
    ready_by_look (place_of c.args.at.now) c.args.own.now.state c.args.t c.in-Some.c c.in-Some.ensures c.look.result c.look.ensures (search rules) k needs

pub returns-in-None : goal.returns-in-None
returns-in-None c = λ ready k needs. absurd (c.in-None.ensures k needs)
