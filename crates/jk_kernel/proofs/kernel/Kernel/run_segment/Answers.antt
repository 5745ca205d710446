-- Steps keep what holds of the machine.
use Rattle.std.proofs.Common.{subst}
use Rattle.jk_kernel.specs.SoundMachines.{IsSoundMachine}
use Rattle.jk_kernel.proofs.TurnsSoFar.{run_sound}
use Rattle.jk_kernel.proofs.kernel.Kernel.run_segment.Goals as goal

pub invariant_of-self : goal.invariant_of-self
invariant_of-self g c =
    let event = c.run_segment.ensures.event in
    run_sound c.machines_stay_sound.ensures.steps c.args.t event.2.ran.steps event.2.ran.left c.self.inside.parts c.run_segment.new.k event.0
    c.self.invariant event.2.runs

pub returns-clause-sound : goal.returns-clause-sound
returns-clause-sound g c =
    let event = c.run_segment.ensures.event in (
      subst IsSoundMachine c.self.view_is c.self.invariant,
      run_sound c.machines_stay_sound.ensures.steps c.args.t event.2.ran.steps event.2.ran.left c.self.inside.parts c.run_segment.new.k event.0
          c.self.invariant event.2.runs,
    )
