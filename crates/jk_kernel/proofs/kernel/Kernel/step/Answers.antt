-- A step keeps what holds of the machine.
use Rattle.std.proofs.Common.{subst}
use Rattle.jk_kernel.specs.SoundMachines.{IsSoundMachine}
use Rattle.jk_kernel.proofs.kernel.Kernel.step.Goals as goal

pub invariant_of-self : goal.invariant_of-self
invariant_of-self g c =
    let event = c.step.ensures.event in
    c.machines_stay_sound.ensures.steps c.self.inside.parts c.step.new.k c.args.t event.0 c.self.invariant event.2

pub returns-clause-sound : goal.returns-clause-sound
returns-clause-sound g c =
    let event = c.step.ensures.event in (
      subst IsSoundMachine c.self.view_is c.self.invariant,
      c.machines_stay_sound.ensures.steps c.self.inside.parts c.step.new.k c.args.t event.0 c.self.invariant event.2,
    )
