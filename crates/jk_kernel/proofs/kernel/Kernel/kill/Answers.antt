-- A kill keeps what holds of the machine, frees just the pages of its domain, and draws no number.
use Rattle.std.proofs.Common.{subst}
use Rattle.jk_model_machine_state.specs.Machines.{Machine}
use Rattle.jk_model_runs.specs.Events.{Kills}
use Rattle.jk_kernel.specs.SoundMachines.{IsSoundMachine}
use Rattle.jk_kernel.proofs.NumbersLeft.{counts_of}
use Rattle.jk_kernel.proofs.kernel.Kernel.kill.Goals as goal

pub invariant_of-self : goal.invariant_of-self
invariant_of-self g c =
    let event = c.kill_in.ensures in
    c.machines_stay_sound.ensures.kills c.self.inside.parts c.kill_in.new.k c.args.name.now event.0 c.self.invariant event.2

pub returns-clause-pages : goal.returns-clause-pages
returns-clause-pages g c =
    let event = c.kill_in.ensures in
    let name = c.args.name.now in
    let new = c.kill_in.new.k in
    let sound = subst IsSoundMachine c.self.view_is c.self.invariant in
    c.kills_free_pages.ensures c.args.self.now new name event.0 sound.known.0.0
    (subst (λ (m : Machine). Kills m name event.0 new) c.self.view_is event.2)

pub returns-clause-counts : goal.returns-clause-counts
returns-clause-counts g c =
    let event = c.kill_in.ensures in
    let name = c.args.name.now in
    let new = c.kill_in.new.k in
    counts_of c.args.self.now new 0
    (c.numbers_rise.ensures.kills c.args.self.now new name event.0 (subst (λ (m : Machine). Kills m name event.0 new) c.self.view_is event.2))
