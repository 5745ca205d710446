-- Each clause by the laws of machine_laws, and counts by what events let rise.
use Rattle.jk_kernel.proofs.MachinesStaySound.{first_sound, kills_sound, openings_sound, starts_sound, steps_sound}
use Rattle.jk_kernel.proofs.laws.machines_stay_sound.Goals as goal

pub returns-clause-first : goal.returns-clause-first
returns-clause-first c =
    first_sound c.first_machines_are_known.ensures.known c.machines_stay_whole.ensures.first c.folders_may_be_loaded.ensures.first

pub returns-clause-starts : goal.returns-clause-starts
returns-clause-starts c =
    starts_sound c.starts_stay_known.ensures.known c.machines_may_grow.ensures.starts c.folders_may_be_loaded.ensures.starts

pub returns-clause-steps : goal.returns-clause-steps
returns-clause-steps c =
    steps_sound c.steps_stay_known.ensures c.machines_may_grow.ensures.steps c.folders_may_be_loaded.ensures.steps c.numbers_rise.ensures

pub returns-clause-kills : goal.returns-clause-kills
returns-clause-kills c =
    kills_sound c.kills_stay_known.ensures c.machines_may_grow.ensures.kills c.folders_may_be_loaded.ensures.kills c.numbers_rise.ensures

pub returns-clause-openings : goal.returns-clause-openings
returns-clause-openings c = openings_sound c.openings_stay_known.ensures c.folders_may_be_loaded.ensures.openings
