-- By the lemmas on worlds of machines.
use Rattle.machine_laws.proofs.WorldsOpened.{opening_loads}
use Rattle.machine_laws.proofs.WorldsStay.{first_loads, kills_load, may_load, starts_load, steps_load}
use Rattle.machine_laws.proofs.openings.folders_may_be_loaded.Goals as goal

pub returns-clause-may : goal.returns-clause-may
returns-clause-may c = may_load

pub returns-clause-first : goal.returns-clause-first
returns-clause-first c = λ heap_pages stack_pages m first.
    first_loads heap_pages stack_pages m first (c.system_classes_are_sound.ensures m.classes first.system).0.codes.ordered

pub returns-clause-openings : goal.returns-clause-openings
returns-clause-openings c = λ f m new name quotas files h opens. opening_loads opens files h

pub returns-clause-starts : goal.returns-clause-starts
returns-clause-starts c = λ m new start lines known h starts. starts_load m start lines new known h starts

pub returns-clause-steps : goal.returns-clause-steps
returns-clause-steps c = λ m new t lines known h step. steps_load c.local_steps_keep.ensures m new t lines known h step

pub returns-clause-kills : goal.returns-clause-kills
returns-clause-kills c = kills_load
