-- By the lemma on the machine without domains; of its classes nothing is left to show.
use Rattle.std.proofs.Common.{List, map, sym, subst, ap}
use Rattle.jk_model_classes.specs.Worlds.{NamedClass}
use Rattle.jk_model_machine_state.specs.Machines.{DomainState}
use Rattle.list_lemmas.proofs.ItemsOfLists.{none_in}
use Rattle.sound_folders.specs.LinkedWorlds.{AreLinked}
use Rattle.machine_laws.proofs.FirstMachineWhole.{first_whole}
use Rattle.machine_laws.proofs.machines.first_machines_are_known.Goals as goal

pub returns-clause-whole : goal.returns-clause-whole
returns-clause-whole c = first_whole

pub returns-clause-known : goal.returns-clause-known
returns-clause-known c = λ heap_pages stack_pages m first.
    let classes = c.system_classes_are_sound.ensures m.classes first.system in (
      first_whole heap_pages stack_pages m first,
      record {
        linked = subst (λ (tables : List (List NamedClass)). AreLinked m.classes tables)
            (ap (map (λ (d : DomainState). d.table)) (sym first.no_domains)) classes.1;
        codes = classes.0.codes;
        tables = λ d there. absurd (none_in d m.domains first.no_domains there);
      },
    )
