-- A domain can be opened wherever 44 words fit.
use Rattle.std.proofs.Common.{ℕ, ◌+◌, ◌≤◌, List, [], None, refl, sym, subst, arith}
use Rattle.jk_model_classes.specs.declared.records.ClassRecord.{ClassRecord}
use Rattle.jk_model_classes.specs.Worlds.{NamedClass}
use Rattle.jk_model_heaps.specs.Heaps.{Makes}
use Rattle.jk_model_heaps.specs.Workings.{Inside}
use Rattle.jk_model_openings.specs.OpenedDomains.{IsOpening}
use Rattle.heap_laws.specs.SoundCodes.{AreSoundCodes}
use Rattle.machine_laws.proofs.FirstObjects.{first_names_differ, first_nothing_else, first_objects, first_standing, first_words}
use Rattle.machine_laws.proofs.FirstParts.{first_is_own, first_own}

module _ (classes : List ClassRecord) (table : List NamedClass) (quota : ℕ) (codes : AreSoundCodes classes) (room : 44 ≤ quota) where
  abbrev first_inside : Inside
  first_inside = record { own = first_own classes table; heap = first_objects classes; heap_at = None; stack_at = None }

  made : Makes classes quota [] (first_objects classes) (first_objects classes)
  made = record {
    fresh = λ e has. refl;
    differ = first_names_differ classes;
    fits = subst (λ (n : ℕ). 0 + n ≤ quota) (sym (first_words classes codes.ordered codes.system)) (omega (arith, room));
    grown = refl;
  }

  pub opening_there : (inside : Inside) × IsOpening classes table quota inside
  opening_there = (
    first_inside,
    record {
      own = first_is_own classes table;
      makes = made;
      out = refl;
      standing = first_standing classes (first_own classes table) refl refl;
      nothing_else = first_nothing_else classes (first_own classes table) refl refl;
    },
  )
