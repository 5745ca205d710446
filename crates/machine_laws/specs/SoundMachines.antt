-- Machines whose classes and names are those of accepted folders, and machines that are sealed but for the top frame of one thread.
use Rattle.std.specs.Prelude.{true, List, Contains, map}
use Rattle.jk_model.specs.declared.identifiers.ThreadNo.{ThreadNo}
use Rattle.jk_model_classes.specs.Worlds.{NamedClass}
use Rattle.jk_model_sharing.specs.Segments.{with_revoked}
use Rattle.jk_model_machine_state.specs.Machines.{DomainState, Machine}
use Rattle.jk_model_machine_state.specs.Places.{RunningSegment, with_flags, without_top}
use Rattle.jk_model_runs.specs.AnsweredCalls.{AreCallsAnswered}
use Rattle.jk_model_runs.specs.Sealed.{IsSealed}
use Rattle.sound_folders.specs.LinkedWorlds.{AreLinked}
use Rattle.heap_laws.specs.SoundCodes.{AreSoundCodes}
use Rattle.heap_laws.specs.SoundTables.{IsSoundTable}

-- what names mean in each domain
abbrev pub tables_of : Machine → List (List NamedClass)
tables_of m = map (λ (d : DomainState). d.table) m.domains

pub record HasSoundClasses (m : Machine) : Type 0 where
  pub linked : AreLinked m.classes (tables_of m)
  -- what each instruction of a step rests on
  pub codes : AreSoundCodes m.classes
  pub tables : (d : DomainState) → Contains m.domains d → IsSoundTable m.classes d.table

-- Sealed but for this thread, whose top frame may stand at a call that has left it: so may the top frame of a segment that has a
-- RevokedException pending.
abbrev pub IsSealedAtCall : Machine → ThreadNo → Type 0
IsSealedAtCall m t = (p : RunningSegment m t) → IsSealed (with_flags p (with_revoked true p.segment.shared))

-- all calls are answered but that which the top segment of this thread answers
abbrev pub AreOthersAnswered : Machine → ThreadNo → Type 0
AreOthersAnswered m t = (p : RunningSegment m t) → AreCallsAnswered (without_top p)
