-- By the lemmas on instances, over the setting's own classes.
use Rattle.std.proofs.Common.{◌≡◌, List, Contains, None, sym, subst}
use Rattle.jk_model.specs.declared.identifiers.ClassId.{ClassId}
use Rattle.jk_model_classes.specs.declared.records.ClassRecord.{ClassRecord}
use Rattle.jk_model_classes.specs.declared.sharing.Stub.{Stub}
use Rattle.jk_model_classes.specs.Classes.{IsInterface, record_of}
use Rattle.jk_model_heaps.specs.Workings.{Setting}
use Rattle.jk_model_sealing.specs.SealedInsides.{Surroundings}
use Rattle.heap_laws.specs.RunningFrames.{IsKnownSetting}
use Rattle.heap_laws.specs.SoundCodes.{AreSoundCodes}
use Rattle.row_laws.proofs.InstancesFitTypes.{capability_fits, instance_fits, instance_held}
use Rattle.row_laws.proofs.operands.instances_fit.Goals as goal

module _ (around : Surroundings) (x : Setting) (known : IsKnownSetting around x) where
  sound : AreSoundCodes x.classes
  sound = subst AreSoundCodes (sym known.classes) known.codes

  shows : (s : Stub) (i : ClassId) → Contains x.caps.stand_ins s → record_of x.classes s.class ≡ None → Contains s.interfaces i
      → IsInterface x.classes i
  shows = subst
      (λ (classes : List ClassRecord). (s : Stub) (i : ClassId) → Contains x.caps.stand_ins s → record_of classes s.class ≡ None
      → Contains s.interfaces i → IsInterface classes i) (sym known.classes) known.stand_ins

pub returns-clause-types : goal.returns-clause-types
returns-clause-types c = λ classes a b sound isa. instance_fits classes sound a b isa

pub returns-clause-capabilities : goal.returns-clause-capabilities
returns-clause-capabilities c = λ around x k t known isa. capability_fits x.classes (sound around x known) x.caps k t (shows around x known) isa

pub returns-clause-values : goal.returns-clause-values
returns-clause-values c = λ around x heap v t known is. instance_held x.classes (sound around x known) x.caps heap v t (shows around x known) is
