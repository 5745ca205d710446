-- What holds of what names mean in one domain, where its folder was accepted.
use Rattle.std.specs.Prelude.{◌≡◌, ◌<◌, List, length}
use Rattle.jk_model.specs.SystemTable.{system_classes}
use Rattle.jk_model.specs.declared.identifiers.ClassId.{ClassId}
use Rattle.jk_model.specs.declared.identifiers.MemberId.{MemberId}
use Rattle.jk_model_classes.specs.declared.records.ClassRecord.{ClassRecord}
use Rattle.jk_model_classes.specs.declared.records.MethodRecord.{MethodRecord}
use Rattle.jk_model_classes.specs.Lookups.{MethodIs}
use Rattle.jk_model_classes.specs.Worlds.{IsNamed, NamedClass}
use Rattle.jk_model_sound_classes.specs.SoundClasses.{IsClosedTable}

-- Methods of one type, of classes that the domain knows, take the same parameters and answer the same, whichever folders their classes
-- are of.
abbrev pub AgreeOnTypes : List ClassRecord → List NamedClass → Type 0
AgreeOnTypes classes table =
    (m n : MemberId) (a b : MethodRecord) → MethodIs classes m a → MethodIs classes n b → IsNamed table m.class → IsNamed table n.class
    → a.kind ≡ b.kind → (a.params ≡ b.params) × (a.result ≡ b.result)

pub record IsSoundTable (classes : List ClassRecord) (table : List NamedClass) : Type 0 where
  -- it names what stands around each class that it names, and all system classes
  pub closed : IsClosedTable classes table
  pub knows_system : (c : ClassId) → c.0 < length system_classes → IsNamed table c
  pub agrees : AgreeOnTypes classes table
