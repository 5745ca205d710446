-- System classes refer to no class.
use Rattle.std.proofs.Common.{◌≡◌, ℕ, ◌<◌, List, [], length, refl, Option, Some, None, slice_get}
use Rattle.std.proofs.lemmas.Option.{slice_get_within}
use Rattle.list_lemmas.proofs.ItemsByPlace.{not_missing}
use Rattle.jk_model.specs.declared.identifiers.ClassId.{ClassId}
use Rattle.jk_model.specs.SystemTable.{SystemClass, system_classes}
use Rattle.jk_model_classes.specs.declared.records.ClassRecord.{ClassRecord}
use Rattle.jk_model_classes.specs.Classes.{record_of}
use Rattle.jk_model_classes.specs.SystemRecords.{AreSystemRecords}
use Rattle.jk_model_classes.specs.Worlds.{NamesClasses}

refer_from : (classes : List ClassRecord) (entries : List SystemClass) (n : ℕ) (r : ClassRecord) → length classes ≡ length entries
    → ((entry : SystemClass) → slice_get entries n ≡ Some entry → r.references ≡ []) → n < length classes → (e : Option SystemClass)
    → slice_get entries n ≡ e → NamesClasses classes r
refer_from classes entries n r many none low (Some entry) at = record { references = rw (none entry at) tt }
refer_from classes entries n r many none low None at = absurd (not_missing entries n (rw (← many) low) at)

pub refer_to_none : (classes : List ClassRecord) → AreSystemRecords classes → (c : ClassId) (r : ClassRecord) → record_of classes c ≡ Some r
    → NamesClasses classes r
refer_to_none classes h c r at =
    refer_from classes system_classes c.0 r h.as_many (λ entry there. (h.each c.0 entry r there at).references) (slice_get_within classes c.0 r at)
    (slice_get system_classes c.0) refl
