-- What is printed of a thread whose top segment was left, by what has become of it.
use Rattle.std.specs.Prelude.{◌≡◌, List, [], ◌∷◌, Some}
use Rattle.jk_model.specs.declared.identifiers.ThreadNo.{ThreadNo}
use Rattle.jk_model.specs.declared.output.Line.{Line}
use Rattle.jk_model.specs.declared.output.Line.TheVariants as Says
use Rattle.jk_model_classes.specs.declared.records.ClassRecord.{ClassRecord}
use Rattle.jk_model_classes.specs.Classes.{record_of}
use Rattle.domain_crossing.specs.declared.answers.Left.{Left}
use Rattle.domain_crossing.specs.declared.answers.Left.TheVariants as Became

-- Nothing of a thread that lives, though something be raised in it; that it ended; or that it ended by a class, which is told by its name.
abbrev pub PrintedOf : List ClassRecord → ThreadNo → Left → List Line → Type 0
PrintedOf classes t Became.Delivered lines = lines ≡ []
PrintedOf classes t (Became.Raised r) lines = lines ≡ []
PrintedOf classes t Became.Ended lines = lines ≡ Says.Ended t ∷ []
PrintedOf classes t (Became.EndedBy c) lines = (r : ClassRecord) × (record_of classes c ≡ Some r) × (lines ≡ Says.EndedBy t r.name ∷ [])
