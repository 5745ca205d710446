-- A class among all others whose references are judged, and the least number at which it breaks a rule.
use Rattle.std.specs.Prelude.{◌≡◌, ℕ, List, Option, Some, MatchOption}
use Rattle.jk_model.specs.declared.class_file.ClassFile.{ClassFile}
use Rattle.jk_model.specs.declared.identifiers.DomainId.{DomainId}
use Rattle.jk_model.specs.ReadFaults.{IsWritable}
use Rattle.jk_model_classes.specs.declared.records.ClassRecord.{ClassRecord}
use Rattle.jk_model_classes.specs.declared.records.Link.{Link}
use Rattle.jk_model_classes.specs.Classes.{record_of}
use Rattle.jk_model_classes.specs.Items.{Spot, IsBefore, spot_number}
use Rattle.jk_model_classes.specs.LinkRules.{LinkScope}
use Rattle.jk_model_classes.specs.OneClassRules.{HasNoFault}
use Rattle.jk_model_folders.specs.LinkedClasses.{AreLinksFor, IsRecordFor}

-- The class file breaks none of the rules that it is judged by alone, the scope's class has the record that it gives, and
-- the entries of its pool lead to these.
pub record IsLinked (s : LinkScope) (c : ClassFile) (links : List Link) : Type 0 where
  pub writable : IsWritable c
  pub path : List ℕ
  pub alone : HasNoFault c path
  pub home : DomainId
  pub class : ClassRecord
  pub class_is : record_of s.classes s.self ≡ Some class
  pub record_is : IsRecordFor s home c class
  pub links_are : AreLinksFor s c links

-- the number of the least spot at which a rule is broken; nothing where it is broken nowhere
abbrev pub IsLeastNumber : (Spot → Type 0) → Option ℕ → Type 0
IsLeastNumber Broken number =
    MatchOption number
    ((spot : Spot) → Broken spot → ⊥)
    (λ n. (spot : Spot) × Broken spot × ((other : Spot) → IsBefore other spot → Broken other → ⊥) × (n ≡ spot_number spot))
