-- Words for the contracts of private functions.
use Rattle.std.specs.Prelude.{◌≡◌, ℕ, IsTrue, List, Some, not}
use Rattle.jk_model.specs.Flags.{has, PUBLIC, STATIC}
use Rattle.jk_model.specs.declared.identifiers.ClassId.{ClassId}
use Rattle.jk_model.specs.declared.identifiers.MemberId.{MemberId}
use Rattle.jk_model_classes.specs.declared.records.ClassRecord.{ClassRecord}
use Rattle.jk_model_classes.specs.declared.records.MethodRecord.{MethodRecord}
use Rattle.jk_model_classes.specs.Classes.{record_of}
use Rattle.jk_model_classes.specs.Lookups.{MethodIs, IsPackageOf}

-- there is such a class, and it is public
abbrev pub IsPublicClass : List ClassRecord → ClassId → Type 0
IsPublicClass classes c = (r : ClassRecord) × (record_of classes c ≡ Some r) × IsTrue (has r.flags PUBLIC)

-- there is such a method, and it is no static one
abbrev pub IsInstance : List ClassRecord → MemberId → Type 0
IsInstance classes m = (method : MethodRecord) × MethodIs classes m method × IsTrue (not (has method.flags STATIC))

-- the names begin with the same package
abbrev pub HaveOnePackage : List ℕ → List ℕ → Type 0
HaveOnePackage a b = (prefix : List ℕ) × IsPackageOf a prefix × IsPackageOf b prefix
