-- C21 at the entries of a pool, by what they lead to.
use Rattle.std.specs.Prelude.{ℕ, ◌<◌, List, Option, Some, None}
use Rattle.jk_model.specs.declared.class_file.ClassFile.{ClassFile}
use Rattle.jk_model.specs.declared.identifiers.ClassId.{ClassId}
use Rattle.jk_model_classes.specs.declared.records.BaseRef.{BaseRef}
use Rattle.jk_model_classes.specs.declared.records.BaseRef.TheVariants as Base
use Rattle.jk_model_classes.specs.declared.records.ClassRecord.{ClassRecord}
use Rattle.jk_model_classes.specs.declared.records.Link.{Link}
use Rattle.jk_model_classes.specs.declared.records.Link.TheVariants as To
use Rattle.jk_model_classes.specs.declared.records.Member.TheVariants as Found
use Rattle.jk_model_classes.specs.Items.{Entry as AtEntry}
use Rattle.jk_model_classes.specs.LinkRules.{LinkScope, IsAccessRefused}
use Rattle.jk_model_classes.specs.Lookups.{MayAccess, MayAccessClass}

-- the class may not access what a type is of
abbrev pub RefusesBase : List ClassRecord → ClassId → BaseRef → Type 0
RefusesBase classes self (Base.Class class) = MayAccessClass classes self class → ⊥
RefusesBase classes self base = ⊥

-- the class may not access what the link leads to
abbrev pub RefusesLink : List ClassRecord → ClassId → Link → Type 0
RefusesLink classes self (To.Class t) = RefusesBase classes self t.base
RefusesLink classes self (To.Field class m) = MayAccess classes self (Found.Field m) → ⊥
RefusesLink classes self (To.Method class m) = MayAccess classes self (Found.Method m) → ⊥
RefusesLink classes self link = ⊥

-- the first entry at which access is refused; none where it is at none
abbrev pub IsFirstRefused : LinkScope → ClassFile → Option ℕ → Type 0
IsFirstRefused s c None = (i : ℕ) → IsAccessRefused s c (AtEntry i) → ⊥
IsFirstRefused s c (Some i) = IsAccessRefused s c (AtEntry i) × ((j : ℕ) → j < i → IsAccessRefused s c (AtEntry j) → ⊥)
