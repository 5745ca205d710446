-- The class files whose records are made.
use Rattle.std.specs.Prelude.{◌≡◌, ℕ, List, IsSome}
use Rattle.jk_model.specs.declared.class_file.ClassFile.{ClassFile}
use Rattle.jk_model.specs.ReadFaults.{IsWritable}
use Rattle.jk_model_classes.specs.LinkRules.{LinkScope}
use Rattle.jk_model_classes.specs.OneClassRules.{HasNoFault}
use Rattle.jk_model_classes.specs.References.{RefersAt}
use Rattle.jk_model_classes.specs.Worlds.{NamedClass, class_named}

-- It breaks none of the rules that a class file is judged by alone, and each class to which it refers is known by its name.
pub record IsLinkable (c : ClassFile) (names : List NamedClass) : Type 0 where
  pub writable : IsWritable c
  pub path : List ℕ
  pub alone : HasNoFault c path
  pub known : (i : ℕ) (name : List ℕ) → RefersAt c i name → IsSome (class_named names name)

-- the scope's names mean this
abbrev pub HasNames : List NamedClass → LinkScope → Type 0
HasNames names s = (name : List ℕ) → s.meaning name ≡ class_named names name
