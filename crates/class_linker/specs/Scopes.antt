-- A class file that is being linked.
use Rattle.std.specs.Prelude.{◌≡◌, List, length, Option}
use Rattle.jk_model.specs.declared.class_file.PoolEntry.{PoolEntry}
use Rattle.jk_model.specs.declared.identifiers.ClassId.{ClassId}
use Rattle.jk_model_classes.specs.Worlds.{NamedClass}
use Rattle.class_texts.specs.PoolTexts.{AreTextsOf}
use Rattle.class_linker.specs.LinkedFiles.{IsLinkable}
use Rattle.class_linker.specs.TextsSaid.{Answers, AreAt, SaysClass}
use Rattle.class_linker.specs.declared.scope.Scope.{Scope}

-- each text's item is the class that it names, or nothing where it names none
pub record AreNamed (names : List NamedClass) (pool : List PoolEntry) (classes : List (Option ClassId)) : Type 0 where
  pub as_many : length classes ≡ length pool
  pub each : AreAt (λ i (found : Option ClassId). Answers (SaysClass names pool i) found) classes

-- its parts belong together
pub record IsScope (x : Scope) : Type 0 where
  pub linkable : IsLinkable x.file.now x.names.now
  pub texts : AreTextsOf x.file.now.pool x.texts.now
  pub classes : AreNamed x.names.now x.file.now.pool x.classes.now
