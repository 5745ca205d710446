-- The class files of a folder with their texts.
use Rattle.std.specs.Prelude.{List, ℕ, map}
use Rattle.std.specs.List.{AllByRecursion}
use Rattle.jk_model.specs.declared.class_file.ClassFile.{ClassFile}
use Rattle.jk_model.specs.ReadFaults.{IsWritable}
use Rattle.jk_model_classes.specs.OneClassRules.{HasNoFault}
use Rattle.class_texts.specs.PoolTexts.{AreTextsOf}
use Rattle.class_files.specs.declared.folder_class.FolderClass.{FolderClass}

-- A class file that breaks none of the rules that it is judged by alone, with the texts of its pool.
pub record IsReadClass (f : FolderClass) : Type 0 where
  pub writable : IsWritable f.file
  pub path : List ℕ
  pub alone : HasNoFault f.file path
  pub texts : AreTextsOf f.file.pool f.texts

abbrev pub AreReadClasses : List FolderClass → Type 0
AreReadClasses folder = AllByRecursion IsReadClass folder

abbrev pub files_of : List FolderClass → List ClassFile
files_of folder = map (λ (f : FolderClass). f.file) folder
