-- The first rule that a class file of a folder breaks by itself.
use Rattle.std.specs.Prelude.{List, ◌⊎◌}
use Rattle.jk_model.specs.declared.class_file.ClassFile.{ClassFile}
use Rattle.jk_model_classes.specs.OneClassRules.{one_class_rules}
use Rattle.jk_model_folders.specs.declared.files.FolderFiles.{FolderFiles}
use Rattle.jk_model_folders.specs.FolderRules.{AreClassFiles, BreaksAlone, IsFirstBroken, ReadsBadly, reading_rules}
use Rattle.class_files.specs.declared.faults.FileFault.{FileFault}

-- of C1 to C5, by its bytes
abbrev pub IsReadFault : FolderFiles → FileFault → Type 0
IsReadFault f fault = IsFirstBroken reading_rules (ReadsBadly f) fault.rule fault.file fault.number

-- of C6 to C17, by its record
abbrev pub IsAloneFault : FolderFiles → List ClassFile → FileFault → Type 0
IsAloneFault f cs fault = IsFirstBroken one_class_rules (BreaksAlone f cs) fault.rule fault.file fault.number

-- of C1 to C17; those from C6 on are read only where all files are class files
abbrev pub IsOwnFault : FolderFiles → FileFault → Type 0
IsOwnFault f fault = IsReadFault f fault ⊎ ((cs : List ClassFile) × AreClassFiles f cs × IsAloneFault f cs fault)
