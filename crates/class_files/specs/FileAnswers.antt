-- What is answered of the bytes of one file.
use Rattle.std.specs.Prelude.{◌≡◌, ℕ, ⊤, List, Result, Ok, Err}
use Rattle.jk_model.specs.declared.class_file.ClassFile.{ClassFile}
use Rattle.jk_model.specs.declared.output.Rule.{Rule}
use Rattle.jk_model.specs.declared.output.Rule.TheVariants.{C1, C2, C3, C4, C5}
use Rattle.jk_model.specs.ClassFile.{IsClass}
use Rattle.jk_model.specs.ReadFaults.{BreaksReading}
use Rattle.jk_model_folders.specs.declared.files.FolderFile.{FolderFile}
use Rattle.class_reader.specs.declared.class.ReadRefusal.{ReadRefusal}
use Rattle.class_reader.specs.declared.class.ReadRefusal.TheVariants.{BadMagic, BadVersion, Truncated, Trailing, BadPool, OutOfMemory}
use Rattle.class_texts.specs.PoolTexts.{AreTextsOf}
use Rattle.class_files.specs.declared.folder_class.FolderClass.{FolderClass}
use Rattle.class_files.specs.declared.reading.NotRead.{NotRead}
use Rattle.class_files.specs.declared.reading.NotRead.TheVariants as Not

-- the rule that stands for a refusal of the reader, with its number
abbrev pub of_refusal : ReadRefusal → NotRead
of_refusal BadMagic = Not.Broken (record { rule = C1; number = 0 })
of_refusal BadVersion = Not.Broken (record { rule = C2; number = 4 })
of_refusal (Truncated len) = Not.Broken (record { rule = C3; number = len })
of_refusal (Trailing place) = Not.Broken (record { rule = C4; number = place })
of_refusal (BadPool index) = Not.Broken (record { rule = C5; number = index })
of_refusal OutOfMemory = Not.OutOfMemory

-- Bytes are a class file and break no rule, or break one alone, at one number.
abbrev pub IsReading : List ℕ → Result ClassFile NotRead → Type 0
IsReading bytes (Ok c) = IsClass bytes c × ((rule : Rule) (n : ℕ) → BreaksReading bytes rule n → ⊥)
IsReading bytes (Err (Not.Broken fault)) =
    BreaksReading bytes fault.rule fault.number
    × ((rule : Rule) (n : ℕ) → BreaksReading bytes rule n → (rule ≡ fault.rule) × (n ≡ fault.number))
IsReading bytes (Err Not.OutOfMemory) = ⊤

-- the file is this class file, with the texts of its pool
abbrev pub IsReadOf : FolderFile → FolderClass → Type 0
IsReadOf file f = IsClass file.bytes f.file × AreTextsOf f.file.pool f.texts
