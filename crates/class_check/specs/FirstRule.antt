-- Which of the rules C1 to C17 a file breaks first, and that it breaks none.
use Rattle.std.specs.Prelude.{◌≡◌, ℕ, ◌⊎◌, List, Result, Ok, Err}
use Rattle.class_reader.specs.declared.class.ReadRefusal.{ReadRefusal}
use Rattle.class_reader.specs.declared.class.ReadRefusal.TheVariants.{BadMagic, BadVersion, Truncated, Trailing, BadPool, OutOfMemory}
use Rattle.class_check.specs.declared.finding.Finding.{Finding}
use Rattle.class_check.specs.declared.finding.Finding.TheVariants.{Broken}
use Rattle.jk_model.specs.declared.class_file.ClassFile.{ClassFile}
use Rattle.jk_model.specs.declared.memory.OutOfMemory.{OutOfMemory as NoMemory}
use Rattle.jk_model.specs.declared.output.Rule.{Rule}
use Rattle.jk_model.specs.declared.output.Rule.TheVariants.{C1, C2, C3, C4, C5}
use Rattle.jk_model.specs.ClassFile.{IsClass}
use Rattle.jk_model.specs.ReadFaults.{BreaksReading}
use Rattle.jkasm.specs.Assembled.{IsAssembled}
use Rattle.jk_model_classes.specs.OneClassRules.{IsFirstFault, HasNoFault}

-- the bytes are a class file, which breaks none of the rules under this path
abbrev pub IsGoodFile : List ℕ → List ℕ → Type 0
IsGoodFile bytes path = (c : ClassFile) × IsClass bytes c × HasNoFault c path

-- The first rule that they break, and its number: C1 to C5 where they are no class file, else one of C6 to C17.
abbrev pub BreaksFirst : List ℕ → List ℕ → Rule → ℕ → Type 0
BreaksFirst bytes path rule n = BreaksReading bytes rule n ⊎ ((c : ClassFile) × IsClass bytes c × IsFirstFault c path rule n)

-- the text is assembled to a file, which is so
abbrev pub HasFileSo : List ℕ → (List ℕ → Type 0) → Type 0
HasFileSo text P = (bytes : List ℕ) × IsAssembled text bytes × P bytes

-- what is answered for bytes that are refused
abbrev pub of_refusal : ReadRefusal → Result Finding NoMemory
of_refusal BadMagic = Ok (Broken C1 0)
of_refusal BadVersion = Ok (Broken C2 4)
of_refusal (Truncated len) = Ok (Broken C3 len)
of_refusal (Trailing place) = Ok (Broken C4 place)
of_refusal (BadPool index) = Ok (Broken C5 index)
of_refusal OutOfMemory = Err record {}
