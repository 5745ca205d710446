-- The classes of a folder are asked in their order, and the first file counts whose class breaks a rule.
use Rattle.std.specs.Prelude.{◌≡◌, ℕ, ◌<◌, List, Option, Some, None, nat_lt, slice_get, if◌then◌else◌}
use Rattle.jk_model.specs.declared.class_file.ClassFile.{ClassFile}
use Rattle.jk_model.specs.declared.output.Rule.{Rule}
use Rattle.jk_model_classes.specs.Items.{Spot, IsBefore, spot_number}
use Rattle.class_files.specs.declared.faults.FileFault.{FileFault}

-- of the fault so far and that of another file: the one of the earlier file, or else the one so far
abbrev pub first_file : Option FileFault → FileFault → FileFault
first_file None next = next
first_file (Some best) next = if nat_lt next.file best.file then next else best

-- Of the first n classes in the order, one that breaks the rule, and of those that do the one whose file comes first.
pub record IsFirstFile (rule : Rule) (n : ℕ) (order : List ℕ) (Breaks : ℕ → Spot → Type 0) (fault : FileFault) : Type 0 where
  pub rule_is : fault.rule ≡ rule
  pub place : ℕ
  pub inside : place < n
  pub there : slice_get order place ≡ Some fault.file
  pub spot : Spot
  pub broken : Breaks place spot
  pub least : (other : Spot) → IsBefore other spot → Breaks place other → ⊥
  pub is_number : fault.number ≡ spot_number spot
  pub earlier : (k i : ℕ) (at : Spot) → k < n → slice_get order k ≡ Some i → i < fault.file → Breaks k at → ⊥

-- the first of them, or none where no class of these breaks the rule
abbrev pub IsFirstFault : Rule → ℕ → List ℕ → (ℕ → Spot → Type 0) → Option FileFault → Type 0
IsFirstFault rule n order Breaks None = (k i : ℕ) (at : Spot) → k < n → slice_get order k ≡ Some i → Breaks k at → ⊥
IsFirstFault rule n order Breaks (Some fault) = IsFirstFile rule n order Breaks fault

-- the file of the class at this place of the order breaks a rule that is read of the place and the class file
abbrev pub BreaksInFile : List ℕ → List ClassFile → (ℕ → ClassFile → Spot → Type 0) → ℕ → Spot → Type 0
BreaksInFile order files Breaks k spot =
    (i : ℕ) × (c : ClassFile) × (slice_get order k ≡ Some i) × (slice_get files i ≡ Some c) × Breaks k c spot
