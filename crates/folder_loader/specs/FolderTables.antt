-- What names mean in the domain that is loaded.
use Rattle.std.specs.Prelude.{◌≡◌, ℕ, ◌+◌, ◌<◌, ◌⊎◌, ◌↔◌, List, length, Some, slice_get}
use Rattle.jk_model.specs.declared.class_file.ClassFile.{ClassFile}
use Rattle.jk_model.specs.declared.identifiers.ClassId.{ClassId}
use Rattle.jk_model_classes.specs.References.{IsCalledClass}
use Rattle.jk_model_classes.specs.Worlds.{NamedClass, class_named}

-- no name of a class of the folder means something outside of it
abbrev pub HasNoOwn : List ClassFile → List NamedClass → Type 0
HasNoOwn cs names =
    (i : ℕ) (c : ClassFile) (name : List ℕ) (class : ClassId) → slice_get cs i ≡ Some c → IsCalledClass c name → class_named names name ≡ Some class → ⊥

-- a class of the folder has this name, and of the first n in the order gets this number
abbrev pub IsOwnClass : List ClassFile → List ℕ → ℕ → ℕ → List ℕ → ClassId → Type 0
IsOwnClass cs order first n name class =
    (k : ℕ) × (i : ℕ) × (c : ClassFile) × (k < n) × (slice_get order k ≡ Some i) × (slice_get cs i ≡ Some c) × IsCalledClass c name × (class.0 ≡ first + k)

-- names mean what they mean outside of the folder, or the first n of its classes
abbrev pub IsTableUpTo : List ClassFile → List ℕ → ℕ → ℕ → List NamedClass → List NamedClass → Type 0
IsTableUpTo cs order first n names table =
    (name : List ℕ) (class : ClassId) → (class_named table name ≡ Some class)
    ↔ ((class_named names name ≡ Some class) ⊎ IsOwnClass cs order first n name class)

abbrev pub IsFolderTable : List ClassFile → List ℕ → ℕ → List NamedClass → List NamedClass → Type 0
IsFolderTable cs order first names table = IsTableUpTo cs order first (length order) names table
