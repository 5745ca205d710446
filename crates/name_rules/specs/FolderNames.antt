-- What the names of the classes of a folder mean among themselves.
use Rattle.std.specs.Prelude.{◌≡◌, ℕ, ◌↔◌, List, Some, slice_get}
use Rattle.jk_model.specs.declared.class_file.ClassFile.{ClassFile}
use Rattle.jk_model_classes.specs.References.{IsCalledClass}
use Rattle.jk_model_classes.specs.Worlds.{NamedClass, class_named}

-- a name means the place of the file whose class it is
abbrev pub AreOwnNames : List ClassFile → List NamedClass → Type 0
AreOwnNames files own =
    (name : List ℕ) (i : ℕ) → (class_named own name ≡ Some (record { 0 = i }))
    ↔ ((c : ClassFile) × (slice_get files i ≡ Some c) × IsCalledClass c name)
