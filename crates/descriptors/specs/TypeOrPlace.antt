-- What is answered of a descriptor: its type, or the place where it stops being one.
use Rattle.std.specs.Prelude.{ℕ, List, Result, Ok, Err}
use Rattle.jk_model.specs.declared.descriptors.FieldType.{FieldType}
use Rattle.jk_model.specs.declared.descriptors.MethodType.{MethodType}
use Rattle.jk_model.specs.Descriptors.{IsFieldText, IsMethodText, IsBadFieldText, IsBadMethodText}
use Rattle.descriptors.specs.declared.error.DescriptorError.{DescriptorError}
use Rattle.descriptors.specs.declared.error.DescriptorError.TheVariants.{BadDescriptor, OutOfMemory}

-- the units are the text of this type, or begin one so far
abbrev pub IsFieldAnswer : List ℕ → Result FieldType DescriptorError → Type 0
IsFieldAnswer units (Ok t) = IsFieldText units t
IsFieldAnswer units (Err (BadDescriptor place)) = IsBadFieldText units place
IsFieldAnswer units (Err OutOfMemory) = Unit {0}

abbrev pub IsMethodAnswer : List ℕ → Result MethodType DescriptorError → Type 0
IsMethodAnswer units (Ok m) = IsMethodText units m
IsMethodAnswer units (Err (BadDescriptor place)) = IsBadMethodText units place
IsMethodAnswer units (Err OutOfMemory) = Unit {0}
