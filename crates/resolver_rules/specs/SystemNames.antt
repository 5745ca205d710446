-- What it is to give the names of the system classes their meaning.
use Rattle.std.specs.Prelude.{◌≡◌, ℕ, ◌<◌, ◌⊎◌, ◌↔◌, List, Contains, Some}
use Rattle.jk_model.specs.declared.identifiers.ClassId.{ClassId}
use Rattle.jk_model_classes.specs.SystemRecords.{system_meaning}
use Rattle.jk_model_classes.specs.Worlds.{NamedClass}

-- a name that is also that of a system class means that class
abbrev pub AgreesWithSystem : List NamedClass → Type 0
AgreesWithSystem names = (e : NamedClass) (s : ClassId) → Contains names e → system_meaning e.name ≡ Some s → s ≡ e.class

-- the system class of this number has the name that is given
abbrev pub IsSystemName : ℕ → NamedClass → Type 0
IsSystemName number e = (e.class.0 ≡ number) × (system_meaning e.name ≡ Some e.class)

pub record AddsSystemName (number : ℕ) (old new : List NamedClass) : Type 0 where
  pub agrees : AgreesWithSystem new
  pub has : (e : NamedClass) → Contains new e ↔ (IsSystemName number e ⊎ Contains old e)

-- the names of the system classes below a number, and those that were there
pub record HasSystemNames (count : ℕ) (old new : List NamedClass) : Type 0 where
  pub agrees : AgreesWithSystem new
  pub has : (e : NamedClass) → Contains new e ↔ (((e.class.0 < count) × (system_meaning e.name ≡ Some e.class)) ⊎ Contains old e)
