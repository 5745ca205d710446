-- The numbers of the system classes of which C27 speaks.
use Rattle.std.specs.Prelude.{◌≡◌, ◌↔◌, ℕ, List, Option, Some, codes}
use Rattle.jk_model.specs.declared.identifiers.ClassId.{ClassId}
use Rattle.jk_model_classes.specs.Stubs.{IsSystemNamed}
use Rattle.shared_interfaces.specs.declared.remote_numbers.RemoteNumbers.{RemoteNumbers}

-- what is known of the system class of this name
abbrev pub IsNumberOf : List ℕ → Option ClassId → Type 0
IsNumberOf name found = (c : ClassId) → IsSystemNamed name c ↔ (found ≡ Some c)

pub record AreRemoteNumbers (numbers : RemoteNumbers) : Type 0 where
  pub remote : IsNumberOf (codes "jk/Remote") numbers.remote
  pub remote_exception : IsNumberOf (codes "jk/RemoteException") numbers.remote_exception
  pub exception : IsNumberOf (codes "java/lang/Exception") numbers.exception
  pub throwable : IsNumberOf (codes "java/lang/Throwable") numbers.throwable
