-- What stands in the attribute Code of a method.
use Rattle.std.specs.Prelude.{ℕ, List, length}
use Rattle.jk_model.specs.declared.class_file.Code.{Code}
use Rattle.jk_model.specs.ClassFile.{CodeLayout, AreBytes, IsU4}

-- The bytes are the body of this Code attribute, and fit one.
pub record IsCodeBody (code : Code) (body : List ℕ) : Type 0 where
  pub layout : CodeLayout body code
  pub short : IsU4 (length body)
  pub bytes : AreBytes body
