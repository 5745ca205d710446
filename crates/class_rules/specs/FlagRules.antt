-- The flags of methods that the rules C12 and C13 ask of.
use Rattle.std.specs.Prelude.{ℕ, IsTrue, List}
use Rattle.jk_model.specs.declared.class_file.PoolEntry.{PoolEntry}
use Rattle.jk_model.specs.declared.class_file.MemberInfo.{MemberInfo}
use Rattle.jk_model.specs.Flags.{has}
use Rattle.class_rules.specs.Attributes.{CountFlags}

-- a flag that counts of the method is set
abbrev pub HasFlagged : List PoolEntry → ℕ → MemberInfo → Type 0
HasFlagged pool flag method = (flags : ℕ) × CountFlags pool method flags × IsTrue (has flags flag)
