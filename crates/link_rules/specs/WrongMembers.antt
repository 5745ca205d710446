-- C20 at an instruction, by what the entry that it names leads to.
use Rattle.std.specs.Prelude.{◌≡◌, ℕ, ◌⊎◌, not, IsTrue, List}
use Rattle.jk_model.specs.Flags.{has, ABSTRACT, STATIC}
use Rattle.jk_model.specs.declared.opcodes.TheConstants.{INVOKESPECIAL, INVOKESTATIC}
use Rattle.jk_model_classes.specs.declared.records.ClassRecord.{ClassRecord}
use Rattle.jk_model_classes.specs.declared.records.FieldRecord.{FieldRecord}
use Rattle.jk_model_classes.specs.declared.records.Link.{Link}
use Rattle.jk_model_classes.specs.declared.records.Link.TheVariants as To
use Rattle.jk_model_classes.specs.declared.records.MethodRecord.{MethodRecord}
use Rattle.jk_model_classes.specs.LinkRules.{is_instance_access, is_instance_call, is_static_access}
use Rattle.jk_model_classes.specs.Lookups.{FieldIs, MethodIs}

-- a field with these flags is of the wrong sort for the instruction
abbrev pub IsWrongField : ℕ → ℕ → Type 0
IsWrongField op flags =
    (IsTrue (is_static_access op) × IsTrue (not (has flags STATIC))) ⊎ (IsTrue (is_instance_access op) × IsTrue (has flags STATIC))

abbrev pub IsWrongMethod : ℕ → ℕ → Type 0
IsWrongMethod op flags =
    ((op ≡ INVOKESTATIC) × IsTrue (not (has flags STATIC))) ⊎ (IsTrue (is_instance_call op) × IsTrue (has flags STATIC))
    ⊎ ((op ≡ INVOKESPECIAL) × IsTrue (has flags ABSTRACT))

-- what the link leads to is of the wrong sort for the instruction
abbrev pub LeadsWrong : List ClassRecord → ℕ → Link → Type 0
LeadsWrong classes op (To.Field class m) = (field : FieldRecord) × FieldIs classes m field × IsWrongField op field.flags
LeadsWrong classes op (To.Method class m) = (method : MethodRecord) × MethodIs classes m method × IsWrongMethod op method.flags
LeadsWrong classes op link = ⊥
