-- What the instructions of a record's methods do: those that stand in place of the decoded ones.
use Rattle.std.specs.Prelude.{◌≡◌, ℕ, ◌⊎◌, pos, IsTrue, List, Option, Some, slice_get}
use Rattle.jk_model.specs.declared.class_file.ClassFile.{ClassFile}
use Rattle.jk_model.specs.declared.class_file.PoolEntry.{PoolEntry}
use Rattle.jk_model.specs.declared.class_file.PoolEntry.TheVariants as Entry
use Rattle.jk_model.specs.declared.identifiers.ClassId.{ClassId}
use Rattle.jk_model.specs.declared.instructions.Instr.{Instr}
use Rattle.jk_model.specs.Descriptors.{IsClassName}
use Rattle.jk_model.specs.Flags.{has, ABSTRACT, INTERFACE}
use Rattle.jk_model.specs.declared.opcodes.TheConstants.{NEW}
use Rattle.jk_model_classes.specs.declared.records.BaseRef.TheVariants as Base
use Rattle.jk_model_classes.specs.declared.records.Body.{Body}
use Rattle.jk_model_classes.specs.declared.records.Body.TheVariants as Does
use Rattle.jk_model_classes.specs.declared.records.ClassRecord.{ClassRecord}
use Rattle.jk_model_classes.specs.declared.records.Link.{Link}
use Rattle.jk_model_classes.specs.declared.records.Link.TheVariants as To
use Rattle.jk_model_classes.specs.declared.records.MethodRecord.{MethodRecord}
use Rattle.jk_model_classes.specs.Classes.{record_of}
use Rattle.jk_model_classes.specs.Items.{HasItem}
use Rattle.jk_model_classes.specs.LinkRules.{FindsWrongField, FindsWrongMethod, HasNoConstructor, LinkScope, PutsFinal}
use Rattle.jk_model_classes.specs.Members.{ClassAt}

-- the body has an instruction that is so
abbrev pub BodyHas : (Instr → Type 0) → Body → Type 0
BodyHas P (Does.Linked code) = HasItem P code.instrs
BodyHas P body = ⊥

abbrev pub HasLinkedInstr : (Instr → Type 0) → MethodRecord → Type 0
HasLinkedInstr P method = BodyHas P method.body

-- ---- C20: a member of the wrong sort is found.

abbrev pub FindsWrong : LinkScope → ClassFile → Instr → Type 0
FindsWrong s c instr = FindsWrongField s c instr ⊎ FindsWrongMethod s c instr

-- ---- C21: a final field is put, or what may not be made is made. Arrays have no names that are a class's.

-- objects of this class, which has this name, aren't made by `new`
abbrev pub IsUnmakable : List ClassRecord → ClassId → List ℕ → Type 0
IsUnmakable classes class name =
    (r : ClassRecord) × (record_of classes class ≡ Some r)
    × (IsTrue (has r.flags INTERFACE) ⊎ IsTrue (has r.flags ABSTRACT) ⊎ HasNoConstructor name)

abbrev pub MakesUnmakable : LinkScope → ClassFile → Instr → Type 0
MakesUnmakable s c instr =
    (i : ℕ) × (name : List ℕ) × (class : ClassId) × (instr.op ≡ NEW) × (instr.a ≡ pos i) × ClassAt c.pool i name × IsClassName name
    × (s.meaning name ≡ Some class) × IsUnmakable s.classes class name

abbrev pub BreaksAccess : LinkScope → ClassFile → Instr → Type 0
BreaksAccess s c instr = PutsFinal s c instr ⊎ MakesUnmakable s c instr

-- the link is a class's that is no array
abbrev pub IsClassLink : Link → ClassId → Type 0
IsClassLink link class = link ≡ To.Class (record { dims = 0; base = Base.Class class })

-- the entry is a class's, with this name
abbrev pub IsNamedEntry : List (Option (List ℕ)) → PoolEntry → List ℕ → Type 0
IsNamedEntry texts entry name = (n : ℕ) × (entry ≡ Entry.Class n) × (slice_get texts n ≡ Some (Some name))

-- the entry and its link are of a class that `new` may not make
abbrev pub LeadsUnmakable : List ClassRecord → List (Option (List ℕ)) → PoolEntry → Link → Type 0
LeadsUnmakable classes texts entry link =
    (name : List ℕ) × (class : ClassId) × IsNamedEntry texts entry name × IsClassLink link class × IsUnmakable classes class name
