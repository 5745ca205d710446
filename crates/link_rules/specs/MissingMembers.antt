-- C20 at the entries of a pool, by what they lead to.
use Rattle.std.specs.Prelude.{◌≡◌, ℕ, ◌↔◌, ◌<◌, IsTrue, Bool, false, List, Option, Some, None}
use Rattle.jk_model.specs.declared.class_file.ClassFile.{ClassFile}
use Rattle.jk_model.specs.declared.class_file.PoolEntry.{PoolEntry}
use Rattle.jk_model.specs.declared.class_file.PoolEntry.TheVariants as Entry
use Rattle.jk_model_classes.specs.declared.records.ClassRecord.{ClassRecord}
use Rattle.jk_model_classes.specs.declared.records.Link.{Link}
use Rattle.jk_model_classes.specs.declared.records.Link.TheVariants as To
use Rattle.jk_model_classes.specs.Classes.{IsInterface}
use Rattle.jk_model_classes.specs.Items.{Entry as AtEntry}
use Rattle.jk_model_classes.specs.LinkRules.{LinkScope, MissesMember}

-- where the link is a method's, the class that is named is an interface
abbrev pub NamesInterface : List ClassRecord → Link → Type 0
NamesInterface classes (To.Method class m) = IsInterface classes class
NamesInterface classes link = Unit {0}

-- where the link is a method's, the class that is named is no interface
abbrev pub NamesNoInterface : List ClassRecord → Link → Type 0
NamesNoInterface classes (To.Method class m) = IsInterface classes class → ⊥
NamesNoInterface classes link = Unit {0}

-- the answer for an entry that leads there
abbrev pub IsMissingBy : List ClassRecord → PoolEntry → Link → Bool → Type 0
IsMissingBy classes (Entry.FieldRef class pair) link missing = IsTrue missing ↔ (link ≡ To.Nothing)
IsMissingBy classes (Entry.MethodRef class pair) link missing = IsTrue missing ↔ NamesInterface classes link
IsMissingBy classes (Entry.InterfaceMethodRef class pair) link missing = IsTrue missing ↔ NamesNoInterface classes link
IsMissingBy classes entry link missing = missing ≡ false

-- the first entry that misses its member; none where none does
abbrev pub IsFirstMissing : LinkScope → ClassFile → Option ℕ → Type 0
IsFirstMissing s c None = (i : ℕ) → MissesMember s c (AtEntry i) → ⊥
IsFirstMissing s c (Some i) = MissesMember s c (AtEntry i) × ((j : ℕ) → j < i → MissesMember s c (AtEntry j) → ⊥)
