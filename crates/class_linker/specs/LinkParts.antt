-- What the parts of `class_links` answer.
use Rattle.std.specs.Prelude.{◌≡◌, ℕ, ◌+◌, ◌*◌, ◌<◌, ◌⊎◌, ◌==◌, if◌then◌else◌, List, Option, Some, None}
use Rattle.std.specs.Int.{w32, w64, cast_signed}
use Rattle.jk_model.specs.declared.class_file.PoolEntry.{PoolEntry}
use Rattle.jk_model.specs.declared.class_file.PoolEntry.TheVariants as Entry
use Rattle.jk_model.specs.declared.identifiers.ClassId.{ClassId}
use Rattle.jk_model.specs.declared.identifiers.MemberId.{MemberId}
use Rattle.jk_model_classes.specs.declared.records.ClassRecord.{ClassRecord}
use Rattle.jk_model_classes.specs.declared.records.Link.{Link}
use Rattle.jk_model_classes.specs.declared.records.Link.TheVariants as To
use Rattle.jk_model_classes.specs.declared.records.TypeRef.{TypeRef}
use Rattle.jk_model_classes.specs.LinkRules.{LinkScope}
use Rattle.jk_model_classes.specs.Lookups.{FindsField, FindsMethod}
use Rattle.jk_model_classes.specs.Members.{TextAt}
use Rattle.jk_model_classes.specs.Worlds.{NamedClass, class_named}
use Rattle.jk_model_folders.specs.LinkedClasses.{IsEntryType}
use Rattle.class_texts.specs.PoolTexts.{AreTextsOf}
use Rattle.class_linker.specs.TextsSaid.{AreSaid, IsPairOf, NamesClassBy, SaysField, SaysMethod}
use Rattle.std.specs.Option.{option_map_or}
use Rattle.jk_model_classes.specs.declared.records.BaseRef.TheVariants as Base
use Rattle.class_linker.specs.declared.said.Said.{Said}
use Rattle.class_linker.specs.declared.linking.Linking.{Linking}

-- what is kept with a class file is that of its own texts
pub record IsReady (l : Linking) : Type 0 where
  pub texts : AreTextsOf l.pool.now l.texts.now
  pub said : AreSaid l.names.now l.pool.now l.said.now

abbrev pub scope_of : List NamedClass → List ClassRecord → ClassId → LinkScope
scope_of names classes self = record { meaning = class_named names; classes = classes; self = self }

-- ---- References.

-- the member that a name and type finds, or nothing
abbrev pub LinksIn : {X : Type 0} → (List ℕ → X → Type 0) → (List ℕ → X → Option MemberId → Type 0) → (MemberId → Link) → Link → Type 0
LinksIn {X} Pair Finds to link =
    ((name : List ℕ) × (kind : X) × (m : MemberId) × Pair name kind × Finds name kind (Some m) × (link ≡ to m))
    ⊎ (((name : List ℕ) (kind : X) (m : MemberId) → Pair name kind → Finds name kind (Some m) → ⊥) × (link ≡ To.Nothing))

abbrev pub FieldLinksFrom : List NamedClass → List PoolEntry → List ClassRecord → ℕ → ClassId → Link → Type 0
FieldLinksFrom names pool classes pair class link =
    LinksIn (IsPairOf (SaysField names pool) pool pair) (FindsField classes class) (To.Field class) link

abbrev pub MethodLinksFrom : List PoolEntry → List ClassRecord → ℕ → ClassId → Link → Type 0
MethodLinksFrom pool classes pair class link =
    LinksIn (IsPairOf (SaysMethod pool) pool pair) (FindsMethod classes class) (To.Method class) link

abbrev pub FieldLinksIn : Linking → ℕ → ClassId → Link → Type 0
FieldLinksIn l pair class link = FieldLinksFrom l.names.now l.pool.now l.t.now pair class link

abbrev pub MethodLinksIn : Linking → ℕ → ClassId → Link → Type 0
MethodLinksIn l pair class link = MethodLinksFrom l.pool.now l.t.now pair class link

-- in the class that the entry names, where it names one
abbrev pub LinksBy : (ClassId → Type 0) → (ClassId → Link → Type 0) → Link → Type 0
LinksBy Named Links link =
    ((class : ClassId) × Named class × Links class link) ⊎ (((class : ClassId) → Named class → ⊥) × (link ≡ To.Nothing))

abbrev pub IsFieldLinkOf : Linking → ℕ → ℕ → Link → Type 0
IsFieldLinkOf l class pair link = LinksBy (NamesClassBy l.names.now l.pool.now class) (FieldLinksIn l pair) link

abbrev pub IsMethodLinkOf : Linking → ℕ → ℕ → Link → Type 0
IsMethodLinkOf l class pair link = LinksBy (NamesClassBy l.names.now l.pool.now class) (MethodLinksIn l pair) link

-- ---- What was found before, by the class's number and the index of the name and type.

abbrev pub key_of : ClassId → ℕ → ℕ
key_of class pair = class.0 * 65536 + pair

abbrev pub AreFound : {X : Type 0} → (ℕ → List ℕ → X → Type 0) → (ClassId → List ℕ → X → Option MemberId → Type 0) → (ℕ → Option (Option MemberId)) → Type 0
AreFound {X} Pair Finds found =
    (class : ClassId) (pair : ℕ) (name : List ℕ) (kind : X) (m : Option MemberId) → pair < 65536 → found (key_of class pair) ≡ Some m
    → Pair pair name kind → Finds class name kind m

abbrev pub AreFields : Linking → (ℕ → Option (Option MemberId)) → Type 0
AreFields l found = AreFound (IsPairOf (SaysField l.names.now l.pool.now) l.pool.now) (FindsField l.t.now) found

abbrev pub AreMethods : Linking → (ℕ → Option (Option MemberId)) → Type 0
AreMethods l found = AreFound (IsPairOf (SaysMethod l.pool.now) l.pool.now) (FindsMethod l.t.now) found

-- ---- Entries.

abbrev pub IsClassLinkFrom : List NamedClass → List PoolEntry → List ClassRecord → ℕ → Link → Type 0
IsClassLinkFrom names pool classes name link =
    (units : List ℕ) × (t : TypeRef) × TextAt pool name units
    × ((self : ClassId) → IsEntryType (scope_of names classes self) units t) × (link ≡ To.Class t)

abbrev pub IsClassLink : Linking → ℕ → Link → Type 0
IsClassLink l name link = IsClassLinkFrom l.names.now l.pool.now l.t.now name link

abbrev pub IsTextLinkFrom : List PoolEntry → ℕ → Link → Type 0
IsTextLinkFrom pool text link = (units : List ℕ) × TextAt pool text units × (link ≡ To.Text units)

abbrev pub IsTextLink : Linking → ℕ → Link → Type 0
IsTextLink l text link = IsTextLinkFrom l.pool.now text link

-- what an entry leads to
abbrev pub LeadsFrom : List NamedClass → List PoolEntry → List ClassRecord → PoolEntry → Link → Type 0
LeadsFrom names pool classes (Entry.Integer n) link = link ≡ To.Int (cast_signed w32 n)
LeadsFrom names pool classes (Entry.Long n) link = link ≡ To.Long (cast_signed w64 n)
LeadsFrom names pool classes (Entry.Str text) link = IsTextLinkFrom pool text link
LeadsFrom names pool classes (Entry.Class name) link = IsClassLinkFrom names pool classes name link
LeadsFrom names pool classes (Entry.FieldRef class pair) link =
    LinksBy (NamesClassBy names pool class) (FieldLinksFrom names pool classes pair) link
LeadsFrom names pool classes (Entry.MethodRef class pair) link =
    LinksBy (NamesClassBy names pool class) (MethodLinksFrom pool classes pair) link
LeadsFrom names pool classes (Entry.InterfaceMethodRef class pair) link =
    LinksBy (NamesClassBy names pool class) (MethodLinksFrom pool classes pair) link
LeadsFrom names pool classes entry link = link ≡ To.Nothing

abbrev pub LeadsTo : Linking → PoolEntry → Link → Type 0
LeadsTo l entry link = LeadsFrom l.names.now l.pool.now l.t.now entry link

-- ---- The type that the name of a Class entry says.

abbrev pub type_of_class : Option ClassId → Option TypeRef
type_of_class None = None
type_of_class (Some class) = Some (record { dims = 0; base = Base.Class class })

abbrev pub type_said : Said → Option TypeRef
type_said said =
    option_map_or (λ (t : TypeRef). if t.dims == 0 then type_of_class said.class else Some t) said.field (type_of_class said.class)
