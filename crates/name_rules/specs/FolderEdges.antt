-- The graph of a folder's class files: from each file to those whose classes it extends or lists.
use Rattle.std.specs.Prelude.{◌≡◌, ℕ, ◌<◌, ◌⊎◌, ◌↔◌, List, length, Some, slice_get}
use Rattle.jk_model.specs.declared.class_file.ClassFile.{ClassFile}
use Rattle.jk_model.specs.declared.class_file.PoolEntry.{PoolEntry}
use Rattle.jk_model.specs.declared.class_file.PoolEntry.TheVariants.{Class}
use Rattle.jk_model_classes.specs.Items.{HasItem}
use Rattle.jk_model_classes.specs.Members.{TextAt}
use Rattle.jk_model_classes.specs.References.{HasParentNamed, ListsNamed}
use Rattle.jk_model_classes.specs.Worlds.{NamedClass, class_named}
use Rattle.name_rules.specs.Graphs.{HasEdge, IsSquare, Rows}

-- the name means the file at this place
abbrev pub MeansPlace : List NamedClass → List ℕ → ℕ → Type 0
MeansPlace own name place = class_named own name ≡ Some (record { 0 = place })

-- the text at this index is the name of an interface that the file lists
abbrev pub IsListedName : ClassFile → ℕ → Type 0
IsListedName c n = HasItem (λ i. slice_get c.pool i ≡ Some (Class n)) c.interfaces

-- a text at this index means the file at a place
abbrev pub TextMeans : List PoolEntry → List NamedClass → ℕ → ℕ → Type 0
TextMeans pool own n place = (name : List ℕ) × TextAt pool n name × MeansPlace own name place

abbrev pub ExtendsPlace : ClassFile → List NamedClass → ℕ → Type 0
ExtendsPlace c own place = (name : List ℕ) × HasParentNamed c name × MeansPlace own name place

abbrev pub ListsPlace : ClassFile → List NamedClass → ℕ → Type 0
ListsPlace c own place = (name : List ℕ) × ListsNamed c name × MeansPlace own name place

abbrev pub GoesTo : ClassFile → List NamedClass → ℕ → Type 0
GoesTo c own place = ExtendsPlace c own place ⊎ ListsPlace c own place

pub record AreEdges (files : List ClassFile) (own : List NamedClass) (rows : Rows) : Type 0 where
  pub as_many : length rows ≡ length files
  pub square : IsSquare rows
  pub at : (i j : ℕ) (c : ClassFile) → slice_get files i ≡ Some c → j < length files → HasEdge rows i j ↔ GoesTo c own j
