-- What is said of classes where some get other links, as new ones do after all of a folder have been added.
use Rattle.std.specs.Prelude.{◌≡◌, List, [], map}
use Rattle.jk_model.specs.declared.identifiers.ClassId.{ClassId}
use Rattle.jk_model_classes.specs.declared.records.ClassRecord.{ClassRecord}
use Rattle.jk_model_classes.specs.declared.records.Link.{Link}
use Rattle.jk_model_classes.specs.Classes.{GetsLinks, AreOrdered}

abbrev pub without_links : ClassRecord → ClassRecord
without_links r = record r { links = [] }

-- The lists have the same records, but for their links.
abbrev pub DifferInLinks : List ClassRecord → List ClassRecord → Type 0
DifferInLinks old new = map without_links old ≡ map without_links new

-- a class that gets other links
abbrev pub GettingLinksChangesLinks : Type 0
GettingLinksChangesLinks =
    (old new : List ClassRecord) (c : ClassId) (links : List Link) → GetsLinks old c links new → DifferInLinks old new

-- It is said of the classes whatever their links are.
abbrev pub RestsOnNoLinks : (List ClassRecord → Type 0) → Type 0
RestsOnNoLinks Says = (old new : List ClassRecord) → DifferInLinks old new → Says old → Says new

-- The same, where the classes are in order.
abbrev pub RestsOnNoLinksInOrder : (List ClassRecord → Type 0) → Type 0
RestsOnNoLinksInOrder Says = (old new : List ClassRecord) → DifferInLinks old new → AreOrdered old → Says old → Says new

-- A list that is made for a class is the same whatever the links are, where the classes are in order.
abbrev pub HasNoLinksFor : (List ClassRecord → ClassId → List ClassId) → Type 0
HasNoLinksFor walk = (old new : List ClassRecord) (c : ClassId) → DifferInLinks old new → AreOrdered old → walk new c ≡ walk old c
