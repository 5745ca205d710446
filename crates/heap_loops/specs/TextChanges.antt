-- What is made of the units of a text in a store of objects. All else in the store is as before.
use Rattle.std.specs.Prelude.{ℕ, ◌+◌, ◌≤◌, List, ◌++◌, length, take, drop}
use Rattle.jk_model.specs.declared.identifiers.DomainId.{DomainId}
use Rattle.jk_model_domains.specs.Objects.{Text}
use Rattle.object_store.specs.HeapContents.{HeapContent, IsLive, WritesObject}

-- the units with others in their place, from there on
abbrev pub with_units : List ℕ → ℕ → List ℕ → List ℕ
with_units text from units = take from text ++ units ++ drop (from + length units) text

-- The domain's object of a name is a text of so many units or more.
pub record HasUnits (c : HeapContent) (d : DomainId) (a n : ℕ) : Type 0 where
  pub text : List ℕ
  pub live : IsLive c d a (Text text)
  pub many : n ≤ length text

-- the text of a name has these units from a place on
abbrev pub WritesUnits : HeapContent → HeapContent → DomainId → ℕ → ℕ → List ℕ → Type 0
WritesUnits old new d a from units =
    (text : List ℕ) → IsLive old d a (Text text) → WritesObject old new d a (Text (with_units text from units))

-- the text of a name has units of another text from a place on
abbrev pub CopiesUnits : HeapContent → HeapContent → DomainId → ℕ → ℕ → ℕ → ℕ → ℕ → Type 0
CopiesUnits old new d source from target to count =
    (text : List ℕ) → IsLive old d source (Text text) → WritesUnits old new d target to (take count (drop from text))
