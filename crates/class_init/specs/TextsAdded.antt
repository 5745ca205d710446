-- How texts are added to those that are known.
use Rattle.std.specs.Prelude.{◌≡◌, ℕ, ◌⊎◌, ◌↔◌, List, Contains}
use Rattle.jk_model_classes.specs.declared.records.FieldRecord.{FieldRecord}
use Rattle.jk_model_classes.specs.declared.records.Link.{Link}
use Rattle.jk_model_classes.specs.declared.records.Link.TheVariants as To
use Rattle.jk_model_domains.specs.declared.states.LiteralImage.{LiteralImage}

-- these texts are there, and no other is new
pub record AddsTexts (these : List ℕ → Type 0) (old new : List (List ℕ)) : Type 0 where
  pub has : (text : List ℕ) → Contains new text ↔ (Contains old text ⊎ these text)

-- one of the items has the text
abbrev pub IsOfSome : {X : Type 0} → (X → List ℕ → Type 0) → List X → List ℕ → Type 0
IsOfSome {X = X} has xs text = (x : X) × Contains xs x × has x text

abbrev pub LeadsTo : Link → List ℕ → Type 0
LeadsTo link text = link ≡ To.Text text

abbrev pub HasConstant : FieldRecord → List ℕ → Type 0
HasConstant f text = f.constant ≡ To.Text text

abbrev pub HasText : LiteralImage → List ℕ → Type 0
HasText l text = l.text ≡ text
