-- Which handlers suit an object that is thrown at a place: the same words as those of unwinding, of the object itself.
use Rattle.std.specs.Prelude.{◌≡◌, ◌<◌, ℕ, ⊤, List, Some, MatchOption, slice_get}
use Rattle.jk_model.specs.declared.identifiers.ClassId.{ClassId}
use Rattle.jk_model_classes.specs.declared.records.Caught.{Caught}
use Rattle.jk_model_classes.specs.declared.records.ClassRecord.{ClassRecord}
use Rattle.jk_model_typing.specs.Typing.{Covers}
use Rattle.jk_model_domains.specs.Objects.{Object, class_type, type_of}
use Rattle.jk_model_heaps.specs.Instances.{IsA}

-- the object is of the class that the handler catches; a handler without a class catches any
abbrev pub IsOfCaught : List ClassRecord → Object → Caught → Type 0
IsOfCaught classes object h = MatchOption h.class ⊤ (λ (c : ClassId). IsA classes (type_of object) (class_type c))

-- it covers the place, and catches the object
abbrev pub Suits : List ClassRecord → ℕ → Object → Caught → Type 0
Suits classes at object h = Covers h at × IsOfCaught classes object h

abbrev pub NoneSuits : List ClassRecord → List Caught → ℕ → Object → Type 0
NoneSuits classes handlers at object = (k : ℕ) (h : Caught) → slice_get handlers k ≡ Some h → Suits classes at object h → ⊥

-- The first of them that suits begins at this place.
pub record IsFirstSuited (classes : List ClassRecord) (handlers : List Caught) (at : ℕ) (object : Object) (begins : ℕ) : Type 0 where
  pub place : ℕ
  pub handler : Caught
  pub listed : slice_get handlers place ≡ Some handler
  pub suits : Suits classes at object handler
  pub first : (earlier : ℕ) (g : Caught) → earlier < place → slice_get handlers earlier ≡ Some g → Suits classes at object g → ⊥
  pub begins_there : handler.handler ≡ begins
