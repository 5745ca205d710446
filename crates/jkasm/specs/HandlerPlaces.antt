-- What a handler has of its line, in a method's code: its places are known to be right where the code is not too long.
use Rattle.std.specs.Prelude.{◌≡◌, ℕ, ◌≤◌, IsSome, List, [], ◌∷◌, Option, Some, None}
use Rattle.jk_model.specs.declared.class_file.Handler.{Handler}
use Rattle.jk_model.specs.ClassFile.{IsHandler}
use Rattle.asm_reader.specs.declared.items.CatchLine.{CatchLine}
use Rattle.asm_reader.specs.declared.items.CodeLine.{CodeLine}
use Rattle.jkasm.specs.CodePlaces.{place_after, label_place}
use Rattle.jkasm.specs.GoodLines.{AllStand}
use Rattle.jkasm.specs.Limits.{MAX_COUNT}

-- the place of a label, where the code is not too long
abbrev pub HasPlace : List CodeLine → List ℕ → ℕ → Type 0
HasPlace codes label place = place_after 0 codes ≤ MAX_COUNT → label_place 0 codes label ≡ Some place

-- that place, or none where the label doesn't stand in the code
abbrev pub IsPlaceOf : List CodeLine → List ℕ → Option ℕ → Type 0
IsPlaceOf codes label None = label_place 0 codes label ≡ None
IsPlaceOf codes label (Some place) = IsSome (label_place 0 codes label) × HasPlace codes label place

-- the labels of a handler
abbrev pub labels_of : CatchLine → List (List ℕ)
labels_of line = line.from ∷ line.to ∷ line.handler ∷ []

-- A handler of this line, which catches the class at an index.
pub record IsPlaced (codes : List CodeLine) (line : CatchLine) (catch : ℕ) (h : Handler) : Type 0 where
  pub stand : AllStand codes (labels_of line)
  pub start : HasPlace codes line.from h.start
  pub end : HasPlace codes line.to h.end
  pub place : HasPlace codes line.handler h.handler
  pub caught : h.catch ≡ catch
  pub fits : IsHandler h

-- that handler, or none where one of the labels doesn't stand in the code
abbrev pub IsPlacedOrNone : List CodeLine → CatchLine → ℕ → Option Handler → Type 0
IsPlacedOrNone codes line catch None = AllStand codes (labels_of line) → ⊥
IsPlacedOrNone codes line catch (Some h) = IsPlaced codes line catch h
