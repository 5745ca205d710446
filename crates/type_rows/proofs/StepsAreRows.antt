-- What a shape of an instruction says of a frame is what its row says.
use Rattle.std.proofs.Common.{◌≡◌, ℕ, Bool, false, Result, Ok, Err, subst}
use Rattle.std.specs.Prelude.{IfOk}
use Rattle.jk_model.specs.declared.instructions.Instr.{Instr}
use Rattle.jk_model_typing.specs.declared.frames.FrameType.{FrameType}
use Rattle.jk_model_typing.specs.Groups as def
use Rattle.jk_model_typing.specs.Rows.{Does, Row}
use Rattle.jk_model_typing.specs.Scopes.{CodeScope}
use Rattle.type_rows.specs.declared.shapes.Shape.{Shape}
use Rattle.type_rows.specs.Shapes.{shape_view}
use Rattle.type_rows.specs.ShapesOfGroups.{HasNoShape, HasOneShape}
use Rattle.type_rows.specs.Steps.{IsDone}

module _ (s : CodeScope) (place : ℕ) (i : Instr) (before : FrameType) where
  pub no_row : HasNoShape s i (def.group_of i.op) → (after : FrameType) → Row s place i before after → ⊥
  no_row none after row = none row.shape row.shape_is

  pub no_row_so : {E : Type 0} (r : Result Bool E) (x : Shape) (now : FrameType) → HasOneShape s i (def.group_of i.op) x
      → IfOk r (λ yes. IsDone s place (shape_view s x) before yes now)
      → IfOk r (λ yes. yes ≡ false → (after : FrameType) → Row s place i before after → ⊥)
  no_row_so (Err e) x now one h = tt
  no_row_so (Ok b) x now one h =
      λ not after row.
      h.fails not after
      (subst (λ (shape : def.Shape). Does s place shape before after) (one.only row.shape row.shape_is) row.does) row.room
