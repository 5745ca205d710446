-- When an instruction of a group has a shape.
use Rattle.std.specs.Prelude.{◌≡◌, ℕ, Option, MatchOption}
use Rattle.jk_model.specs.declared.instructions.Instr.{Instr}
use Rattle.jk_model_classes.specs.declared.records.BaseRef.{BaseRef}
use Rattle.jk_model_classes.specs.declared.records.Link.TheVariants.{Class}
use Rattle.jk_model_classes.specs.declared.records.TypeRef.{TypeRef}
use Rattle.jk_model_typing.specs.Groups as def
use Rattle.jk_model_typing.specs.Rows.{HasShape, IsCodeOf}
use Rattle.jk_model_typing.specs.Scopes.{CodeScope, LeadsToLink}
use Rattle.type_rows.specs.declared.shapes.Shape.{Shape}
use Rattle.type_rows.specs.Shapes.{shape_view}

abbrev pub HasNoShape : CodeScope → Instr → def.Group → Type 0
HasNoShape s i group = (shape : def.Shape) → HasShape s i group shape → ⊥

-- it has this shape alone
pub record HasOneShape (s : CodeScope) (i : Instr) (group : def.Group) (x : Shape) : Type 0 where
  pub has : HasShape s i group (shape_view s x)
  pub only : (shape : def.Shape) → HasShape s i group shape → shape ≡ shape_view s x

abbrev pub IsShape : CodeScope → Instr → def.Group → Option Shape → Type 0
IsShape s i group o = MatchOption o (HasNoShape s i group) (HasOneShape s i group)

abbrev pub NamesNoType : CodeScope → Instr → Type 0
NamesNoType s i = (t : TypeRef) → LeadsToLink s i (Class t) → ⊥

-- the first operand leads to this type alone
pub record NamesType (s : CodeScope) (i : Instr) (t : TypeRef) : Type 0 where
  pub leads : LeadsToLink s i (Class t)
  pub only : (other : TypeRef) → LeadsToLink s i (Class other) → other ≡ t

-- this is the kind with this code
pub record IsKind (code : ℕ) (base : BaseRef) : Type 0 where
  pub is : IsCodeOf base code
  pub only : (other : BaseRef) → IsCodeOf other code → other ≡ base
