-- What the first operand of an instruction leads to in the pool of its class, and which class the instruction needs.
use Rattle.std.specs.Prelude.{List, ℕ, Option, Some, None}
use Rattle.jk_model.specs.declared.identifiers.ClassId.{ClassId}
use Rattle.jk_model.specs.declared.identifiers.MemberId.{MemberId}
use Rattle.jk_model_classes.specs.declared.records.Link.{Link}
use Rattle.jk_model_classes.specs.declared.records.Link.TheVariants as To
use Rattle.jk_model_classes.specs.declared.records.TypeRef.{TypeRef}
use Rattle.jk_model_typing.specs.Scopes.{LeadsToLink}
use Rattle.jk_model_heaps.specs.RunningCode.{InstrNeeds}
use Rattle.step_contents.specs.PlacesInCode.{PlaceInCode}

-- It leads to this, or nowhere.
abbrev pub Leads : PlaceInCode → Option Link → Type 0
Leads at None = (link : Link) → LeadsToLink at.scope at.instr link → ⊥
Leads at (Some link) = LeadsToLink at.scope at.instr link

-- It leads to this text, or to none.
abbrev pub LeadsToText : PlaceInCode → Option (List ℕ) → Type 0
LeadsToText at None = (text : List ℕ) → LeadsToLink at.scope at.instr (To.Text text) → ⊥
LeadsToText at (Some text) = LeadsToLink at.scope at.instr (To.Text text)

-- It leads to this field: the one that was found.
abbrev pub LeadsToField : PlaceInCode → MemberId → Type 0
LeadsToField at m = (c : ClassId) × LeadsToLink at.scope at.instr (To.Field c m)

-- It leads to this method: the one that was found.
abbrev pub LeadsToMethod : PlaceInCode → MemberId → Type 0
LeadsToMethod at m = (c : ClassId) × LeadsToLink at.scope at.instr (To.Method c m)

-- It leads to this type.
abbrev pub LeadsToType : PlaceInCode → TypeRef → Type 0
LeadsToType at t = LeadsToLink at.scope at.instr (To.Class t)

-- The instruction needs this class, or none.
abbrev pub NeedsClass : PlaceInCode → Option ClassId → Type 0
NeedsClass at None = (c : ClassId) → InstrNeeds at.scope at.instr c → ⊥
NeedsClass at (Some c) = InstrNeeds at.scope at.instr c
