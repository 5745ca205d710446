-- A struct without fields at run time is made out of nothing, at any ghost data. Assumes `Logic`.
use Rattle.std.proofs.Common.{List, [], ◌∷◌, refl}
use seplogic.Ra.Ura.{Ura}
use base.Fml.{ftrue}
use mir.Val.{Val, vstruct, vnil}
use types.Logic.{Logic}
use types.Kit.{Goal, Step, step, Item, ‵, ◌$◌, fjoin, fpack, feq_i}
use denote.RattleType.{Valss}
use denote.Steps.{nothing}
use denote.Struct.Struct.{Shape, Struct, within}

abbrev pub empty : Val
empty = vstruct vnil

-- its fields alone, of which there are none
abbrev pub no_fields : Shape
no_fields = record { name = []; args = []; types = []; fields = [] }

pub makes_empty : {M : Type 1} {𝓤 : Ura M} {𝓛 : Logic 𝓤} {K : Type 0} {Γ : List (Item 𝓤)} {G : Goal 𝓤 𝓛.H} → K
    → Step K 𝓛 (‵ ((Struct no_fields).own_val tt (empty ∷ [])) ∷ ‵ ftrue ∷ Γ) G Γ G
makes_empty t = step (λ rest.
    nothing t $ nothing t $ feq_i t (List Val) (empty ∷ []) (empty ∷ []) refl $ fjoin t $
    fpack t (Valss []) (within no_fields tt (empty ∷ [])) tt $ rest)
