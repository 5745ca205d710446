-- What is at a place of a list.
use Rattle.std.proofs.Common.{◌≡◌, ℕ, zero, suc, ◌<◌, List, [], ◌∷◌, length, map, get_or, Some, slice_get, refl, sym, ap, ◌∙◌, arith}
use Rattle.std.specs.Option.{option_map}
use Rattle.std.proofs.lemmas.Option.{slice_get-map}
use Rattle.jk_model_classes.specs.declared.records.TypeRef.{TypeRef}
use Rattle.jk_model_typing.specs.declared.frames.VType.{VType}
use Rattle.jk_model_typing.specs.declared.frames.Demand.{Demand}
use Rattle.jk_model_typing.specs.declared.frames.Demand.TheVariants.{Fitting}
use Rattle.jk_model_typing.specs.FrameTypes.{value_of}
use Rattle.jk_model_typing.specs.Scopes.{CodeScope}
use Rattle.type_rows.specs.Shapes.{argument_demands}

pub slice_get-at : {X : Type 0} (xs : List X) (k : ℕ) (d : X) → k < length xs → slice_get xs k ≡ Some (get_or xs k d)
slice_get-at [] k d h = absurd (omega arith)
slice_get-at (x ∷ xs) zero d h = refl
slice_get-at (x ∷ xs) (suc k) d h = slice_get-at xs k d (omega arith)

pub argument-at : (s : CodeScope) (params : List TypeRef) (k : ℕ) (d : TypeRef) (v : VType) → k < length params
    → v ≡ value_of s.classes (get_or params k d) → slice_get (argument_demands s params) k ≡ Some (Fitting v)
argument-at s params k d v h e =
    let f : TypeRef → VType = value_of s.classes in
    let g : VType → Demand = λ t. Fitting t in
    slice_get-map g (map f params) k
    ∙ ap (option_map g) (slice_get-map f params k ∙ ap (option_map f) (slice_get-at params k d h))
    ∙ ap (λ (t : VType). Some (g t)) (sym e)
