-- Events that are put one after another are those of the demo, in their order.
use Rattle.std.proofs.Common.{◌≡◌, ℕ, ◌+◌, List, [], ◌∷◌, ◌++◌, map, refl, sym, ap, ◌∙◌, append_assoc, arith}
use Rattle.std.specs.List.{range_with_len}
use Rattle.std.proofs.lemmas.List.FromFn.{map-range_with_len_more}
use Rattle.jk_model.specs.declared.script.Event.{Event}

-- one more domain's
pub ring_more : (f : ℕ → Event) (events : List Event) (i : ℕ)
    → (events ++ map f (range_with_len 0 i)) ++ f i ∷ [] ≡ events ++ map f (range_with_len 0 (i + 1))
ring_more f events i =
    append_assoc events (map f (range_with_len 0 i)) (f i ∷ [])
    ∙ ap (λ (more : List Event). events ++ more) (sym (map-range_with_len_more f 0 i i (omega arith)))

pub put_in_order : (base : Event) (opens mains : List Event) (first : Event) (goes : List Event) (last : Event)
    → ((((base ∷ opens) ++ mains) ++ first ∷ []) ++ goes) ++ last ∷ [] ≡ base ∷ opens ++ mains ++ first ∷ goes ++ last ∷ []
put_in_order base opens mains first goes last = simp append_assoc refl
