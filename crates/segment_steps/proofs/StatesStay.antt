-- A domain that stays sealed keeps a state for each class that it had one for: which classes have one depends on its names alone.
use Rattle.std.proofs.Common.{inl, inr, ◌≡◌, ◌==◌, List, [], ◌∷◌, ◌++◌, Some, refl, sym, ap, subst, ◌∙◌}
use Rattle.std.proofs.lemmas.Bool.{eqb-true}
use Rattle.std.proofs.lemmas.List.Elements.{Contains-append_cases, Contains-append_left, Contains-append_right}
use Rattle.list_lemmas.proofs.FoundItems.{Finds, finds}
use Rattle.list_lemmas.proofs.ItemsOfLists.{Contains-at, Contains-here, only_in}
use Rattle.jk_model.specs.declared.identifiers.ClassId.{ClassId}
use Rattle.jk_model_classes.specs.declared.records.ClassRecord.{ClassRecord}
use Rattle.jk_model_classes.specs.Worlds.{NamedClass}
use Rattle.jk_model_domains.specs.OwnStates.{ClassPart, HasPart, HasState, IsOwnState, OwnState}
use Rattle.jk_model_frames.specs.Frames.{FrameState}
use Rattle.model_lemmas.proofs.SameNumbers.{same_class}
use Rattle.heap_laws.specs.RaisableObjects.{KeepsStates}

module _ (classes : List ClassRecord) (table : List NamedClass) where
  pub has_part : (own : OwnState) → IsOwnState classes table own → (c : ClassId) → HasState own c → (r : ClassRecord) × HasPart classes table c r
  has_part own is c (e, there) =
      let found = subst (Finds (λ (x : ClassPart). x.class.0 == c.0) own.classes) there (finds (λ (x : ClassPart). x.class.0 == c.0) own.classes) in
      let same : e.class ≡ c = same_class e.class c (eqb-true e.class.0 c.0 found.2) in
      let part = is.each e (Contains-at own.classes found.0 e found.1) in
      (part.0, subst (λ (d : ClassId). HasPart classes table d part.0) same part.1)

  pub state_stays : (own new : OwnState) → IsOwnState classes table own → IsOwnState classes table new → (c : ClassId) → HasState own c
      → HasState new c
  state_stays own new is are c has = let part = has_part own is c has in are.all c part.0 part.1

-- of frames of which the last one is replaced by one that initialises the same class
pub states_stay : (own new : OwnState) → ((c : ClassId) → HasState own c → HasState new c) → (callers : List FrameState) (f g : FrameState)
    → g.head.initialises ≡ f.head.initialises → KeepsStates own (callers ++ f ∷ []) → KeepsStates new (callers ++ g ∷ [])
states_stay own new stays callers f g same states h c has is = elim (Contains-append_cases callers (g ∷ []) h has) [
  | inl below ↦ stays c (states h c (Contains-append_left callers (f ∷ []) h below) is)
  | inr last ↦
      let one : g ≡ h = only_in h g (g ∷ []) refl last in
      let of : f.head.initialises ≡ Some c = sym same ∙ ap (λ (k : FrameState). k.head.initialises) one ∙ is in
      stays c (states f c (Contains-append_right callers (f ∷ []) f (Contains-here f [])) of)
]
