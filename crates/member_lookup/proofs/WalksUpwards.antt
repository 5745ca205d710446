-- A walk from a class over its parents upwards, one class after the other.
use Rattle.std.proofs.Common.{◌≡◌, ℕ, ◌+◌, ◌<◌, List, [], ◌∷◌, Option, Some, None, flat_map, refl, ap, ◌∙◌, arith, append-nil}
use Rattle.std.specs.Option.{option_map_or, option_to_list}
use Rattle.class_table.proofs.HeightsAreEnough.{superclasses-step}
use Rattle.class_table.proofs.StandingAbove.{parent-lower}
use Rattle.jk_model.specs.declared.identifiers.ClassId.{ClassId}
use Rattle.jk_model.specs.declared.identifiers.MemberId.{MemberId}
use Rattle.jk_model_classes.specs.declared.records.ClassRecord.{ClassRecord}
use Rattle.jk_model_classes.specs.Classes.{parents_of, AreOrdered, superclasses}
use Rattle.jk_model_classes.specs.Lookups.{FindsFrom, FindsOn}
use Rattle.member_lookup.proofs.FirstOnWalk.{FindsAlong, on-from_along, along-here, along-there}

-- the parents upwards from a class on, if there is one
abbrev pub upwards : List ClassRecord → Option ClassId → List ClassId
upwards classes next = option_map_or (superclasses classes) next []

-- how far a walk upwards still has to go
abbrev pub height : Option ClassId → ℕ
height next = option_map_or (λ (c : ClassId). c.0 + 1) next 0

-- What the rest of the walk finds, the whole walk from c finds.
abbrev pub IsLeft : (MemberId → Type 0) → List ClassRecord → ClassId → Option ClassId → Type 0
IsLeft Suits classes c next =
    (found : Option MemberId) → FindsAlong Suits (upwards classes next) found → FindsOn Suits (superclasses classes c) found

module _ (Suits : MemberId → Type 0) (classes : List ClassRecord) where
  pub left-all : (c : ClassId) → IsLeft Suits classes c (Some c)
  left-all c found h = on-from_along Suits (superclasses classes c) found h

  -- no class had such a member
  pub left-none : (c : ClassId) (next : Option ClassId) → next ≡ None → IsLeft Suits classes c next → FindsOn Suits (superclasses classes c) None
  left-none c next at left = left None (rw at refl)

module _ (Suits : MemberId → Type 0) (classes : List ClassRecord) (ordered : AreOrdered classes) where
  upwards_step : (next : Option ClassId) → flat_map (superclasses classes) (option_to_list next) ≡ upwards classes next
  upwards_step None = refl
  upwards_step (Some p) = append-nil (superclasses classes p)

  pub superclasses-upwards : (d : ClassId) (next : Option ClassId) → parents_of classes d ≡ option_to_list next
      → superclasses classes d ≡ d ∷ upwards classes next
  superclasses-upwards d next e =
      superclasses-step classes ordered d ∙ ap (λ parents. d ∷ flat_map (superclasses classes) parents) e
      ∙ ap (λ walk. d ∷ walk) (upwards_step next)

  -- this class has such a member
  pub left-here : (c d : ClassId) (next : Option ClassId) (i : ℕ) → next ≡ Some d → IsLeft Suits classes c next → FindsFrom Suits d 0 (Some i)
      → FindsOn Suits (superclasses classes c) (Some (record { class = d; index = i }))
  left-here c d next i at left h =
      left (Some (record { class = d; index = i }))
      (rw (at, superclasses-step classes ordered d) (along-here Suits d (flat_map (superclasses classes) (parents_of classes d)) i h))

  -- this class has none, and so its parent is next
  pub left-there : (c d : ClassId) (next parent : Option ClassId) → next ≡ Some d → parents_of classes d ≡ option_to_list parent
      → IsLeft Suits classes c next → FindsFrom Suits d 0 None → IsLeft Suits classes c parent
  left-there c d next parent at above left h found later =
      left found (rw (at, superclasses-upwards d parent above) (along-there Suits d (upwards classes parent) found h later))

pub height-falls : (classes : List ClassRecord) (ordered : AreOrdered classes) (d : ClassId) (next parent : Option ClassId) → next ≡ Some d
    → parents_of classes d ≡ option_to_list parent → height parent < height next
height-falls classes ordered d next None at above = rw at (omega arith)
height-falls classes ordered d next (Some p) at above = rw at (omega (arith, parent-lower classes ordered d p above))
