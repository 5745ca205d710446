-- The instance fields of a class begin with those of each class above it.
use Rattle.std.proofs.Common.{◌≡◌, ℕ, zero, suc, ◌+◌, ◌<◌, List, [], ◌∷◌, ◌++◌, sym, ap, ◌∙◌, inl, inr, append-nil, append_assoc, arith}
use Rattle.jk_model.specs.declared.identifiers.ClassId.{ClassId}
use Rattle.jk_model_classes.specs.declared.records.ClassRecord.{ClassRecord}
use Rattle.jk_model_classes.specs.Classes.{parents_of, AreOrdered, IsSubclass}
use Rattle.jk_model_classes.specs.Layouts.{own_fields, instance_fields}
use Rattle.class_table.specs.OwnFields.{Begins}
use Rattle.class_table.proofs.HeightsAreEnough.{instance_fields-step}
use Rattle.class_table.proofs.StandingAbove.{flat_map-one, superclasses-cases, parent-lower}

module _ (classes : List ClassRecord) (ordered : AreOrdered classes) where
  -- the parent's fields come first
  pub instance_fields-parent : (c p : ClassId) → parents_of classes c ≡ p ∷ []
      → instance_fields classes c ≡ instance_fields classes p ++ own_fields classes c
  instance_fields-parent c p only =
      instance_fields-step classes ordered c
      ∙ ap (λ fields. fields ++ own_fields classes c) (flat_map-one (instance_fields classes) (parents_of classes c) p only ∙ append-nil _)

  layouts-begin_within : (h : ℕ) (a b : ClassId) → a.0 < h → IsSubclass classes a b → Begins (instance_fields classes b) (instance_fields classes a)
  layouts-begin_within zero a b low ab = absurd (omega arith)
  layouts-begin_within (suc h) a b low ab = elim (superclasses-cases classes ordered a b ab) [
    | inl same ↦ ([], rw same (sym (append-nil (instance_fields classes b))))
    | inr (p, only, pb) ↦
        let lower = parent-lower classes ordered a p only in
        let front = layouts-begin_within h p b (omega arith) pb in (
          front.0 ++ own_fields classes a,
          instance_fields-parent a p only ∙ ap (λ fields. fields ++ own_fields classes a) front.1
              ∙ append_assoc (instance_fields classes b) front.0 (own_fields classes a),
        )
  ]

  pub layouts-begin : (a b : ClassId) → IsSubclass classes a b → Begins (instance_fields classes b) (instance_fields classes a)
  layouts-begin a b ab = layouts-begin_within (a.0 + 1) a b (omega arith) ab
