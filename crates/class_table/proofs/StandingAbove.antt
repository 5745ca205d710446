-- Which classes stand above a class, for ordered classes: those above its parent and its interfaces among them, and of two
-- superclasses of one class the lower number is above the other.
use Rattle.std.proofs.Common.{◌≡◌, ℕ, zero, suc, ◌+◌, ◌<◌, ◌≤◌, List, [], ◌∷◌, ◌++◌, Option, Some, None, flat_map, Contains, refl, sym, ap, ◌∙◌, inl, inr, ◌⊎◌, arith}
use Rattle.std.specs.Option.{option_map_or}
use Rattle.jk_model.specs.declared.identifiers.ClassId.{ClassId}
use Rattle.jk_model_classes.specs.declared.records.ClassRecord.{ClassRecord}
use Rattle.jk_model_classes.specs.Classes.{record_of, parents_of, listed_interfaces, IsBelow, AreOrdered, superclasses, with_interfaces, own_interfaces}
use Rattle.list_lemmas.proofs.ItemsOfLists.{Contains-here, Contains-there, Contains-cases, none_in, only_in, Contains-flat_map, Contains-flat_map_from, each-of}
use Rattle.class_lemmas.proofs.ClassesBelow.{parents-below, interfaces-below}
use Rattle.class_table.proofs.HeightsAreEnough.{superclasses-below, superclasses-step, with_interfaces-step}

-- ---- A class has one parent at most.

one_parent_by : (o : Option ClassId) → (option_map_or (λ (p : ClassId). p ∷ []) o [] ≡ [])
    ⊎ ((p : ClassId) × (option_map_or (λ (p : ClassId). p ∷ []) o [] ≡ p ∷ []))
one_parent_by None = inl refl
one_parent_by (Some p) = inr (p, refl)

one_parent_of : (o : Option ClassRecord)
    → (option_map_or (λ (r : ClassRecord). option_map_or (λ p. p ∷ []) r.parent []) o [] ≡ [])
    ⊎ ((p : ClassId) × (option_map_or (λ (r : ClassRecord). option_map_or (λ p. p ∷ []) r.parent []) o [] ≡ p ∷ []))
one_parent_of None = inl refl
one_parent_of (Some r) = one_parent_by r.parent

pub one-parent : (classes : List ClassRecord) (c : ClassId) → (parents_of classes c ≡ []) ⊎ ((p : ClassId) × (parents_of classes c ≡ p ∷ []))
one-parent classes c = one_parent_of (record_of classes c)

pub flat_map-one : {A : Type 0} (f : ClassId → List A) (xs : List ClassId) (p : ClassId) → xs ≡ p ∷ [] → flat_map f xs ≡ f p ++ []
flat_map-one f xs p e = rw e refl

module _ (classes : List ClassRecord) (ordered : AreOrdered classes) where
  -- ---- Superclasses.

  pub is-own_superclass : (c : ClassId) → Contains (superclasses classes c) c
  is-own_superclass c = rw (superclasses-step classes ordered c) (Contains-here c (flat_map (superclasses classes) (parents_of classes c)))

  pub superclasses-lower : (c d : ClassId) → Contains (superclasses classes c) d → d.0 ≤ c.0
  superclasses-lower c d h =
      let most = each-of (λ (d : ClassId). d.0 < suc c.0) (superclasses classes c) d (superclasses-below classes ordered c) h in
      omega arith

  -- what is above the parent is above the class
  pub superclasses-of_parent : (c p d : ClassId) → Contains (parents_of classes c) p → Contains (superclasses classes p) d
      → Contains (superclasses classes c) d
  superclasses-of_parent c p d parent above =
      rw (superclasses-step classes ordered c)
      (Contains-there d c (flat_map (superclasses classes) (parents_of classes c))
      (Contains-flat_map (superclasses classes) (parents_of classes c) p d parent above))

  -- a superclass is the class itself, or one of its parent
  pub superclasses-cases : (c d : ClassId) → Contains (superclasses classes c) d
      → (c ≡ d) ⊎ ((p : ClassId) × (parents_of classes c ≡ p ∷ []) × Contains (superclasses classes p) d)
  superclasses-cases c d h =
      elim (Contains-cases d c (flat_map (superclasses classes) (parents_of classes c)) (rw (superclasses-step classes ordered c) at h)) [
        | inl e ↦ inl e
        | inr later ↦
            let from = Contains-flat_map_from (superclasses classes) (parents_of classes c) d later in
            elim (one-parent classes c) [
              | inl none ↦ absurd (none_in from.0 (parents_of classes c) none from.1)
              | inr (p, only) ↦ inr (p, only, rw (only_in from.0 p (parents_of classes c) only from.1) from.2)
            ]
      ]

  pub parent-lower : (c p : ClassId) → parents_of classes c ≡ p ∷ [] → p.0 < c.0
  parent-lower c p only =
      each-of (IsBelow c.0) (parents_of classes c) p (parents-below classes ordered c) (rw only (Contains-here p []))

  superclasses-trans_within : (h : ℕ) (a b c : ClassId) → a.0 < h → Contains (superclasses classes a) b → Contains (superclasses classes b) c
      → Contains (superclasses classes a) c
  superclasses-trans_within zero a b c low ab bc = absurd (omega arith)
  superclasses-trans_within (suc h) a b c low ab bc = elim (superclasses-cases a b ab) [
    | inl same ↦ rw same bc
    | inr (p, only, pb) ↦
        let lower = parent-lower a p only in
        superclasses-of_parent a p c (rw only (Contains-here p []))
        (superclasses-trans_within h p b c (omega arith) pb bc)
  ]

  pub superclasses-trans : (a b c : ClassId) → Contains (superclasses classes a) b → Contains (superclasses classes b) c
      → Contains (superclasses classes a) c
  superclasses-trans a b c ab bc = superclasses-trans_within (a.0 + 1) a b c (omega arith) ab bc

  superclasses-chain_within : (h : ℕ) (a b c : ClassId) → a.0 < h → Contains (superclasses classes a) b → Contains (superclasses classes a) c
      → c.0 ≤ b.0 → Contains (superclasses classes b) c
  superclasses-chain_within zero a b c low ab ac order = absurd (omega arith)
  superclasses-chain_within (suc h) a b c low ab ac order = elim (superclasses-cases a b ab) [
    | inl same ↦ rw (← same) ac
    | inr (p, only, pb) ↦
        let lower = parent-lower a p only in
        elim (superclasses-cases a c ac) [
          | inl at ↦
              let under = superclasses-lower p b pb in
              let whole : a.0 ≡ c.0 = ap (λ (d : ClassId). d.0) at in
              absurd (omega arith)
          | inr (q, other, qc) ↦
              let same : q ≡ p = only_in p q (p ∷ []) (sym only ∙ other) (Contains-here p []) in
              let pc : Contains (superclasses classes p) c = rw (← same) qc in
              superclasses-chain_within h p b c (omega arith) pb pc order
        ]
  ]

  -- of two superclasses of a class, the one with the lower number is above the other
  pub superclasses-chain : (a b c : ClassId) → Contains (superclasses classes a) b → Contains (superclasses classes a) c
      → c.0 ≤ b.0 → Contains (superclasses classes b) c
  superclasses-chain a b c ab ac order = superclasses-chain_within (a.0 + 1) a b c (omega arith) ab ac order

  -- ---- Interfaces.

  interfaces-trans_within : (h : ℕ) (a i x : ClassId) → a.0 < h → Contains (with_interfaces classes a) i
      → Contains (with_interfaces classes i) x → Contains (with_interfaces classes a) x
  interfaces-trans_within zero a i x low ai ix = absurd (omega arith)
  interfaces-trans_within (suc h) a i x low ai ix =
      elim (Contains-cases i a (own_interfaces classes a) (rw (with_interfaces-step classes ordered a) at ai)) [
        | inl same ↦ rw same ix
        | inr above ↦
            let from = Contains-flat_map_from (with_interfaces classes) (listed_interfaces classes a) i above in
            let lower : from.0.0 < a.0 = each-of (IsBelow a.0) (listed_interfaces classes a) from.0 (interfaces-below classes ordered a) from.1 in
            rw (with_interfaces-step classes ordered a)
            (Contains-there x a (own_interfaces classes a)
            (Contains-flat_map (with_interfaces classes) (listed_interfaces classes a) from.0 x from.1
            (interfaces-trans_within h from.0 i x (omega arith) from.2 ix)))
      ]

  -- what stands above an interface stands above whatever it stands above
  pub interfaces-trans : (a i x : ClassId) → Contains (with_interfaces classes a) i → Contains (with_interfaces classes i) x
      → Contains (with_interfaces classes a) x
  interfaces-trans a i x ai ix = interfaces-trans_within (a.0 + 1) a i x (omega arith) ai ix
