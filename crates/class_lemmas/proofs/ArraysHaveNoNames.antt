-- The name of a class never begins as an array's.
use Rattle.std.proofs.Common.{◌≡◌, ℕ, zero, suc, ◌≤◌, inl, inr, true, List, ◌∷◌, ◌++◌, refl, arith, replicate}
use Rattle.jk_model.specs.Descriptors.{IsClassName, base_text}
use Rattle.jk_model_classes.specs.ClassNames.{BeginsArray, IsArrayDescriptor}
use Rattle.model_lemmas.proofs.ClassNamesDecided.{Walks, class_walks}

pub walks_no_array : (rest : List ℕ) → Walks true (91 ∷ rest) → ⊥
walks_no_array rest (inl on) = on.0.2 refl
walks_no_array rest (inr slash) = let e = slash.0 in absurd cc

pub no_array : (units : List ℕ) → BeginsArray units → IsClassName units → ⊥
no_array units (rest, e) h = walks_no_array rest (rw e at (class_walks units h))

pub begins_by : (d : ℕ) (back units : List ℕ) → 1 ≤ d → units ≡ replicate d 91 ++ back → BeginsArray units
begins_by zero back units some e = absurd (omega arith)
begins_by (suc d) back units some e = (replicate d 91 ++ back, e)

pub array_begins : (units : List ℕ) → IsArrayDescriptor units → BeginsArray units
array_begins units (t, some, h) = begins_by t.dims (base_text t.base) units some h.1
