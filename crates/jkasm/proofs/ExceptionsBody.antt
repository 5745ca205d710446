-- The attribute Exceptions, of the indices of some classes.
use Rattle.std.proofs.Common.{◌≡◌, ◌≢◌, ℕ, ◌*◌, ◌≤◌, Bool, false, eqb, eq-eqb, List, [], ◌∷◌, ◌++◌, length, refl, sym, ap, ◌∙◌, subst, arith}
use Rattle.std.specs.List.{AllByRecursion, flat_map}
use Rattle.jk_model.specs.declared.class_file.Attribute.{Attribute}
use Rattle.jk_model.specs.declared.class_file.PoolEntry.{PoolEntry}
use Rattle.jk_model.specs.ClassFile.{AreAttributes, AreBytes, AreInterfaces, IsU2, u2, interfaces_bytes}
use Rattle.jkasm.specs.Assembled.{Agree}
use Rattle.jkasm.specs.Constants.{ClassAt}
use Rattle.jkasm.specs.Limits.{MAX_COUNT}
use Rattle.jkasm.proofs.ListsAgree.{agree_length}

pub some_by_length : {X : Type 0} (xs : List X) (empty : Bool) → empty ≡ eqb (length xs) 0 → empty ≡ false → xs ≢ []
some_by_length xs empty is false_here none =
    let yes = eq-eqb (length xs) 0 (ap length none) in
    cc

-- classes that are few have few indices
pub few_indices : (pool : List PoolEntry) (classes : List (List ℕ)) (indices : List ℕ) → length classes ≤ MAX_COUNT
    → Agree (λ class i. ClassAt pool i class) classes indices → AllByRecursion IsU2 indices → AreInterfaces indices
few_indices pool classes indices few agree fit =
    let same = agree_length (λ class i. ClassAt pool i class) classes indices agree in
    (omega (arith, same, few), fit)

-- what is written after nothing
pub body_after : (out front given indices : List ℕ) → out ≡ front ++ interfaces_bytes given → front ≡ [] → given ≡ indices
    → out ≡ interfaces_bytes indices
body_after out front given indices written none same =
    written ∙ ap (λ (f : List ℕ). f ++ interfaces_bytes given) none ∙ ap (λ (all : List ℕ). interfaces_bytes all) same

indices_length : (indices : List ℕ) → length (flat_map u2 indices) ≡ 2 * length indices
indices_length [] = refl
indices_length (i ∷ indices) =
    let rest = indices_length indices in
    omega arith

indices_bytes : (indices : List ℕ) → AreBytes (flat_map u2 indices)
indices_bytes [] = tt
indices_bytes (i ∷ indices) = (omega arith, (omega arith, indices_bytes indices))

pub exceptions_fit : (name : ℕ) (body indices : List ℕ) → IsU2 name → body ≡ interfaces_bytes indices → AreInterfaces indices
    → AreAttributes (record { name = name; body = body } ∷ [])
exceptions_fit name body indices short is fit =
    let size : length body ≡ length (interfaces_bytes indices) = ap length is in
    let bytes : AreBytes (interfaces_bytes indices) = (omega arith, (omega arith, indices_bytes indices)) in
    (omega arith, ((short, omega (arith, indices_length indices, fit.0), subst AreBytes (sym is) bytes), tt))

-- one attribute after none
pub single : (all none : List Attribute) (a : Attribute) → all ≡ none ++ a ∷ [] → none ≡ [] → all ≡ a ∷ []
single all none a pushed empty = pushed ∙ ap (λ (front : List Attribute). front ++ a ∷ []) empty
