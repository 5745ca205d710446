-- Classes get their indices one after the other.
use Rattle.std.proofs.Common.{◌≡◌, ◌≢◌, ℕ, suc, ◌+◌, ◌<◌, List, [], ◌∷◌, ◌++◌, length, take, drop, get_or, refl, sym, ◌∙◌, ap, subst, append_assoc, drop-cons, codes}
use Rattle.std.specs.List.{flat_map}
use Rattle.std.proofs.lemmas.Grind.{flat_map-append}
use Rattle.std.proofs.lemmas.List.{take_more, take-append-drop}
use Rattle.jk_model.specs.declared.class_file.Attribute.{Attribute}
use Rattle.jk_model.specs.declared.class_file.PoolEntry.{PoolEntry}
use Rattle.jk_model.specs.ClassFile.{AreInterfaces, interfaces_bytes}
use Rattle.jkasm.specs.Assembled.{Agree, HasThrowsAttribute}
use Rattle.jkasm.specs.Constants.{Utf8, Utf8At, ClassAt, for_class, for_throws}
use Rattle.jkasm.specs.PoolGrowth.{Extends, Takes, HasNoRoom}
use Rattle.jkasm.proofs.LaterPools.{classes_later}
use Rattle.jkasm.proofs.ListsAgree.{agree_push}
use Rattle.jkasm.proofs.TakesInTurn.{takes_trans, no_room_after, no_room_more}

-- a class stands at a place of a list
pub record IsAt (classes : List (List ℕ)) (i : ℕ) (class : List ℕ) : Type 0 where
  pub within : i < length classes
  pub is : class ≡ get_or classes i class

front_push : (classes : List (List ℕ)) (i : ℕ) (class : List ℕ) → IsAt classes i class → take (i + 1) classes ≡ take i classes ++ class ∷ []
front_push classes i class at = take_more classes i class at.within ∙ ap (λ (c : List ℕ). take i classes ++ c ∷ []) (sym at.is)

parts : (classes : List (List ℕ)) (i : ℕ) (class : List ℕ) → IsAt classes i class
    → (take i classes ++ class ∷ []) ++ drop (suc i) classes ≡ classes
parts classes i class at =
    let below : i < length classes = at.within in
    append_assoc (take i classes) (class ∷ []) (drop (suc i) classes)
    ∙ ap (λ (c : List ℕ). take i classes ++ (c ∷ drop (suc i) classes)) at.is
    ∙ ap (λ (cs : List (List ℕ)). take i classes ++ cs) (sym (drop-cons classes i class below))
    ∙ take-append-drop i classes

-- ---- One more class.

pub classes_push : (old new : List PoolEntry) (classes : List (List ℕ)) (i : ℕ) (class : List ℕ) (indices all : List ℕ) (index : ℕ)
    → IsAt classes i class → Extends old new → Agree (λ class i. ClassAt old i class) (take i classes) indices → ClassAt new index class
    → all ≡ indices ++ index ∷ [] → Agree (λ class i. ClassAt new i class) (take (i + 1) classes) all
classes_push old new classes i class indices all index at grown h is pushed =
    let longer = agree_push (λ class i. ClassAt new i class) (take i classes) indices class index
    (classes_later old new (take i classes) indices grown h) is in
    subst (λ cs. Agree (λ class i. ClassAt new i class) cs all) (sym (front_push classes i class at))
    (subst (λ (is : List ℕ). Agree (λ class i. ClassAt new i class) (take i classes ++ class ∷ []) is) (sym pushed) longer)

needs_push : (classes : List (List ℕ)) (class : List ℕ) → flat_map for_class (classes ++ class ∷ []) ≡ flat_map for_class classes ++ for_class class
needs_push classes class = flat_map-append for_class classes (class ∷ [])

pub classes_take : (first old new : List PoolEntry) (classes : List (List ℕ)) (i : ℕ) (class : List ℕ) → IsAt classes i class
    → Takes first old (flat_map for_class (take i classes)) → Takes old new (for_class class)
    → Takes first new (flat_map for_class (take (i + 1) classes))
classes_take first old new classes i class at so_far more =
    let all = takes_trans first old new (flat_map for_class (take i classes)) (for_class class) so_far more in
    subst (λ cs. Takes first new (flat_map for_class cs)) (sym (front_push classes i class at))
    (subst (Takes first new) (sym (needs_push (take i classes) class)) all)

-- where a class has no room, all have none
pub classes_no_room : (first old : List PoolEntry) (classes : List (List ℕ)) (i : ℕ) (class : List ℕ) → IsAt classes i class
    → Takes first old (flat_map for_class (take i classes)) → HasNoRoom old (for_class class) → HasNoRoom first (flat_map for_class classes)
classes_no_room first old classes i class at so_far none =
    let front = take i classes in
    let back = drop (suc i) classes in
    let here = no_room_after first old (flat_map for_class front) (for_class class) so_far none in
    let longer : HasNoRoom first (flat_map for_class (front ++ class ∷ [])) = subst (HasNoRoom first) (sym (needs_push front class)) here in
    let all = no_room_more first (flat_map for_class (front ++ class ∷ [])) (flat_map for_class back) longer in
    subst (λ cs. HasNoRoom first (flat_map for_class cs)) (parts classes i class at)
    (subst (HasNoRoom first) (sym (flat_map-append for_class (front ++ class ∷ []) back)) all)

-- ---- The attribute Exceptions, of some classes.

pub exceptions_need : (classes : List (List ℕ)) → classes ≢ [] → for_throws classes ≡ Utf8 (codes "Exceptions") ∷ flat_map for_class classes
exceptions_need [] some = absurd (some refl)
exceptions_need (class ∷ classes) some = refl

pub throws_classes : (pool : List PoolEntry) (classes : List (List ℕ)) (a : Attribute) (indices : List ℕ) → classes ≢ []
    → Utf8At pool a.name (codes "Exceptions") → AreInterfaces indices
    → Agree (λ class i. ClassAt pool i class) classes indices → a.body ≡ interfaces_bytes indices → HasThrowsAttribute pool classes (a ∷ [])
throws_classes pool [] a indices some name fit agree body = absurd (some refl)
throws_classes pool (class ∷ classes) a indices some name fit agree body = (a, refl, (name, (indices, fit, agree, body)))
