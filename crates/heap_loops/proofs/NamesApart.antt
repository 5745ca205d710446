-- Where no name of a heap is there twice, its last part has no name of its first part, and an object in its middle is put alone.
use Rattle.std.proofs.Common.{◌≡◌, ◌≢◌, ℕ, suc, ◌+◌, ◌==◌, Bool, cond, List, [], ◌∷◌, ◌++◌, length, find, Contains, Option, Some, None, slice_get, refl, sym, ap, ◌∙◌, arith}
use Rattle.std.specs.Option.{option_map}
use Rattle.std.proofs.lemmas.Bool.{eq-eqb}
use Rattle.list_lemmas.proofs.ItemsByPlace.{slice_get-behind, slice_get-longer, slice_get-seam}
use Rattle.list_lemmas.proofs.ItemsOfLists.{Contains-here, stands_at}
use Rattle.jk_model_domains.specs.Objects.{NamedObject, Object, object_named}
use Rattle.jk_model_heaps.specs.Heaps.{named, with_object}
use Rattle.jk_model_heaps.proofs.NamesInHeaps.{behind, stands}
use Rattle.object_store.proofs.ObjectsByName.{NamesDiffer, absent_as_is, absent_by, rest_differs}

-- ---- Two parts.

lacks_by : (front back : List NamedObject) (e : NamedObject) → NamesDiffer (front ++ back) → Contains back e → (found : Option Object)
    → object_named front e.name ≡ found → object_named front e.name ≡ None
lacks_by front back e differ has None is = is
lacks_by front back e differ has (Some o) is =
    let first = stands_at front (named e.name o) (stands front e.name o is) in
    let second = stands_at back e has in
    let same : first.0 ≡ length front + second.0 =
    differ first.0 (length front + second.0) (named e.name o) e (slice_get-longer front back first.0 (named e.name o) first.2)
    (slice_get-behind front back second.0 ∙ second.2) refl in
    absurd (omega (arith, same, first.1))

pub front_lacks : (front back : List NamedObject) (e : NamedObject) → NamesDiffer (front ++ back) → Contains back e
    → object_named front e.name ≡ None
front_lacks front back e differ has = lacks_by front back e differ has (object_named front e.name) refl

pub back_differs : (front back : List NamedObject) → NamesDiffer (front ++ back) → NamesDiffer back
back_differs front back differ = λ i j a b at bt same.
    let one : length front + i ≡ length front + j =
    differ (length front + i) (length front + j) a b (slice_get-behind front back i ∙ at) (slice_get-behind front back j ∙ bt) same in
    omega (arith, one)

-- ---- An object in the middle.

found_first : (a : ℕ) (p : Object) (rest : List NamedObject) → object_named (named a p ∷ rest) a ≡ Some p
found_first a p rest =
    ap (λ (t : Bool). option_map (λ (e : NamedObject). e.object) (cond t (Some (named a p)) (find (λ (e : NamedObject). e.name == a) rest)))
    (eq-eqb a a refl)

pub live_in_middle : (a : ℕ) (p : Object) (front rest : List NamedObject) → NamesDiffer (front ++ named a p ∷ rest)
    → object_named (front ++ named a p ∷ rest) a ≡ Some p
live_in_middle a p front rest differ =
    behind front (named a p ∷ rest) a (front_lacks front (named a p ∷ rest) (named a p) differ (Contains-here (named a p) rest))
    ∙ found_first a p rest

pub put_in_middle : (a : ℕ) (p q : Object) (front rest : List NamedObject) → NamesDiffer (front ++ named a p ∷ rest)
    → with_object a q (front ++ named a p ∷ rest) ≡ front ++ named a q ∷ rest
put_in_middle a p q [] rest differ =
    let here : cond (a == a) (named a q) (named a p) ≡ named a q = ap (λ (t : Bool). cond t (named a q) (named a p)) (eq-eqb a a refl) in
    let alone : (k : ℕ) (e : NamedObject) → slice_get rest k ≡ Some e → e.name ≢ a =
    λ k e at same. let one : 0 ≡ suc k = differ 0 (suc k) (named a p) e refl at (sym same) in omega (arith, one) in
    let others = absent_as_is a q rest alone in
    cc
put_in_middle a p q (e ∷ es) rest differ =
    let other : e.name ≢ a =
    λ same. let one : 0 ≡ suc (length es) =
    differ 0 (suc (length es)) e (named a p) refl (slice_get-seam es (named a p) rest) same in
    omega (arith, one) in
    let here = absent_by a q e (e.name == a) refl other in
    let others = put_in_middle a p q es rest (rest_differs e (es ++ named a p ∷ rest) differ) in
    cc
