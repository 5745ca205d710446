-- What a heap has under a name: an object that stands in it; and of two parts what the first one has, or where that has nothing what the second one has.
use Rattle.std.proofs.Common.{◌≡◌, ℕ, ◌==◌, Bool, true, false, cond, List, [], ◌∷◌, ◌++◌, find, Option, Some, None, option_map, Contains, refl, subst}
use Rattle.std.proofs.lemmas.Bool.{eqb-true}
use Rattle.std.proofs.lemmas.Option.{same_Some}
use Rattle.list_lemmas.proofs.ItemsOfLists.{Contains-here, Contains-there}
use Rattle.jk_model_domains.specs.Objects.{NamedObject, Object, object_named}
use Rattle.jk_model_heaps.specs.Heaps.{named}

-- the object of a name in a heap whose first entry bears that name, or doesn't
abbrev pub by_first : Bool → NamedObject → List NamedObject → ℕ → Option Object
by_first t e heap b = option_map (λ (x : NamedObject). x.object) (cond t (Some e) (find (λ (x : NamedObject). x.name == b) heap))

-- what the first of two parts has
front_step : (t : Bool) (e : NamedObject) (heap more : List NamedObject) (b : ℕ) (o : Object)
    → (object_named heap b ≡ Some o → object_named (heap ++ more) b ≡ Some o) → by_first t e heap b ≡ Some o → by_first t e (heap ++ more) b ≡ Some o
front_step true e heap more b o later is = is
front_step false e heap more b o later is = later is

pub in_front : (heap more : List NamedObject) (b : ℕ) (o : Object) → object_named heap b ≡ Some o → object_named (heap ++ more) b ≡ Some o
in_front [] more b o is = absurd cc
in_front (e ∷ heap) more b o is = front_step (e.name == b) e heap more b o (in_front heap more b o) is

-- what the first part lacks
behind_step : (t : Bool) (e : NamedObject) (heap more : List NamedObject) (b : ℕ)
    → (object_named heap b ≡ None → object_named (heap ++ more) b ≡ object_named more b) → by_first t e heap b ≡ None
    → by_first t e (heap ++ more) b ≡ object_named more b
behind_step true e heap more b later is = absurd cc
behind_step false e heap more b later is = later is

pub behind : (heap more : List NamedObject) (b : ℕ) → object_named heap b ≡ None → object_named (heap ++ more) b ≡ object_named more b
behind [] more b is = refl
behind (e ∷ heap) more b is = behind_step (e.name == b) e heap more b (behind heap more b) is

-- ---- What is found under a name stands in the heap.

same_entry : (x : NamedObject) (n : ℕ) (p : Object) → x.name ≡ n → x.object ≡ p → x ≡ named n p
same_entry x n p en ep = λ i. record { name = en i; object = ep i }

stands_step : (t : Bool) (e : NamedObject) (heap : List NamedObject) (b : ℕ) (o : Object) → e.name == b ≡ t
    → (object_named heap b ≡ Some o → Contains heap (named b o)) → by_first t e heap b ≡ Some o → Contains (e ∷ heap) (named b o)
stands_step true e heap b o same later is =
    let here : e ≡ named b o = same_entry e b o (eqb-true e.name b same) (same_Some e.object o is) in
    subst (λ (x : NamedObject). Contains (e ∷ heap) x) here (Contains-here e heap)
stands_step false e heap b o other later is = Contains-there (named b o) e heap (later is)

pub stands : (heap : List NamedObject) (b : ℕ) (o : Object) → object_named heap b ≡ Some o → Contains heap (named b o)
stands [] b o is = absurd cc
stands (e ∷ heap) b o is = stands_step (e.name == b) e heap b o refl (stands heap b o) is
