-- What a heap has under each name after one object is made in it.
use Rattle.std.proofs.Common.{◌≡◌, ◌≢◌, ℕ, ◌==◌, Bool, true, false, List, [], ◌∷◌, ◌++◌, Some, None, refl, sym, ap, ◌∙◌, eq-eqb, ne_eqb}
use Rattle.jk_model_classes.specs.declared.records.ClassRecord.{ClassRecord}
use Rattle.jk_model_domains.specs.Objects.{NamedObject, Object, object_named}
use Rattle.jk_model_heaps.specs.Heaps.{MakesOne, named}
use Rattle.jk_model_heaps.proofs.NamesInHeaps.{by_first, in_front, behind}
use Rattle.list_lemmas.proofs.ItemsOfLists.{Contains-here}

module _ (classes : List ClassRecord) (quota : ℕ) (heap : List NamedObject) (a : ℕ) (object : Object) where
  module _ (new : List NamedObject) (made : MakesOne classes quota heap a object new) where
    grown : (n : ℕ) → object_named new n ≡ object_named (heap ++ named a object ∷ []) n
    grown n = ap (λ (h : List NamedObject). object_named h n) made.grown

    pub old_name : (n : ℕ) (o : Object) → object_named heap n ≡ Some o → object_named new n ≡ Some o
    old_name n o is = grown n ∙ in_front heap (named a object ∷ []) n o is

    only : (n : ℕ) (t : Bool) → a == n ≡ t → object_named (named a object ∷ []) n ≡ by_first t (named a object) [] n
    only n t is = ap (λ (u : Bool). by_first u (named a object) [] n) is

    pub new_name : object_named new a ≡ Some object
    new_name =
        grown a ∙ behind heap (named a object ∷ []) a (made.fresh (named a object) (Contains-here (named a object) [])) ∙ only a true (eq-eqb a a refl)

    pub no_other : (n : ℕ) → object_named heap n ≡ None → n ≢ a → object_named new n ≡ None
    no_other n lacked differ =
        grown n ∙ behind heap (named a object ∷ []) n lacked ∙ only n false (ne_eqb a n (λ e. differ (sym e)))
