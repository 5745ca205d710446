-- One object is made under a name that the heap lacks, where it fits.
use Rattle.std.proofs.Common.{◌≡◌, ℕ, zero, suc, ◌+◌, ◌≤◌, List, [], ◌∷◌, ◌++◌, Some, None, Contains, slice_get, refl, sym, subst, ◌∙◌, arith}
use Rattle.std.proofs.lemmas.Option.{none-some}
use Rattle.jk_model_classes.specs.declared.records.ClassRecord.{ClassRecord}
use Rattle.jk_model_domains.specs.Objects.{NamedObject, Object, object_named}
use Rattle.jk_model_heaps.specs.Heaps.{MakesOne, heap_words, named}

only_item : (x e : NamedObject) → Contains (x ∷ []) e → x ≡ e
only_item x e (zero, low, is) = is
only_item x e (suc k, low, is) = absurd (omega (arith, low))

only_place : (x : NamedObject) (i : ℕ) (e : NamedObject) → slice_get (x ∷ []) i ≡ Some e → i ≡ 0
only_place x zero e at = refl
only_place x (suc i) e at = absurd (none-some e at)

pub one_is_made : (classes : List ClassRecord) (quota : ℕ) (heap : List NamedObject) (a : ℕ) (object : Object) → object_named heap a ≡ None
    → heap_words classes heap + heap_words classes (named a object ∷ []) ≤ quota
    → MakesOne classes quota heap a object (heap ++ named a object ∷ [])
one_is_made classes quota heap a object fresh fits = record {
  fresh = λ e has. subst (λ (x : NamedObject). object_named heap x.name ≡ None) (only_item (named a object) e has) fresh;
  differ = λ i j b c first second same. only_place (named a object) i b first ∙ sym (only_place (named a object) j c second);
  fits = fits;
  grown = refl;
}
