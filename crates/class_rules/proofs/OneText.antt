-- A text of a pool has one reading, and a class one name.
use Rattle.std.proofs.Common.{◌≡◌, ℕ, List, sym, ◌∙◌, subst, Option, Some, None, slice_get, MatchOption, Result, Ok, Err, IfOk}
use Rattle.jk_model.specs.declared.class_file.PoolEntry.{PoolEntry}
use Rattle.jk_model.specs.declared.class_file.PoolEntry.TheVariants.{Class}
use Rattle.jk_model_classes.specs.Members.{TextAt, ClassAt}

-- the name of a class is the text that its entry names
class_of_text : (pool : List PoolEntry) (i name : ℕ) → slice_get pool i ≡ Some (Class name) → (found : Option (List ℕ))
    → MatchOption found ((us : List ℕ) → TextAt pool name us → ⊥) (λ us. TextAt pool name us)
    → MatchOption found ((us : List ℕ) → ClassAt pool i us → ⊥) (λ us. ClassAt pool i us)
class_of_text pool i name e None h = λ us (m, e2, k).
    let both : Some (Class m) ≡ Some (Class name) = sym e2 ∙ e in
    let same : m ≡ name = cc in
    h us (subst (λ (j : ℕ). TextAt pool j us) same k)
class_of_text pool i name e (Some us) h = (name, e, h)

pub class_by_text : {E : Type 0} (pool : List PoolEntry) (i name : ℕ) → slice_get pool i ≡ Some (Class name) → (result : Result (Option (List ℕ)) E)
    → IfOk result (λ found. MatchOption found ((us : List ℕ) → TextAt pool name us → ⊥) (λ us. TextAt pool name us))
    → IfOk result (λ found. MatchOption found ((us : List ℕ) → ClassAt pool i us → ⊥) (λ us. ClassAt pool i us))
class_by_text pool i name e (Ok found) h = class_of_text pool i name e found h
class_by_text pool i name e (Err x) h = tt
