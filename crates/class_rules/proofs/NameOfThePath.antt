-- A class has one name, so its path is wrong or not.
use Rattle.std.proofs.Common.{◌≡◌, ◌⊎◌, inl, inr, ℕ, List, ◌++◌, Some, refl, sym, ◌∙◌, ap, subst, codes, arith}
use Rattle.jk_model.specs.declared.class_file.ClassFile.{ClassFile}
use Rattle.jk_model.specs.declared.class_file.PoolEntry.{PoolEntry}
use Rattle.jk_model.specs.Outside.{IsPrefix}
use Rattle.jk_model.specs.Text.{utf16_of}
use Rattle.jk_model_classes.specs.ClassNames.{HasWrongPath, StandsUnder, IsReserved}
use Rattle.jk_model_classes.specs.Items.{Spot, Member, Entry, IsBefore}
use Rattle.jk_model_classes.specs.Members.{ClassAt}
use Rattle.class_lemmas.proofs.OneText.{one_class}
use Rattle.class_rules.specs.Answers.{IsLeastSpot}
use Rattle.class_rules.specs.Paths.{MayStand, MayNotStand}

-- where the class itself is at fault, no spot stands before it
first_spot : (c : ClassFile) (path : List ℕ) → (other : Spot) → IsBefore other (Member 0) → HasWrongPath c path other → ⊥
first_spot c path (Member n) before h = omega arith
first_spot c path (Entry i) before h = before

at_fault : (c : ClassFile) (path : List ℕ) → ((StandsUnder c path → ⊥) ⊎ IsReserved c) → IsLeastSpot (HasWrongPath c path) (Some 0)
at_fault c path h = (Member 0, (refl, h), first_spot c path, refl)

pub no_name : (c : ClassFile) (path : List ℕ) (pool : List PoolEntry) → pool ≡ c.pool → ((us : List ℕ) → ClassAt pool c.this_class us → ⊥)
    → IsLeastSpot (HasWrongPath c path) (Some 0)
no_name c path pool its none = at_fault c path (inl (λ (name, h, e). none name (subst (λ (p : List PoolEntry). ClassAt p c.this_class name) (sym its) h)))

right_path : (c : ClassFile) (path name : List ℕ) → ClassAt c.pool c.this_class name → MayStand (utf16_of path) name
    → (spot : Spot) → HasWrongPath c path spot → ⊥
right_path c path name h (e, free) (Member n) (zero, inl wrong) = wrong (name, h, e)
right_path c path name h (e, free) (Member n) (zero, inr (other, k, kept)) =
    let same : other ≡ name = one_class c.pool c.this_class other name k h in
    free (subst (λ (us : List ℕ). IsPrefix (codes "java/") us ⊎ IsPrefix (codes "jk/") us) same kept)
right_path c path name h may (Entry i) bad = bad

wrong_path : (c : ClassFile) (path name : List ℕ) → ClassAt c.pool c.this_class name → MayNotStand (utf16_of path) name
    → IsLeastSpot (HasWrongPath c path) (Some 0)
wrong_path c path name h (inl wrong) = at_fault c path (inl stands)
  where
    stands : StandsUnder c path → ⊥
    stands (other, k, e) =
        let same : other ≡ name = one_class c.pool c.this_class other name k h in
        wrong (e ∙ ap (λ (us : List ℕ). us ++ codes ".class") same)
wrong_path c path name h (inr kept) = at_fault c path (inr (name, h, kept))

-- ---- The same, over the slices that the call compares.

pub right_where : (c : ClassFile) (path : List ℕ) (pool : List PoolEntry) (name here under : List ℕ) → pool ≡ c.pool → ClassAt pool c.this_class name
    → under ≡ utf16_of path → here ≡ name → MayStand under here → (spot : Spot) → HasWrongPath c path spot → ⊥
right_where c path pool name here under its h is_path is_name may =
    let may2 : MayStand (utf16_of path) here = subst (λ (us : List ℕ). MayStand us here) is_path may in
    right_path c path name (subst (λ (p : List PoolEntry). ClassAt p c.this_class name) its h)
    (subst (λ (us : List ℕ). MayStand (utf16_of path) us) is_name may2)

pub wrong_where : (c : ClassFile) (path : List ℕ) (pool : List PoolEntry) (name here under : List ℕ) → pool ≡ c.pool → ClassAt pool c.this_class name
    → under ≡ utf16_of path → here ≡ name → MayNotStand under here → IsLeastSpot (HasWrongPath c path) (Some 0)
wrong_where c path pool name here under its h is_path is_name may =
    let may2 : MayNotStand (utf16_of path) here = subst (λ (us : List ℕ). MayNotStand us here) is_path may in
    wrong_path c path name (subst (λ (p : List PoolEntry). ClassAt p c.this_class name) its h)
    (subst (λ (us : List ℕ). MayNotStand (utf16_of path) us) is_name may2)
