-- Texts that are made entry by entry are those of the pool.
use Rattle.std.proofs.Common.{◌≡◌, ℕ, zero, suc, ◌+◌, ◌<◌, List, [], ◌∷◌, ◌++◌, length, take, get_or, refl, sym, ◌∙◌, ap, subst, Option, Some, None, slice_get, MatchOption}
use Rattle.std.specs.List.{AllZip}
use Rattle.std.proofs.lemmas.List.{take_more}
use Rattle.std.proofs.lemmas.Slice.Zip.{all_zipped_more, AllZip-long}
use Rattle.jk_model.specs.declared.class_file.PoolEntry.{PoolEntry}
use Rattle.jk_model.specs.declared.class_file.PoolEntry.TheVariants.{Utf8, Class}
use Rattle.jk_model.specs.ClassFile.{IsGoodEntry}
use Rattle.jk_model.specs.Text.{Spells}
use Rattle.jk_model_classes.specs.Members.{TextAt, ClassAt}
use Rattle.model_lemmas.proofs.OneReading.{one_reading}
use Rattle.class_texts.specs.EntryTexts.{IsText, IsTextOf}
use Rattle.class_texts.specs.PoolTexts.{AreTextsOf}

pub text_from_good : (pool : List PoolEntry) (e : PoolEntry) → IsGoodEntry pool e → IsText e
text_from_good pool (Utf8 bytes) h = h
text_from_good pool _ h = tt

-- one more entry, and its text
pub texts_more : (pool : List PoolEntry) (texts longer : List (Option (List ℕ))) (i : ℕ) (d : PoolEntry) (text : Option (List ℕ)) → i < length pool
    → AllZip IsTextOf (take i pool) texts → IsTextOf (get_or pool i d) text → longer ≡ texts ++ text ∷ [] → AllZip IsTextOf (take (i + 1) pool) longer
texts_more pool texts longer i d text below h its e =
    let all : AllZip IsTextOf (take i pool ++ get_or pool i d ∷ []) (texts ++ text ∷ []) =
    all_zipped_more IsTextOf (take i pool) texts (get_or pool i d) text h its in
    let front : AllZip IsTextOf (take (i + 1) pool) (texts ++ text ∷ []) =
    subst (λ (es : List PoolEntry). AllZip IsTextOf es (texts ++ text ∷ [])) (sym (take_more pool i d below)) all in
    subst (λ (ts : List (Option (List ℕ))). AllZip IsTextOf (take (i + 1) pool) ts) (sym e) front

spelt : (e : PoolEntry) (text : Option (List ℕ)) (units : List ℕ) → IsTextOf e text → ((bytes : List ℕ) × (Some e ≡ Some (Utf8 bytes)) × Spells bytes units)
    → text ≡ Some units
spelt (Utf8 bytes) (Some text) units h (b, is, k) =
    let same : b ≡ bytes = cc in
    ap (λ us. Some us) (one_reading bytes text units h (subst (λ (bs : List ℕ). Spells bs units) same k))
spelt (Utf8 bytes) None units h k = absurd h
spelt _ (Some text) units h k = absurd h
spelt _ None units h (b, is, k) = absurd cc

spells : (e : PoolEntry) (text : Option (List ℕ)) (units : List ℕ) → IsTextOf e text → text ≡ Some units
    → (bytes : List ℕ) × (Some e ≡ Some (Utf8 bytes)) × Spells bytes units
spells (Utf8 bytes) (Some text) units h is = let same : text ≡ units = cc in (bytes, refl, subst (λ (us : List ℕ). Spells bytes us) same h)
spells (Utf8 bytes) None units h is = absurd h
spells _ (Some text) units h is = absurd h
spells _ None units h is = absurd cc

text_there : (pool : List PoolEntry) (texts : List (Option (List ℕ))) → AllZip IsTextOf pool texts → (i : ℕ) (units : List ℕ) → TextAt pool i units
    → slice_get texts i ≡ Some (Some units)
text_there [] [] h i units (b, at, k) = absurd cc
text_there [] (t ∷ texts) h i units text = absurd h
text_there (e ∷ pool) [] h i units text = absurd h
text_there (e ∷ pool) (t ∷ texts) h zero units text = ap (λ o. Some o) (spelt e t units h.0 text)
text_there (e ∷ pool) (t ∷ texts) h (suc i) units text = text_there pool texts h.1 i units text

text_from : (pool : List PoolEntry) (texts : List (Option (List ℕ))) → AllZip IsTextOf pool texts → (i : ℕ) (units : List ℕ)
    → slice_get texts i ≡ Some (Some units) → TextAt pool i units
text_from [] [] h i units at = absurd cc
text_from [] (t ∷ texts) h i units at = absurd h
text_from (e ∷ pool) [] h i units at = absurd h
text_from (e ∷ pool) (t ∷ texts) h zero units at = let is : t ≡ Some units = cc in spells e t units h.0 is
text_from (e ∷ pool) (t ∷ texts) h (suc i) units at = text_from pool texts h.1 i units at

pub texts_of_pool : (pool : List PoolEntry) (texts : List (Option (List ℕ))) → AllZip IsTextOf pool texts → AreTextsOf pool texts
texts_of_pool pool texts h = record {
  as_many = AllZip-long IsTextOf pool texts h;
  each = λ i units. (text_there pool texts h i units, text_from pool texts h i units);
}

-- the name of a class is the text that its entry names
pub class_by_text : {B : Type 0} (v : B → List ℕ) (pool : List PoolEntry) (texts : List (Option (List ℕ))) (i name : ℕ) → AreTextsOf pool texts
    → slice_get pool i ≡ Some (Class name) → (found : Option B)
    → MatchOption found ((us : List ℕ) → slice_get texts name ≡ Some (Some us) → ⊥) (λ b. slice_get texts name ≡ Some (Some (v b)))
    → MatchOption found ((us : List ℕ) → ClassAt pool i us → ⊥) (λ b. ClassAt pool i (v b))
class_by_text v pool texts i name are at None h = λ us (m, at2, text).
    let both : Some (Class m) ≡ Some (Class name) = sym at2 ∙ at in
    let same : m ≡ name = cc in
    h us ((are.each name us).0 (subst (λ (j : ℕ). TextAt pool j us) same text))
class_by_text v pool texts i name are at (Some b) h = (name, at, (are.each name (v b)).1 h)
