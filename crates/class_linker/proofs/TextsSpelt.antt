-- Whether the text at an index is a given one.
use Rattle.std.proofs.Common.{◌≡◌, ◌↔◌, ℕ, List, Bool, true, false, IsTrue, Option, Some, sym, ◌∙◌, ap, slice_get}
use Rattle.jk_model.specs.declared.class_file.PoolEntry.{PoolEntry}
use Rattle.jk_model_classes.specs.Members.{TextAt}
use Rattle.class_texts.specs.PoolTexts.{AreTextsOf}

pub text_tells : (pool : List PoolEntry) (texts : List (Option (List ℕ))) (i : ℕ) (units read word : List ℕ) (r : Bool) → AreTextsOf pool texts
    → slice_get texts i ≡ Some (Some units) → read ≡ units → (IsTrue r ↔ (read ≡ word)) → IsTrue r ↔ TextAt pool i word
text_tells pool texts i units read word r are at same h = (
  λ t. (are.each i word).1 (at ∙ ap (λ (u : List ℕ). Some (Some u)) (sym same ∙ h.0 t)),
  λ text.
      let both : Some (Some units) ≡ Some (Some word) = sym at ∙ (are.each i word).0 text in
      let one : units ≡ word = cc in
      h.1 (same ∙ one),
)

pub no_text_tells : (pool : List PoolEntry) (texts : List (Option (List ℕ))) (i : ℕ) (word : List ℕ) → AreTextsOf pool texts
    → ((units : List ℕ) → slice_get texts i ≡ Some (Some units) → ⊥) → IsTrue false ↔ TextAt pool i word
no_text_tells pool texts i word are none = (λ t. let never : false ≡ true = t in absurd cc, λ text. absurd (none word ((are.each i word).0 text)))
