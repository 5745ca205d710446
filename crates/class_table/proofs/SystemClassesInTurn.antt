-- The records of the first system classes, with one more.
use Rattle.std.proofs.Common.{◌≡◌, ℕ, List, [], ◌∷◌, ◌++◌, length, Some, slice_get, sym, ap, ◌∙◌, inl, inr}
use Rattle.std.proofs.lemmas.Option.{same_Some}
use Rattle.jk_model.specs.SystemTable.{SystemClass, system_classes}
use Rattle.jk_model_classes.specs.declared.records.ClassRecord.{ClassRecord}
use Rattle.jk_model_classes.specs.SystemRecords.{IsSystemRecord}
use Rattle.list_lemmas.proofs.ItemsByPlace.{slice_get-push_cases}

abbrev pub AreSystemSoFar : List ClassRecord → Type 0
AreSystemSoFar classes =
    (k : ℕ) (entry : SystemClass) (r : ClassRecord) → slice_get system_classes k ≡ Some entry → slice_get classes k ≡ Some r → IsSystemRecord k entry r

pub system-more : (old new : List ClassRecord) (n : ℕ) (r : ClassRecord) → length old ≡ n → AreSystemSoFar old → new ≡ old ++ r ∷ []
    → (entry : SystemClass) × (slice_get system_classes n ≡ Some entry) × IsSystemRecord n entry r → AreSystemSoFar new
system-more old new n r many each grown (made, is, right) k entry s known at = elim (slice_get-push_cases old r s k (rw grown at at)) [
  | inl front ↦ each k entry s known front.1
  | inr last ↦
      let here : k ≡ n = last.0 ∙ many in
      let same : made ≡ entry = same_Some made entry (sym is ∙ ap (slice_get system_classes) (sym here) ∙ known) in
      rw (here, ← same, ← (last.1)) right
]
