-- What an index finds among the members of a class's record is what a search of that class finds.
use Rattle.std.proofs.Common.{◌≡◌, ◌∙◌, ℕ, List, Option, Some, None, sym, subst}
use Rattle.std.proofs.lemmas.Option.{same_Some}
use Rattle.std.specs.List.{slice_get}
use Rattle.jk_model.specs.declared.identifiers.ClassId.{ClassId}
use Rattle.jk_model.specs.declared.identifiers.MemberId.{MemberId}
use Rattle.jk_model_classes.specs.Classes.{record_of}
use Rattle.jk_model_classes.specs.Lookups.{FieldSought, MethodSought, FindsFrom, IsFieldOf, IsMethodOf}
use Rattle.jk_model_classes.specs.declared.records.ClassRecord.{ClassRecord}
use Rattle.member_index.specs.Finding.{SuitsAt, FindsAt, FieldSuits, FindsFieldAt, MethodSuits, FindsMethodAt}

-- where a member of the class is so exactly where the one at its place suits, the same is found
finds_from : {M : Type 0} (Suits : M → Type 0) (members : List M) (IsOf : MemberId → Type 0) (c : ClassId) (from : ℕ) (found : Option ℕ)
    → ((i : ℕ) → SuitsAt Suits members i → IsOf (record { class = c; index = i }))
    → ((i : ℕ) → IsOf (record { class = c; index = i }) → SuitsAt Suits members i)
    → FindsAt Suits members from found → FindsFrom IsOf c from found
finds_from Suits members IsOf c from None into back finds = λ i after is_of. finds i after (back i is_of)
finds_from Suits members IsOf c from (Some i) into back finds = record {
  suits = into i finds.suits;
  not_before = finds.not_before;
  first = λ j after before is_of. finds.first j after before (back j is_of);
}

pub finds_field_of_class : (classes : List ClassRecord) (c : ClassId) (r : ClassRecord) (key : FieldSought) (from : ℕ) (found : Option ℕ)
    → record_of classes c ≡ Some r → FindsFieldAt r.fields key from found → FindsFrom (IsFieldOf classes key.name key.kind) c from found
finds_field_of_class classes c r key from found is_r finds =
    finds_from (FieldSuits key) r.fields (IsFieldOf classes key.name key.kind) c from found
    (λ i s. (s.0, (r, is_r, s.1), s.2.0, s.2.1))
    (λ i m.
    let same = same_Some m.1.0 r (sym m.1.1 ∙ is_r) in
    (m.0, subst (λ (q : ClassRecord). slice_get q.fields i ≡ Some m.0) same m.1.2, (m.2, m.3)))
    finds

pub finds_method_of_class : (classes : List ClassRecord) (c : ClassId) (r : ClassRecord) (key : MethodSought) (from : ℕ) (found : Option ℕ)
    → record_of classes c ≡ Some r → FindsMethodAt r.methods key from found → FindsFrom (IsMethodOf classes key.name key.kind) c from found
finds_method_of_class classes c r key from found is_r finds =
    finds_from (MethodSuits key) r.methods (IsMethodOf classes key.name key.kind) c from found
    (λ i s. (s.0, (r, is_r, s.1), s.2.0, s.2.1))
    (λ i m.
    let same = same_Some m.1.0 r (sym m.1.1 ∙ is_r) in
    (m.0, subst (λ (q : ClassRecord). slice_get q.methods i ≡ Some m.0) same m.1.2, (m.2, m.3)))
    finds
