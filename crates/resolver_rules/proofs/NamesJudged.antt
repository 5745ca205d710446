-- Whether names that are brought in mean something else, one by one and all of an import.
use Rattle.std.proofs.Common.{◌≡◌, ◌≢◌, ℕ, ◌+◌, ◌<◌, ◌≤◌, ◌⊎◌, ◌↔◌, inl, inr, Bool, true, false, not, List, ◌++◌, length, refl, sym, ◌∙◌, ap, subst, arith, Some, None, slice_get, nat_eq}
use Rattle.std.specs.Prelude.{Contains, IsTrue, MatchBool}
use Rattle.std.proofs.lemmas.Bool.{cases_lt, eqb-false, ne_eqb, not-true}
use Rattle.std.proofs.lemmas.List.Elements.{Contains-append_cases}
use Rattle.std.proofs.lemmas.Option.{slice_get_within, same_Some}
use Rattle.list_lemmas.proofs.ItemsOfLists.{Contains-at}
use Rattle.jk_model.specs.declared.identifiers.ClassId.{ClassId}
use Rattle.jk_model.specs.SystemTable.{number_named}
use Rattle.jk_model_classes.specs.declared.records.ClassRecord.{ClassRecord}
use Rattle.jk_model_classes.specs.Classes.{record_of}
use Rattle.jk_model_classes.specs.SystemRecords.{system_meaning}
use Rattle.jk_model_classes.specs.Worlds.{NamedClass}
use Rattle.domain_resolver.proofs.ReachedClassesNamed.{EntryAt}
use Rattle.domain_resolver.specs.Imports.{Imported, IsImport, IsOwnName}
use Rattle.resolver_rules.specs.Imported.{AreFreeFrom, HasOtherMeaning, HasTakenFrom, IsFreeImport, IsTakenClass, IsTakenImport, NamesDiffer}
use Rattle.resolver_rules.proofs.ClassesOfNames.{meaning_number, number_meaning, same_class}

-- ---- One name.

pub another_class : (name : List ℕ) (n : ℕ) (class : ClassId) → number_named name ≡ Some n
    → IsTrue (not (nat_eq n class.0)) ↔ ((other : ClassId) × (system_meaning name ≡ Some other) × (other ≢ class))
another_class name n class is = (
  λ t. (record { 0 = n }, number_meaning name n is, λ same. eqb-false n class.0 (not-true (nat_eq n class.0) t) (ap (λ (c : ClassId). c.0) same)),
  λ h. (
      let number : n ≡ h.0.0 = same_Some n h.0.0 (sym is ∙ meaning_number name h.0 h.1) in
      let differs : nat_eq n class.0 ≡ false = ne_eqb n class.0 (λ same. h.2 (same_class h.0 class (sym number ∙ same))) in
      rw differs refl),
)

pub no_system_class : (name : List ℕ) (class : ClassId) → number_named name ≡ None
    → IsTrue false ↔ ((other : ClassId) × (system_meaning name ≡ Some other) × (other ≢ class))
no_system_class name class none = (
  λ t. absurd cc,
  λ h. (
      let both : None ≡ Some h.0.0 = sym none ∙ meaning_number name h.0 h.1 in
      absurd cc),
)

-- ---- One class.

pub taken_by_record : (paths : List (List ℕ)) (classes : List ClassRecord) (c : ClassId) (r : ClassRecord) (b : Bool) → record_of classes c ≡ Some r
    → IsTrue b ↔ HasOtherMeaning paths r.name c → IsTrue b ↔ IsTakenClass paths classes c
taken_by_record paths classes c r b at h = (
  λ t. (r, at, h.0 t),
  λ taken. h.1 (subst (λ (x : ClassRecord). HasOtherMeaning paths x.name c) (same_Some taken.0 r (sym taken.1 ∙ at)) taken.2),
)

pub not_taken : (paths : List (List ℕ)) (classes : List ClassRecord) (c : ClassId) → record_of classes c ≡ None → IsTrue false ↔ IsTakenClass paths classes c
not_taken paths classes c none = (
  λ t. absurd cc,
  λ taken. (let both : None ≡ Some taken.0 = sym none ∙ taken.1 in absurd cc),
)

-- what is said of the class's own name is said of its entry
pub entry_taken : (paths : List (List ℕ)) (classes : List ClassRecord) (e : NamedClass) → IsOwnName classes e → IsTakenClass paths classes e.class
    → HasOtherMeaning paths e.name e.class
entry_taken paths classes e own taken =
    let records : taken.0 ≡ own.of = same_Some taken.0 own.of (sym taken.1 ∙ own.there) in
    let names : taken.0.name ≡ e.name = ap (λ (r : ClassRecord). r.name) records ∙ sym own.named in
    subst (λ (n : List ℕ). HasOtherMeaning paths n e.class) names taken.2

pub class_taken : (paths : List (List ℕ)) (classes : List ClassRecord) (e : NamedClass) → IsOwnName classes e → HasOtherMeaning paths e.name e.class
    → IsTakenClass paths classes e.class
class_taken paths classes e own meaning = (own.of, own.there, subst (λ (n : List ℕ). HasOtherMeaning paths n e.class) own.named meaning)

-- ---- The names from a place on.

abbrev pub AreFreeTo : List (List ℕ) → List NamedClass → ℕ → ℕ → Type 0
AreFreeTo paths names first place =
    (k : ℕ) (e : NamedClass) → first ≤ k → k < place → slice_get names k ≡ Some e → HasOtherMeaning paths e.name e.class → ⊥

module _ (paths : List (List ℕ)) (classes : List ClassRecord) (names : List NamedClass) (own : (e : NamedClass) → Contains names e → IsOwnName classes e)
    (first place : ℕ) (class : ClassId) (here : EntryAt names place class) where
  own_here : IsOwnName classes here.entry
  own_here = own here.entry (Contains-at names place here.entry here.there)

  pub taken_here : first ≤ place → IsTakenClass paths classes class → HasTakenFrom paths names first
  taken_here low taken =
      let meaning = entry_taken paths classes here.entry own_here (subst (IsTakenClass paths classes) (sym here.classed) taken) in
      (place, here.entry, low, here.there, meaning)

  pub free_further : (IsTakenClass paths classes class → ⊥) → AreFreeTo paths names first place → AreFreeTo paths names first (place + 1)
  free_further free before k e low high at meaning = by_order (cases_lt k place)
    where
      by_order : (k < place) ⊎ (place ≤ k) → ⊥
      by_order (inl lower) = before k e low lower at meaning
      by_order (inr last) =
          let same_place : k ≡ place = omega (arith, high, last) in
          let same : e ≡ here.entry = same_Some e here.entry (sym at ∙ ap (slice_get names) same_place ∙ here.there) in
          let it : HasOtherMeaning paths here.entry.name here.entry.class = subst (λ (x : NamedClass). HasOtherMeaning paths x.name x.class) same meaning in
          free (subst (IsTakenClass paths classes) here.classed (class_taken paths classes here.entry own_here it))

pub all_free : (paths : List (List ℕ)) (names : List NamedClass) (first place : ℕ) → length names ≤ place → AreFreeTo paths names first place
    → AreFreeFrom paths names first
all_free paths names first place end free k e low at meaning =
    let within = slice_get_within names k e at in
    free k e low (omega (arith, within, end)) at meaning

-- ---- An import.

-- names stay own after an import
pub own_after : (classes : List ClassRecord) (old new : List NamedClass) (from : ClassId) → ((e : NamedClass) → Contains old e → IsOwnName classes e)
    → Imported classes old from new → (e : NamedClass) → Contains new e → IsOwnName classes e
own_after classes old new from own h e has =
    let both : Contains (old ++ h.more) e = rw h.is at has in
    elim (Contains-append_cases old h.more e both) [
      | inl before ↦ own e before
      | inr after ↦ (h.own e after).1
    ]

pub judged : (paths : List (List ℕ)) (classes : List ClassRecord) (old new : List NamedClass) (from : ClassId) (free : Bool)
    → MatchBool free (AreFreeFrom paths new (length old)) (HasTakenFrom paths new (length old)) → IsImport classes old from new → NamesDiffer new
    → MatchBool free (IsFreeImport paths classes old from new) (IsTakenImport paths classes old from new)
judged paths classes old new from true h import differ = record { import = import; free = h; differ = differ }
judged paths classes old new from false h import differ = record { imported = import.imported; taken = inr h }
