-- A domain binds and removes names of its own alone.
use Rattle.std.proofs.Common.{◌≡◌, ℕ, ◌==◌, Bool, true, false, cond, not, List, [], ◌∷◌, ◌++◌, filter, Contains, Option, Some, None, Result, slice_get, refl, sym, ap, ◌∙◌, eq-eqb}
use Rattle.std.specs.Prelude.{bytes_eq}
use Rattle.std.proofs.lemmas.Option.{same_Some}
use Rattle.std.proofs.lemmas.Slice.Eq.{bytes_eq-Decides}
use Rattle.jk_model.specs.declared.identifiers.DomainId.{DomainId}
use Rattle.jk_model.specs.declared.steps.Raise.{Raise}
use Rattle.jk_model_sharing.specs.BoundNames.{Binds, BoundName, Unbinds, bound_as, with_name, without_name, without_names_of}
use Rattle.list_lemmas.proofs.FoundItems.{Finds, finds}
use Rattle.list_lemmas.proofs.ItemsOfLists.{Contains-here, Contains-there, place_of}

-- a text is bound once
abbrev pub AreDistinct : List BoundName → Type 0
AreDistinct names = (i j : ℕ) (a b : BoundName) → slice_get names i ≡ Some a → slice_get names j ≡ Some b → a.text ≡ b.text → i ≡ j

-- all that is bound as the text is bound by the domain
abbrev IsOwn : DomainId → List ℕ → List BoundName → Type 0
IsOwn d text names = (n : BoundName) → Contains names n → bytes_eq n.text text ≡ true → n.binder ≡ d

module _ (d : DomainId) where
  abbrev is_other : BoundName → Bool
  is_other n = not (n.binder.0 == d.0)

  own_out : (n : BoundName) → n.binder ≡ d → is_other n ≡ false
  own_out n is = ap not (eq-eqb n.binder.0 d.0 (ap (λ (k : DomainId). k.0) is))

  replaced_by : (asked : BoundName) → asked.binder ≡ d → (b : Bool) (n : BoundName) (rest others : List BoundName)
      → (b ≡ true → n.binder ≡ d) → filter is_other rest ≡ filter is_other others
      → filter is_other (cond b asked n ∷ rest) ≡ filter is_other (n ∷ others)
  replaced_by asked own true n rest others is later =
      ap (λ (b : Bool). cond b (asked ∷ filter is_other rest) (filter is_other rest)) (own_out asked own) ∙ later
      ∙ sym (ap (λ (b : Bool). cond b (n ∷ filter is_other others) (filter is_other others)) (own_out n (is refl)))
  replaced_by asked own false n rest others is later =
      λ i. cond (is_other n) (n ∷ later i) (later i)

  replaced : (asked : BoundName) → asked.binder ≡ d → (names : List BoundName) → IsOwn d asked.text names
      → without_names_of d (with_name asked names) ≡ without_names_of d names
  replaced asked own [] is = refl
  replaced asked own (n ∷ names) is =
      replaced_by asked own (bytes_eq n.text asked.text) n (with_name asked names) names (is n (Contains-here n names))
      (replaced asked own names (λ k on. is k (Contains-there k n names on)))

  removed_by : (b : Bool) (n : BoundName) (rest others : List BoundName) → (b ≡ true → n.binder ≡ d)
      → filter is_other rest ≡ filter is_other others → filter is_other (cond (not b) (n ∷ rest) rest) ≡ filter is_other (n ∷ others)
  removed_by true n rest others is later =
      later ∙ sym (ap (λ (b : Bool). cond b (n ∷ filter is_other others) (filter is_other others)) (own_out n (is refl)))
  removed_by false n rest others is later = λ i. cond (is_other n) (n ∷ later i) (later i)

  removed : (text : List ℕ) (names : List BoundName) → IsOwn d text names → without_names_of d (without_name text names) ≡ without_names_of d names
  removed text [] is = refl
  removed text (n ∷ names) is =
      removed_by (bytes_eq n.text text) n (without_name text names) names (is n (Contains-here n names))
      (removed text names (λ k on. is k (Contains-there k n names on)))

  added : (asked : BoundName) → asked.binder ≡ d → (names : List BoundName) → without_names_of d (names ++ asked ∷ []) ≡ without_names_of d names
  added asked own [] = ap (λ (b : Bool). cond b (asked ∷ []) []) (own_out asked own)
  added asked own (n ∷ names) = λ i. cond (is_other n) (n ∷ added asked own names i) (added asked own names i)

  -- where the one that is found is the domain's, all are
  own_by : (names : List BoundName) → AreDistinct names → (text : List ℕ) (bound : BoundName) → bound_as names text ≡ Some bound → bound.binder ≡ d
      → IsOwn d text names
  own_by names distinct text bound at is n on same =
      by (bound_as names text) at (finds (λ (k : BoundName). bytes_eq k.text text) names)
    where
      by : (o : Option BoundName) → o ≡ Some bound → Finds (λ (k : BoundName). bytes_eq k.text text) names o → n.binder ≡ d
      by None found h = absurd cc
      by (Some k) found h =
          let one : k ≡ bound = same_Some k bound found in
          let place = place_of names n on in
          let texts : n.text ≡ k.text = (bytes_eq-Decides n.text text).0 same ∙ sym ((bytes_eq-Decides k.text text).0 h.2) in
          let there = distinct place.0 h.0 n k place.1 h.1 texts in
          let itself : n ≡ k = same_Some n k (sym place.1 ∙ ap (slice_get names) there ∙ h.1) in
          ap (λ (y : BoundName). y.binder) (itself ∙ one) ∙ is

  pub binds_own : (names : List BoundName) → AreDistinct names → (quota : ℕ) (asked : BoundName) → asked.binder ≡ d
      → (answer : Result (Unit {0}) Raise) (new : List BoundName) → Binds names quota asked answer new
      → without_names_of d new ≡ without_names_of d names
  binds_own names distinct quota asked own answer new (Binds.too_long long) = refl
  binds_own names distinct quota asked own answer new (Binds.of_another bound short at other) = refl
  binds_own names distinct quota asked own answer new (Binds.own_name bound short at is) =
      replaced asked own names (own_by names distinct asked.text bound at (is ∙ own))
  binds_own names distinct quota asked own answer new (Binds.one_too_many short at full) = refl
  binds_own names distinct quota asked own answer new (Binds.new_name short at room) = added asked own names

  pub unbinds_own : (names : List BoundName) → AreDistinct names → (text : List ℕ) (answer : Result (Unit {0}) Raise) (new : List BoundName)
      → Unbinds names d text answer new → without_names_of d new ≡ without_names_of d names
  unbinds_own names distinct text answer new (Unbinds.not_own bound at other) = refl
  unbinds_own names distinct text answer new (Unbinds.removed bound at is) = removed text names (own_by names distinct text bound at is)
  unbinds_own names distinct text answer new (Unbinds.not_bound at) = refl
