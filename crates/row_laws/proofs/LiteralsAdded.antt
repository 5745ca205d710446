-- A domain stays sealed inside where texts that had no object become literals, each with an object of its text.
use Rattle.std.proofs.Common.{◌≡◌, ◌≢◌, ℕ, Bool, true, false, cond, List, [], ◌∷◌, ◌++◌, map, find, Contains, Option, Some, None, option_map, refl, sym, subst, append_assoc}
use Rattle.std.specs.Prelude.{bytes_eq}
use Rattle.std.specs.List.{AllByRecursion}
use Rattle.std.proofs.lemmas.List.{append-nil}
use Rattle.std.proofs.lemmas.Slice.Eq.{bytes_eq-Decides}
use Rattle.list_lemmas.proofs.ItemsOfLists.{Contains-here, Contains-there}
use Rattle.jk_model_domains.specs.Objects.{Text, object_named}
use Rattle.jk_model_domains.specs.OwnStates.{Literal, OwnState}
use Rattle.jk_model_heaps.specs.Workings.{Inside, with_own}
use Rattle.jk_model_sealing.specs.SealedInsides.{IsSealedInside, Surroundings}
use Rattle.heap_laws.proofs.SealedStill.{literal_sealed}
use Rattle.row_laws.proofs.TextsOfLiterals.{AreNewTexts, IsOther}

-- ---- What lacks an object still does where another text gets one.

abbrev of_text : List ℕ → Literal → Bool
of_text text l = bytes_eq l.text text

abbrev name_in : List Literal → List ℕ → Option ℕ
name_in literals text = option_map (λ (l : Literal). l.name) (find (of_text text) literals)

none_last : (l : Literal) (text : List ℕ) (b : Bool) → bytes_eq l.text text ≡ b → text ≢ l.text
    → option_map (λ (k : Literal). k.name) (cond b (Some l) None) ≡ None
none_last l text true e other = absurd (other (sym ((bytes_eq-Decides l.text text).0 e)))
none_last l text false e other = refl

none_by : (k : Literal) (o p : Option Literal) (b : Bool)
    → (option_map (λ (x : Literal). x.name) o ≡ None → option_map (λ (x : Literal). x.name) p ≡ None)
    → option_map (λ (x : Literal). x.name) (cond b (Some k) o) ≡ None → option_map (λ (x : Literal). x.name) (cond b (Some k) p) ≡ None
none_by k o p true rest e = absurd cc
none_by k o p false rest e = rest e

none_added : (literals : List Literal) (l : Literal) (text : List ℕ) → text ≢ l.text → name_in literals text ≡ None
    → name_in (literals ++ l ∷ []) text ≡ None
none_added [] l text other none = none_last l text (bytes_eq l.text text) refl other
none_added (k ∷ literals) l text other none =
    none_by k (find (of_text text) literals) (find (of_text text) (literals ++ l ∷ [])) (bytes_eq k.text text) (none_added literals l text other) none

still_new : (own : OwnState) (l : Literal) (texts : List (List ℕ)) → AllByRecursion (IsOther l.text) texts → AreNewTexts own texts
    → AreNewTexts (record own { literals = own.literals ++ l ∷ [] }) texts
still_new own l [] others new = tt
still_new own l (text ∷ more) others new =
    (none_added own.literals l text others.0 new.0, new.1, still_new own l more others.1 new.2)

-- ---- One after another.

abbrev with_literals : Inside → List Literal → Inside
with_literals inside literals = with_own inside (record inside.own { literals = literals })

pub literals_sealed : (around : Surroundings) (quota : ℕ) (more : List Literal) (inside : Inside) → IsSealedInside around quota inside
    → AreNewTexts inside.own (map (λ (l : Literal). l.text) more)
    → ((l : Literal) → Contains more l → object_named inside.heap l.name ≡ Some (Text l.text))
    → IsSealedInside around quota (with_own inside (record inside.own { literals = inside.own.literals ++ more }))
literals_sealed around quota [] inside sealed new there =
    subst (λ (literals : List Literal). IsSealedInside around quota (with_literals inside literals)) (sym (append-nil inside.own.literals)) sealed
literals_sealed around quota (l ∷ more) inside sealed new there =
    let first = literal_sealed around quota inside l sealed new.0 (there l (Contains-here l more)) in
    let then : Inside = with_literals inside (inside.own.literals ++ l ∷ []) in
    let all = literals_sealed around quota more then first
    (still_new inside.own l (map (λ (k : Literal). k.text) more) new.1 new.2) (λ k has. there k (Contains-there k l more has)) in
    subst (λ (literals : List Literal). IsSealedInside around quota (with_literals inside literals))
    (append_assoc inside.own.literals (l ∷ []) more) all
