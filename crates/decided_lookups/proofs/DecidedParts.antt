-- What is put together from decided parts is decided: pairs, choices, what an option or a list has.
use Rattle.std.proofs.Common.{◌≡◌, ℕ, ◌⊎◌, inl, inr, Bool, true, false, IsTrue, List, [], ◌∷◌, Option, Some, None, Contains, refl, sym, ap, subst}
use Rattle.std.proofs.lemmas.Bool.{cases_eq, false≢true}
use Rattle.std.proofs.lemmas.Option.{none-some, same_Some}
use Rattle.jk_model.specs.declared.identifiers.ClassId.{ClassId}
use Rattle.jk_model.specs.declared.identifiers.DomainId.{DomainId}
use Rattle.jk_model.specs.declared.identifiers.MemberId.{MemberId}
use Rattle.list_lemmas.proofs.ItemsOfLists.{Contains-cases, Contains-here, Contains-none, Contains-there}
use Rattle.decided_lookups.specs.Decisions.{IsDecided}

abbrev pub HasDecidedEquality : Type 0 → Type 0
HasDecidedEquality X = (x y : X) → IsDecided (x ≡ y)

pub both_decided : {A B : Type 0} → IsDecided A → IsDecided B → IsDecided (A × B)
both_decided (inl a) (inl b) = inl (a, b)
both_decided (inl a) (inr fails) = inr (λ h. fails h.1)
both_decided (inr fails) b = inr (λ h. fails h.0)

pub either_decided : {A B : Type 0} → IsDecided A → IsDecided B → IsDecided (A ⊎ B)
either_decided (inl a) b = inl (inl a)
either_decided (inr fails) (inl b) = inl (inr b)
either_decided (inr fails) (inr never) = inr (λ h. elim h [ inl a ↦ fails a | inr b ↦ never b ])

-- what follows from one another is decided alike
pub same_decided : {A B : Type 0} → (A → B) → (B → A) → IsDecided A → IsDecided B
same_decided to from (inl a) = inl (to a)
same_decided to from (inr fails) = inr (λ b. fails (from b))

pub true_decided : (b : Bool) → IsDecided (IsTrue b)
true_decided true = inl refl
true_decided false = inr (λ e. false≢true e)

-- what is said of what an option has
pub some_decided : {X : Type 0} (o : Option X) (P : X → Type 0) → ((x : X) → o ≡ Some x → IsDecided (P x)) → IsDecided ((x : X) × (o ≡ Some x) × P x)
some_decided None P decide = inr (λ (x, e, holds). none-some x e)
some_decided (Some x) P decide = elim (decide x refl) [
  | inl holds ↦ inl (x, refl, holds)
  | inr fails ↦ inr (λ (y, e, holds). fails (subst P (sym (same_Some x y e)) holds))
]

-- ---- Equality.

pub number_decided : HasDecidedEquality ℕ
number_decided m n = cases_eq m n

pub option_decided : {X : Type 0} → HasDecidedEquality X → HasDecidedEquality (Option X)
option_decided decide None None = inl refl
option_decided decide None (Some y) = inr (λ e. none-some y e)
option_decided decide (Some x) None = inr (λ e. none-some x (sym e))
option_decided decide (Some x) (Some y) = same_decided (λ e. ap (λ z. Some z) e) (λ e. same_Some x y e) (decide x y)

pub list_decided : {X : Type 0} → HasDecidedEquality X → HasDecidedEquality (List X)
list_decided decide [] [] = inl refl
list_decided decide [] (y ∷ ys) = inr (λ e. absurd cc)
list_decided decide (x ∷ xs) [] = inr (λ e. absurd cc)
list_decided decide (x ∷ xs) (y ∷ ys) =
    same_decided {A = (x ≡ y) × (xs ≡ ys)}
    (λ (first, others) i. first i ∷ others i)
    (λ e. let first : x ≡ y = cc in let others : xs ≡ ys = cc in (first, others))
    (both_decided (decide x y) (list_decided decide xs ys))

pub text_decided : HasDecidedEquality (List ℕ)
text_decided a b = list_decided number_decided a b

pub class_decided : HasDecidedEquality ClassId
class_decided a b = same_decided (λ e. ap (λ (n : ℕ). let c : ClassId = record { 0 = n } in c) e) (λ e. ap (λ (c : ClassId). c.0) e) (number_decided a.0 b.0)

pub domain_decided : HasDecidedEquality DomainId
domain_decided a b = same_decided (λ e. ap (λ (n : ℕ). let d : DomainId = record { 0 = n } in d) e) (λ e. ap (λ (d : DomainId). d.0) e) (number_decided a.0 b.0)

pub member_decided : HasDecidedEquality MemberId
member_decided a b =
    same_decided {A = (a.class ≡ b.class) × (a.index ≡ b.index)}
    (λ (class, index) i. let m : MemberId = record { class = class i; index = index i } in m)
    (λ e. (ap (λ (m : MemberId). m.class) e, ap (λ (m : MemberId). m.index) e))
    (both_decided (class_decided a.class b.class) (number_decided a.index b.index))

-- ---- Lists.

pub contains_decided : {X : Type 0} → HasDecidedEquality X → (xs : List X) (x : X) → IsDecided (Contains xs x)
contains_decided decide [] x = inr (Contains-none x)
contains_decided decide (y ∷ xs) x =
    same_decided
    (λ h. elim h [ inl here ↦ subst (Contains (y ∷ xs)) here (Contains-here y xs) | inr later ↦ Contains-there x y xs later ])
    (Contains-cases x y xs)
    (either_decided (decide y x) (contains_decided decide xs x))
