-- Whether units are the name of a class can be told by a walk over them.
use Rattle.std.proofs.Common.{◌≡◌, ◌≢◌, ℕ, ◌⊎◌, inl, inr, Bool, true, false, List, [], ◌∷◌, ◌++◌, refl, sym, append-nil}
use Rattle.std.proofs.lemmas.Bool.{cases_eq}
use Rattle.std.specs.List.{AllByRecursion, join_with_byte}
use Rattle.jk_model.specs.Descriptors.{IsNameUnit, IsName, IsClassName}

-- the units go on to the end of a class's name, where one of its names starts or within one
abbrev pub Walks : Bool → List ℕ → Type 0
Walks start [] = start ≡ false
Walks start (u ∷ us) = (IsNameUnit u × Walks false us) ⊎ ((start ≡ false) × (u ≡ 47) × Walks true us)

-- ---- A class's name is walked.

pub walks_on : (name rest : List ℕ) → AllByRecursion IsNameUnit name → Walks false rest → Walks false (name ++ rest)
walks_on [] rest h w = w
walks_on (u ∷ name) rest h w = inl (h.0, walks_on name rest h.1 w)

pub walks_name : (name rest : List ℕ) → IsName name → Walks false rest → Walks true (name ++ rest)
walks_name [] rest h w = absurd (h.0 refl)
walks_name (u ∷ name) rest h w = inl (h.1.0, walks_on name rest h.1.1 w)

pub walks_names : (name : List ℕ) (names : List (List ℕ)) → IsName name → AllByRecursion IsName names → Walks true (join_with_byte 47 (name ∷ names))
walks_names name [] h hs = rw (append-nil name) at (walks_name name [] h refl)
walks_names name (next ∷ names) h hs = walks_name name (47 ∷ join_with_byte 47 (next ∷ names)) h (inr (refl, refl, walks_names next names hs.0 hs.1))

pub class_walks : (units : List ℕ) → IsClassName units → Walks true units
class_walks units ([], some, all, e) = absurd (some refl)
class_walks units (name ∷ names, some, all, e) = rw e (walks_names name names all.0 all.1)

-- ---- What is walked is a class's name.

pub record Reached (start : Bool) (units : List ℕ) : Type 0 where
  pub first : List ℕ
  pub names : List (List ℕ)
  pub first_is : AllByRecursion IsNameUnit first
  pub names_are : AllByRecursion IsName names
  pub joined : units ≡ join_with_byte 47 (first ∷ names)
  pub some : start ≡ true → first ≢ []

pub join_more : (u : ℕ) (first : List ℕ) (names : List (List ℕ)) → join_with_byte 47 ((u ∷ first) ∷ names) ≡ u ∷ join_with_byte 47 (first ∷ names)
join_more u first [] = refl
join_more u first (next ∷ names) = refl

pub reached : (start : Bool) (units : List ℕ) → Walks start units → Reached start units
reached start [] w = record { first = []; names = []; first_is = tt; names_are = tt; joined = refl; some = λ e. absurd cc }
reached start (u ∷ us) (inl (own, w)) =
    let on = reached false us w in
    record {
      first = u ∷ on.first;
      names = on.names;
      first_is = (own, on.first_is);
      names_are = on.names_are;
      joined = rw on.joined (sym (join_more u on.first on.names));
      some = λ e none. absurd cc;
    }
reached start (u ∷ us) (inr (within, slash, w)) =
    let on = reached true us w in
    record {
      first = [];
      names = on.first ∷ on.names;
      first_is = tt;
      names_are = ((on.some refl, on.first_is), on.names_are);
      joined = rw (slash, on.joined) refl;
      some = λ e none. absurd cc;
    }

pub walks_class : (units : List ℕ) → Walks true units → IsClassName units
walks_class units w =
    let on = reached true units w in
    (on.first ∷ on.names, λ e. absurd cc, ((on.some refl, on.first_is), on.names_are), on.joined)

-- ---- The walk is told.

abbrev pub Decision : Type 0 → Type 0
Decision P = P ⊎ (P → ⊥)

pub unit_or_not : (u : ℕ) → Decision (IsNameUnit u)
unit_or_not u = elim (cases_eq u 46) [
  | inl e ↦ inr (λ h. h.0 e)
  | inr dot ↦ elim (cases_eq u 59) [
    | inl e ↦ inr (λ h. h.1 e)
    | inr end ↦ elim (cases_eq u 91) [
      | inl e ↦ inr (λ h. h.2 e)
      | inr bracket ↦ elim (cases_eq u 47) [
        | inl e ↦ inr (λ h. h.3 e)
        | inr slash ↦ inl (dot, end, bracket, slash)
      ]
    ]
  ]
]

pub walk_or_not : (start : Bool) (units : List ℕ) → Decision (Walks start units)
walk_or_not true [] = inr (λ e. absurd cc)
walk_or_not false [] = inl refl
walk_or_not true (u ∷ us) = elim (unit_or_not u) [
  | inr other ↦ inr (λ w. elim w [ inl own ↦ other own.0 | inr slash ↦ let e = slash.0 in absurd cc ])
  | inl own ↦ elim (walk_or_not false us) [
    | inl w ↦ inl (inl (own, w))
    | inr never ↦ inr (λ w. elim w [ inl on ↦ never on.1 | inr slash ↦ let e = slash.0 in absurd cc ])
  ]
]
walk_or_not false (u ∷ us) = elim (unit_or_not u) [
  | inl own ↦ elim (walk_or_not false us) [
    | inl w ↦ inl (inl (own, w))
    | inr never ↦ inr (λ w. elim w [ inl on ↦ never on.1 | inr slash ↦ own.3 slash.1 ])
  ]
  | inr other ↦ elim (cases_eq u 47) [
    | inr no_slash ↦ inr (λ w. elim w [ inl on ↦ other on.0 | inr slash ↦ no_slash slash.1 ])
    | inl slash ↦ elim (walk_or_not true us) [
      | inl w ↦ inl (inr (refl, slash, w))
      | inr never ↦ inr (λ w. elim w [ inl on ↦ other on.0 | inr on ↦ never on.2 ])
    ]
  ]
]

pub class_or_not : (units : List ℕ) → IsClassName units ⊎ (IsClassName units → ⊥)
class_or_not units = elim (walk_or_not true units) [
  | inl w ↦ inl (walks_class units w)
  | inr never ↦ inr (λ h. never (class_walks units h))
]
