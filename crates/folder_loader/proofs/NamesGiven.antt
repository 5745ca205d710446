-- The names of the folder's classes are given in turn, each the place of its file.
use Rattle.std.proofs.Common.{◌≡◌, ◌↔◌, ℕ, ◌+◌, ◌<◌, ◌≤◌, ◌⊎◌, Bool, true, false, cond, List, [], ◌∷◌, ◌++◌, Option, Some, None, bytes_eq, slice_get, inl, inr, refl, sym, ap, subst, ◌∙◌, arith}
use Rattle.std.specs.Prelude.{find, option_map}
use Rattle.std.specs.Option.{option_or}
use Rattle.std.proofs.lemmas.Bool.{false≢true}
use Rattle.std.proofs.lemmas.List.Folds.{find-append}
use Rattle.std.proofs.lemmas.Option.{none-some, same_Some}
use Rattle.std.proofs.lemmas.Slice.Eq.{bytes_eq-Decides}
use Rattle.std.proofs.Math.Nat.{eq-or-lt_of_le}
use Rattle.jk_model.specs.declared.class_file.ClassFile.{ClassFile}
use Rattle.jk_model.specs.declared.identifiers.ClassId.{ClassId}
use Rattle.jk_model_classes.specs.References.{IsCalledClass}
use Rattle.jk_model_classes.specs.Worlds.{Gives, NamedClass, class_named}
use Rattle.class_lemmas.proofs.OneText.{one_class}
use Rattle.name_rules.specs.FolderNames.{AreOwnNames}
use Rattle.folder_loader.specs.OwnClasses.{NamesDiffer}

-- ---- A name at the end of a table.

abbrev named : List ℕ → ClassId → NamedClass
named name class = record { name = name; class = class }

or_last : (o : Option NamedClass) (b : Bool) (e : NamedClass)
    → option_map (λ (x : NamedClass). x.class) (option_or o (cond b (Some e) None))
    ≡ option_or (option_map (λ (x : NamedClass). x.class) o) (cond b (Some e.class) None)
or_last None true e = refl
or_last None false e = refl
or_last (Some x) true e = refl
or_last (Some x) false e = refl

pub class_named-push : (t : List NamedClass) (key : List ℕ) (class : ClassId) (name : List ℕ)
    → class_named (t ++ named key class ∷ []) name ≡ option_or (class_named t name) (cond (bytes_eq key name) (Some class) None)
class_named-push t key class name =
    ap (option_map (λ (x : NamedClass). x.class)) (find-append (λ (x : NamedClass). bytes_eq x.name name) t (named key class ∷ []))
    ∙ or_last (find (λ (x : NamedClass). bytes_eq x.name name) t) (bytes_eq key name) (named key class)

pub kept_by : (o : Option ClassId) (b : Bool) (class d : ClassId) → o ≡ Some d → option_or o (cond b (Some class) None) ≡ Some d
kept_by None b class d is = absurd (none-some d is)
kept_by (Some e) b class d is = is

pub given_by : (o : Option ClassId) (b : Bool) (class : ClassId) → o ≡ None → b ≡ true → option_or o (cond b (Some class) None) ≡ Some class
given_by None true class is told = refl
given_by None false class is told = absurd (false≢true told)
given_by (Some e) b class is told = absurd (none-some e (sym is))

pub from_either : (o : Option ClassId) (b : Bool) (class d : ClassId) → option_or o (cond b (Some class) None) ≡ Some d
    → (o ≡ Some d) ⊎ ((b ≡ true) × (class ≡ d))
from_either None true class d is = inr (refl, same_Some class d is)
from_either None false class d is = absurd (none-some d is)
from_either (Some e) b class d is = inl is

-- ---- The files before a place.

abbrev place : ℕ → ClassId
place i = record { 0 = i }

same_place : (i j : ℕ) → place i ≡ place j → i ≡ j
same_place i j e = ap (λ (c : ClassId). c.0) e

abbrev pub AreOwnUpTo : List ClassFile → ℕ → List NamedClass → Type 0
AreOwnUpTo cs n own =
    (name : List ℕ) (i : ℕ) → (class_named own name ≡ Some (place i))
    ↔ ((i < n) × ((c : ClassFile) × (slice_get cs i ≡ Some c) × IsCalledClass c name))

pub none_own : (cs : List ClassFile) → AreOwnUpTo cs 0 []
none_own cs name i = (λ e. absurd (none-some (place i) e), λ h. absurd (omega (arith, h.0)))

-- a file without a name gives none
pub own_skip : (cs : List ClassFile) (n : ℕ) (c : ClassFile) (own : List NamedClass) → AreOwnUpTo cs n own → slice_get cs n ≡ Some c
    → ((name : List ℕ) → IsCalledClass c name → ⊥) → AreOwnUpTo cs (n + 1) own
own_skip cs n c own h at nameless name i = (
  λ e. let old = (h name i).0 e in (omega (arith, old.0), old.1),
  λ its.
      let most : i ≤ n = omega (arith, its.0) in
      elim (eq-or-lt_of_le most) [
        | inl last ↦
            let same : its.1.0 ≡ c = same_Some its.1.0 c (sym its.1.1 ∙ ap (λ (k : ℕ). slice_get cs k) last ∙ at) in
            absurd (nameless name (subst (λ (x : ClassFile). IsCalledClass x name) same its.1.2))
        | inr less ↦ (h name i).1 (less, its.1)
      ],
)

-- the name of one file more
pub own_next : (cs : List ClassFile) (n : ℕ) (c : ClassFile) (key : List ℕ) (old new : List NamedClass) (given : Bool) → NamesDiffer cs
    → AreOwnUpTo cs n old → slice_get cs n ≡ Some c → IsCalledClass c key → Gives old key (place n) given new → AreOwnUpTo cs (n + 1) new
own_next cs n c key old new given differ h at called gives name i =
    elim gives [
      | inl first ↦
          let meaning : class_named new name ≡ option_or (class_named old name) (cond (bytes_eq key name) (Some (place n)) None) =
          ap (λ (t : List NamedClass). class_named t name) first.2 ∙ class_named-push old key (place n) name in (
            λ e. elim (from_either (class_named old name) (bytes_eq key name) (place n) (place i) (sym meaning ∙ e)) [
              | inl earlier ↦ let its = (h name i).0 earlier in (omega (arith, its.0), its.1)
              | inr own ↦
                  let same_name : key ≡ name = (bytes_eq-Decides key name).0 own.0 in
                  let same : n ≡ i = same_place n i own.1 in (
                    omega (arith, same),
                    (
                      c,
                      ap (λ (k : ℕ). slice_get cs k) (sym same) ∙ at,
                      subst (λ (us : List ℕ). IsCalledClass c us) same_name called,
                    ),
                  )
            ],
            λ its.
                let most : i ≤ n = omega (arith, its.0) in
                elim (eq-or-lt_of_le most) [
                  | inl last ↦
                      let same : its.1.0 ≡ c = same_Some its.1.0 c (sym its.1.1 ∙ ap (λ (k : ℕ). slice_get cs k) last ∙ at) in
                      let of_c : IsCalledClass c name = subst (λ (x : ClassFile). IsCalledClass x name) same its.1.2 in
                      let same_name : key ≡ name = one_class c.pool c.this_class key name called of_c in
                      let unnamed : class_named old name ≡ None = ap (class_named old) (sym same_name) ∙ first.0 in
                      meaning ∙ given_by (class_named old name) (bytes_eq key name) (place n) unnamed ((bytes_eq-Decides key name).1 same_name)
                      ∙ ap (λ (k : ℕ). Some (place k)) (sym last)
                  | inr less ↦ meaning ∙ kept_by (class_named old name) (bytes_eq key name) (place n) (place i) ((h name i).1 (less, its.1))
                ],
          )
      | inr again ↦ elim again [
        | inl same ↦ absurd (let its = (h key n).0 same.0 in omega (arith, its.0))
        | inr other ↦
            let its = (h key other.0.0).0 other.1 in
            let one : other.0.0 ≡ n = differ other.0.0 n its.1.0 c key its.1.1 at its.1.2 called in
            absurd (omega (arith, its.0, one))
      ]
    ]

pub all_own : (cs : List ClassFile) (n : ℕ) (own : List NamedClass) → AreOwnUpTo cs n own → ((i : ℕ) (c : ClassFile) → slice_get cs i ≡ Some c → i < n)
    → AreOwnNames cs own
all_own cs n own h within name i = (λ e. ((h name i).0 e).1, λ its. (h name i).1 (within i its.0 its.1, its))
