-- The names of the folder's classes are given in their order, each its number.
use Rattle.std.proofs.Common.{◌≡◌, ℕ, ◌+◌, ◌≤◌, Bool, List, cond, Some, None, bytes_eq, slice_get, inl, inr, sym, ap, subst, ◌∙◌, arith}
use Rattle.std.specs.Option.{option_or}
use Rattle.std.proofs.lemmas.Option.{same_Some}
use Rattle.std.proofs.lemmas.Slice.Eq.{bytes_eq-Decides}
use Rattle.std.proofs.Math.Nat.{eq-or-lt_of_le}
use Rattle.jk_model.specs.declared.class_file.ClassFile.{ClassFile}
use Rattle.jk_model.specs.declared.identifiers.ClassId.{ClassId}
use Rattle.jk_model_classes.specs.References.{IsCalledClass}
use Rattle.jk_model_classes.specs.Worlds.{Gives, NamedClass, class_named}
use Rattle.class_lemmas.proofs.OneText.{one_class}
use Rattle.folder_loader.proofs.NamesGiven.{class_named-push, from_either, given_by, kept_by}
use Rattle.folder_loader.specs.FolderTables.{HasNoOwn, IsOwnClass, IsTableUpTo}
use Rattle.folder_loader.specs.OwnClasses.{NamesDiffer}

abbrev number : ℕ → ClassId
number n = record { 0 = n }

same_number : (a : ClassId) (m n : ℕ) → number m ≡ a → a.0 ≡ n → m ≡ n
same_number a m n e f = ap (λ (c : ClassId). c.0) e ∙ f

same_class : (m : ℕ) (a : ClassId) → a.0 ≡ m → number m ≡ a
same_class m a e = ap (λ (n : ℕ). number n) (sym e)

module _ (cs : List ClassFile) (order : List ℕ) (first : ℕ) (names : List NamedClass) where
  pub outer_alone : IsTableUpTo cs order first 0 names names
  outer_alone name class = (λ e. inl e, λ h. elim h [ inl outer ↦ outer | inr own ↦ absurd (omega (arith, own.3)) ])

  one_more : (n : ℕ) (name : List ℕ) (class : ClassId) → IsOwnClass cs order first n name class → IsOwnClass cs order first (n + 1) name class
  one_more n name class (k, i, c, below, at, of_c, called, is) = (k, i, c, omega (arith, below), at, of_c, called, is)

  -- the class at place n of the order
  module _ (n i : ℕ) (c : ClassFile) (at : slice_get order n ≡ Some i) (of_c : slice_get cs i ≡ Some c) where
    its_file : (k j : ℕ) (d : ClassFile) → k ≡ n → slice_get order k ≡ Some j → slice_get cs j ≡ Some d → d ≡ c
    its_file k j d last there of_d =
        let place : j ≡ i = same_Some j i (sym there ∙ ap (λ (m : ℕ). slice_get order m) last ∙ at) in
        same_Some d c (sym of_d ∙ ap (λ (m : ℕ). slice_get cs m) place ∙ of_c)

    pub table_skip : (table : List NamedClass) → IsTableUpTo cs order first n names table → ((name : List ℕ) → IsCalledClass c name → ⊥)
        → IsTableUpTo cs order first (n + 1) names table
    table_skip table h nameless name class = (
      λ e. elim ((h name class).0 e) [ inl outer ↦ inl outer | inr own ↦ inr (one_more n name class own) ],
      λ its. elim its [
        | inl outer ↦ (h name class).1 (inl outer)
        | inr own ↦
            let most : own.0 ≤ n = omega (arith, own.3) in
            elim (eq-or-lt_of_le most) [
              | inl last ↦
                  let same = its_file own.0 own.1 own.2 last own.4 own.5 in
                  absurd (nameless name (subst (λ (x : ClassFile). IsCalledClass x name) same own.6))
              | inr less ↦ (h name class).1 (inr (own.0, own.1, own.2, less, own.4, own.5, own.6, own.7))
            ]
      ],
    )

    pub table_next : (key : List ℕ) (old new : List NamedClass) (given : Bool) → NamesDiffer cs → HasNoOwn cs names
        → ((k l j : ℕ) → slice_get order k ≡ Some j → slice_get order l ≡ Some j → k ≡ l) → IsTableUpTo cs order first n names old
        → IsCalledClass c key → Gives old key (number (first + n)) given new → IsTableUpTo cs order first (n + 1) names new
    table_next key old new given differ no_own once h called gives name class =
        elim gives [
          | inl fresh ↦
              let meaning : class_named new name ≡ option_or (class_named old name) (cond (bytes_eq key name) (Some (number (first + n))) None) =
              ap (λ (t : List NamedClass). class_named t name) fresh.2 ∙ class_named-push old key (number (first + n)) name in (
                λ e. elim (from_either (class_named old name) (bytes_eq key name) (number (first + n)) class (sym meaning ∙ e)) [
                  | inl earlier ↦ elim ((h name class).0 earlier) [ inl outer ↦ inl outer | inr own ↦ inr (one_more n name class own) ]
                  | inr own ↦
                      let same_name : key ≡ name = (bytes_eq-Decides key name).0 own.0 in
                      inr (
                        n,
                        i,
                        c,
                        omega arith,
                        at,
                        of_c,
                        subst (λ (us : List ℕ). IsCalledClass c us) same_name called,
                        ap (λ (x : ClassId). x.0) (sym own.1),
                      )
                ],
                λ its. elim its [
                  | inl outer ↦ meaning ∙ kept_by (class_named old name) (bytes_eq key name) (number (first + n)) class ((h name class).1 (inl outer))
                  | inr own ↦
                      let most : own.0 ≤ n = omega (arith, own.3) in
                      elim (eq-or-lt_of_le most) [
                        | inl last ↦
                            let same = its_file own.0 own.1 own.2 last own.4 own.5 in
                            let of_name : IsCalledClass c name = subst (λ (x : ClassFile). IsCalledClass x name) same own.6 in
                            let same_name : key ≡ name = one_class c.pool c.this_class key name called of_name in
                            let unnamed : class_named old name ≡ None = ap (class_named old) (sym same_name) ∙ fresh.0 in
                            let is : class.0 ≡ first + n = own.7 ∙ ap (λ (m : ℕ). first + m) last in
                            meaning
                            ∙ given_by (class_named old name) (bytes_eq key name) (number (first + n)) unnamed ((bytes_eq-Decides key name).1 same_name)
                            ∙ ap Some (same_class (first + n) class is)
                        | inr less ↦
                            meaning ∙ kept_by (class_named old name) (bytes_eq key name) (number (first + n)) class
                            ((h name class).1 (inr (own.0, own.1, own.2, less, own.4, own.5, own.6, own.7)))
                      ]
                ],
              )
          | inr again ↦ elim again [
            | inl same ↦ absurd (no_meaning key (number (first + n)) differ no_own once h called same.0)
            | inr other ↦ absurd (no_meaning key other.0 differ no_own once h called other.1)
          ]
        ]
      where
        no_meaning : (us : List ℕ) (class : ClassId) → NamesDiffer cs → HasNoOwn cs names
            → ((k l j : ℕ) → slice_get order k ≡ Some j → slice_get order l ≡ Some j → k ≡ l) → IsTableUpTo cs order first n names old
            → IsCalledClass c us → class_named old us ≡ Some class → ⊥
        no_meaning us class differ no_own once h called is =
            elim ((h us class).0 is) [
              | inl outer ↦ no_own i c us class of_c called outer
              | inr own ↦
                  let place : own.1 ≡ i = differ own.1 i own.2 c us own.5 of_c own.6 called in
                  let last : own.0 ≡ n = once own.0 n i (own.4 ∙ ap Some place) at in
                  omega (arith, own.3, last)
            ]
