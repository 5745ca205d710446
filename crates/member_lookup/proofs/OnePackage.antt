-- A name has one package, which ends at the last `/`.
use Rattle.std.proofs.Common.{◌≡◌, ◌≢◌, ℕ, zero, suc, ◌+◌, ◌<◌, ◌≤◌, Bool, List, [], ◌∷◌, ◌++◌, take, drop, length, get_or, refl, sym, ap, subst, ◌∙◌, ◌⊎◌, inl, inr, ◌↔◌, IsTrue, arith, append_assoc, ◌-◌, length-drop}
use Rattle.std.proofs.Math.Seq.{take-suc}
use Rattle.std.proofs.lemmas.List.{take-append-drop, get_or-drop}
use Rattle.member_lookup.specs.Words.{HaveOnePackage}
use Rattle.std.specs.List.{AllByRecursion}
use Rattle.jk_model_classes.specs.Lookups.{IsPackageOf}
use Rattle.model_lemmas.proofs.LastSlash.{HasNoSlash, last_names, slash_inside}

package_by : (name p q : List ℕ) (a : IsPackageOf name p) (b : IsPackageOf name q)
    → (p ≡ []) ⊎ ((front : List ℕ) × (p ≡ front ++ 47 ∷ [])) → (q ≡ []) ⊎ ((front : List ℕ) × (q ≡ front ++ 47 ∷ [])) → p ≡ q
package_by name p q a b (inl e) (inl f) = e ∙ sym f
package_by name p q a b (inl e) (inr (front, f)) =
    let whole : a.simple ≡ front ++ 47 ∷ b.simple =
    ap (λ p. p ++ a.simple) (sym e) ∙ sym a.joined ∙ b.joined ∙ ap (λ q. q ++ b.simple) f ∙ append_assoc front (47 ∷ []) b.simple in
    absurd (slash_inside front b.simple (rw whole at a.no_slash))
package_by name p q a b (inr (front, e)) (inl f) =
    let whole : b.simple ≡ front ++ 47 ∷ a.simple =
    ap (λ q. q ++ b.simple) (sym f) ∙ sym b.joined ∙ a.joined ∙ ap (λ p. p ++ a.simple) e ∙ append_assoc front (47 ∷ []) a.simple in
    absurd (slash_inside front a.simple (rw whole at b.no_slash))
package_by name p q a b (inr (front, e)) (inr (other, f)) =
    let whole : front ++ 47 ∷ a.simple ≡ other ++ 47 ∷ b.simple =
    sym (append_assoc front (47 ∷ []) a.simple) ∙ ap (λ p. p ++ a.simple) (sym e) ∙ sym a.joined ∙ b.joined ∙ ap (λ q. q ++ b.simple) f
    ∙ append_assoc other (47 ∷ []) b.simple in
    e ∙ ap (λ front. front ++ 47 ∷ []) (last_names front other a.simple b.simple a.no_slash b.no_slash whole).0 ∙ sym f

pub package-unique : (name p q : List ℕ) → IsPackageOf name p → IsPackageOf name q → p ≡ q
package-unique name p q a b = package_by name p q a b a.ends b.ends

-- ---- Cutting a name after its last `/`.

no_slash_from : (rest : List ℕ) → ((k : ℕ) → k < length rest → get_or rest k 0 ≢ 47) → HasNoSlash rest
no_slash_from [] h = tt
no_slash_from (u ∷ rest) h = (h 0 (omega arith), no_slash_from rest (λ k lt. h (suc k) (omega arith)))

end_of : (name : List ℕ) (n : ℕ) → n ≤ length name → (n ≡ 0) ⊎ (get_or name (n - 1) 0 ≡ 47)
    → (take n name ≡ []) ⊎ ((front : List ℕ) × (take n name ≡ front ++ 47 ∷ []))
end_of name zero within h = inl refl
end_of name (suc n) within (inl e) = absurd (omega arith)
end_of name (suc n) within (inr e) =
    let at : get_or name n 0 ≡ 47 = ap (λ k. get_or name k 0) (omega arith) ∙ e in
    inr (take n name, take-suc name n 0 (omega arith) ∙ ap (λ u. take n name ++ u ∷ []) at)

-- what stands up to a place is the package where no `/` follows, and one ends it
pub cut-is_package : (name : List ℕ) (n : ℕ) → n ≤ length name → ((k : ℕ) → n ≤ k → k < length name → get_or name k 0 ≢ 47)
    → (n ≡ 0) ⊎ (get_or name (n - 1) 0 ≡ 47) → IsPackageOf name (take n name)
cut-is_package name n within none ends =
    record {
      simple = drop n name;
      joined = sym (take-append-drop n name);
      no_slash = no_slash_from (drop n name) (λ k lt. rw (get_or-drop n name k 0) (none (n + k) (omega arith) (omega (arith, length-drop n name))));
      ends = end_of name n within ends;
    }

-- ---- Two names.

pub one-package : (name other p q : List ℕ) → IsPackageOf name p → IsPackageOf other q → (r : Bool) → IsTrue r ↔ (p ≡ q)
    → IsTrue r ↔ HaveOnePackage name other
one-package name other p q of_name of_other r h = (
  λ e. (p, of_name, subst (IsPackageOf other) (sym (h.0 e)) of_other),
  λ (prefix, a, b). h.1 (package-unique name p prefix of_name a ∙ package-unique other prefix q b of_other),
)
