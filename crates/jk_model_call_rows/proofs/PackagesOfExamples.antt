-- Which of the examples' classes are in one runtime package, and so which methods without a mark are overridden there.
use Rattle.std.proofs.Common.{◌≡◌, ◌≢◌, ℕ, true, List, [], ◌∷◌, ◌++◌, Some, refl, inl, inr, sym, ap, ◌∙◌, subst, arith}
use Rattle.std.specs.Prelude.{codes, slice_index}
use Rattle.std.specs.List.{AllByRecursion}
use Rattle.std.proofs.lemmas.Bool.{false≢true}
use Rattle.std.proofs.lemmas.Option.{same_Some}
use Rattle.jk_model.specs.Flags.{has, INTERFACE, PUBLIC}
use Rattle.jk_model.specs.declared.identifiers.ClassId.{ClassId}
use Rattle.jk_model.specs.declared.identifiers.DomainId.{DomainId}
use Rattle.jk_model.specs.declared.identifiers.MemberId.{MemberId}
use Rattle.jk_model_classes.specs.declared.records.ClassRecord.{ClassRecord}
use Rattle.jk_model_classes.specs.declared.records.MethodRecord.{MethodRecord}
use Rattle.jk_model_classes.specs.Classes.{IsInterface, OBJECT}
use Rattle.jk_model_classes.specs.Lookups.{AreInOnePackage, Declares, IsOverriddenIn, IsPackageOf, RunsFor, Selects}
use Rattle.class_lemmas.proofs.OneRecord.{one_method}
use Rattle.jk_model_call_rows.specs.Examples.{P_A, P_C, P_D, P_E, Q_B, classes_of_packages, member_at, p_a, p_d, q_b, unmarked_m}
use Rattle.jk_model_call_rows.proofs.SelectedMethods.{differ, first_alone, first_of, selected_at}

-- ---- Packages of names.

-- a name whose second unit is its last `/` is in a package that begins as the name does
package_begins : (u : ℕ) (rest prefix : List ℕ) → IsPackageOf (u ∷ 47 ∷ rest) prefix → (more : List ℕ) × (prefix ≡ u ∷ more)
package_begins u rest [] h = absurd ((subst (AllByRecursion (λ (v : ℕ). v ≢ 47)) (sym h.joined) h.no_slash).1.0 refl)
package_begins u rest (v ∷ more) h =
    let joined : u ∷ 47 ∷ rest ≡ v ∷ (more ++ h.simple) = h.joined in
    let same : u ≡ v = cc in
    (more, ap (λ (w : ℕ). w ∷ more) (sym same))

is_of_package : (u : ℕ) → u ≢ 47 → IsPackageOf (codes "p/" ++ u ∷ []) (codes "p/")
is_of_package u other = record { simple = u ∷ []; joined = refl; no_slash = (other, tt); ends = inr (codes "p", refl) }

-- ---- Packages of classes.

q_b_not_with_p_a : AreInOnePackage classes_of_packages Q_B P_A → ⊥
q_b_not_with_p_a h =
    let b : IsPackageOf (codes "q/B") h.prefix =
    subst (λ (r : ClassRecord). IsPackageOf r.name h.prefix) (sym (same_Some q_b h.of_a h.a_is)) h.a_in in
    let a : IsPackageOf (codes "p/A") h.prefix =
    subst (λ (r : ClassRecord). IsPackageOf r.name h.prefix) (sym (same_Some p_a h.of_b h.b_is)) h.b_in in
    let begins = package_begins 113 (codes "B") h.prefix b in
    let also = package_begins 112 (codes "A") h.prefix a in
    let units : 113 ≡ 112 = ap (λ (us : List ℕ). slice_index us 0) (sym begins.1 ∙ also.1) in
    absurd (omega (arith, units))

p_d_not_with_p_a : AreInOnePackage classes_of_packages P_D P_A → ⊥
p_d_not_with_p_a h =
    let d : h.of_a.home ≡ p_d.home = ap (λ (r : ClassRecord). r.home) (sym (same_Some p_d h.of_a h.a_is)) in
    let a : h.of_b.home ≡ p_a.home = ap (λ (r : ClassRecord). r.home) (sym (same_Some p_a h.of_b h.b_is)) in
    let same = same_Some (record { 0 = 1 }) (record { 0 = 0 }) (sym d ∙ h.home ∙ a) in
    let numbers : 1 ≡ 0 = ap (λ (k : DomainId). k.0) same in
    absurd (omega (arith, numbers))

p_c_with_p_a : AreInOnePackage classes_of_packages P_C P_A
p_c_with_p_a = record {
  of_a = _;
  a_is = refl;
  of_b = _;
  b_is = refl;
  prefix = codes "p/";
  a_in = is_of_package 67 (λ e. absurd (omega (arith, e)));
  b_in = is_of_package 65 (λ e. absurd (omega (arith, e)));
  home = refl;
}

p_e_with_p_a : AreInOnePackage classes_of_packages P_E P_A
p_e_with_p_a = record {
  of_a = _;
  a_is = refl;
  of_b = _;
  b_is = refl;
  prefix = codes "p/";
  a_in = is_of_package 69 (λ e. absurd (omega (arith, e)));
  b_in = is_of_package 65 (λ e. absurd (omega (arith, e)));
  home = refl;
}

-- ---- Which class declares a method that runs for that of `p/A`.

p_a_no_interface : IsInterface classes_of_packages P_A → ⊥
p_a_no_interface (r, is, flag) =
    let flags : has PUBLIC INTERFACE ≡ true = subst (λ (x : ClassRecord). has x.flags INTERFACE ≡ true) (sym (same_Some p_a r is)) flag in
    false≢true flags

not_overridden : (d : ClassId) → (AreInOnePackage classes_of_packages d P_A → ⊥)
    → IsOverriddenIn classes_of_packages (member_at P_A 0) unmarked_m.flags d → ⊥
not_overridden d apart (inl public) = false≢true public
not_overridden d apart (inr (inl protected)) = false≢true protected
not_overridden d apart (inr (inr (unmarked, together))) = apart together

declares_no_m : (d : ClassId) → d ≢ P_A → (AreInOnePackage classes_of_packages d P_A → ⊥)
    → Declares (RunsFor classes_of_packages (member_at P_A 0)) d → ⊥
declares_no_m d other apart (i, runs) =
    let one : runs.method ≡ unmarked_m = one_method classes_of_packages (member_at P_A 0) runs.method unmarked_m runs.m_is (p_a, refl, refl) in
    elim runs.suits [
      | inl e ↦ other (ap (λ (m : MemberId). m.class) e)
      | inr (name, kind, inl interface) ↦ p_a_no_interface interface
      | inr (name, kind, inr overridden) ↦
          not_overridden d apart
          (subst (λ (x : MethodRecord). IsOverriddenIn classes_of_packages (member_at P_A 0) x.flags d) one overridden)
    ]

own_m : RunsFor classes_of_packages (member_at P_A 0) (member_at P_A 0)
own_m = record { method = _; m_is = (_, refl, refl); other_method = _; other_is = (_, refl, refl); is_instance = refl; suits = inl refl }

pub at_q_b : Selects classes_of_packages Q_B (member_at P_A 0) (Some (member_at P_A 0))
at_q_b =
    selected_at classes_of_packages Q_B (member_at P_A 0) (member_at P_A 0) unmarked_m 1 (p_a, refl, refl) refl (first_of _ P_A own_m) refl
    (first_alone (Declares (RunsFor classes_of_packages (member_at P_A 0))) Q_B (P_A ∷ OBJECT ∷ [])
    (declares_no_m Q_B (differ Q_B P_A (λ e. absurd (omega (arith, e)))) q_b_not_with_p_a))

pub at_p_d : Selects classes_of_packages P_D (member_at P_A 0) (Some (member_at P_A 0))
at_p_d =
    selected_at classes_of_packages P_D (member_at P_A 0) (member_at P_A 0) unmarked_m 1 (p_a, refl, refl) refl (first_of _ P_A own_m) refl
    (first_alone (Declares (RunsFor classes_of_packages (member_at P_A 0))) P_D (P_A ∷ OBJECT ∷ [])
    (declares_no_m P_D (differ P_D P_A (λ e. absurd (omega (arith, e)))) p_d_not_with_p_a))

p_c_runs : RunsFor classes_of_packages (member_at P_A 0) (member_at P_C 0)
p_c_runs = record {
  method = _;
  m_is = (_, refl, refl);
  other_method = _;
  other_is = (_, refl, refl);
  is_instance = refl;
  suits = inr (refl, refl, inr (inr (inr ((refl, refl, refl), p_c_with_p_a))));
}

pub at_p_c : Selects classes_of_packages P_C (member_at P_A 0) (Some (member_at P_C 0))
at_p_c =
    selected_at classes_of_packages P_C (member_at P_A 0) (member_at P_C 0) _ 0 (_, refl, refl) refl (first_of _ P_C p_c_runs) refl
    (λ h. absurd (omega (arith, h.2)))

p_e_runs : RunsFor classes_of_packages (member_at P_A 0) (member_at P_E 0)
p_e_runs = record {
  method = _;
  m_is = (_, refl, refl);
  other_method = _;
  other_is = (_, refl, refl);
  is_instance = refl;
  suits = inr (refl, refl, inr (inr (inr ((refl, refl, refl), p_e_with_p_a))));
}

pub at_p_e : Selects classes_of_packages P_E (member_at P_A 0) (Some (member_at P_E 0))
at_p_e =
    selected_at classes_of_packages P_E (member_at P_A 0) (member_at P_E 0) _ 0 (_, refl, refl) refl (first_of _ P_E p_e_runs) refl
    (λ h. absurd (omega (arith, h.2)))
