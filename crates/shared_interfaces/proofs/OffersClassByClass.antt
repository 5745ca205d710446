-- The offers of one class after those of another are looked at, and what they expose together is what breaks C26.
use Rattle.std.proofs.Common.{◌≡◌, ℕ, ◌+◌, ◌<◌, ◌≤◌, ◌↔◌, inl, inr, Bool, true, false, IsTrue, List, length, Option, Some, None, refl, sym, ◌∙◌, ap, subst, slice_get, Contains, lt_of_lt_of_le, arith}
use Rattle.std.specs.Bool.{then_some}
use Rattle.std.proofs.lemmas.Bool.{cases_lt}
use Rattle.std.proofs.lemmas.Option.{same_Some, slice_get_within, slice_get-get_or, get_or_from_slice_get}
use Rattle.jk_model.specs.declared.identifiers.ClassId.{ClassId}
use Rattle.jk_model.specs.declared.identifiers.DomainId.{DomainId}
use Rattle.jk_model_classes.specs.declared.sharing.Offer.{Offer}
use Rattle.jk_model_classes.specs.SharedRules.{BreaksC26, GoesAlong, IsOfFolder}
use Rattle.jk_model_classes.specs.Classes.{record_of}
use Rattle.jk_model_classes.specs.Worlds.{WorldRecord}
use Rattle.shared_interfaces.specs.Earliest.{IsEarliest, IsLeast}
use Rattle.shared_interfaces.specs.Shapes.{ExposedBefore, ExposesInRun, IsRun, StaysBehind}
use Rattle.shared_interfaces.proofs.FirstClass.{Breach, IsOneMore, said_so}

-- a class that breaks a rule by itself, where a test says so, does so at 0
pub least_by_itself : (P : Type 0) (b : Bool) → (IsTrue b ↔ P) → IsLeast (λ n. (n ≡ 0) × P) (then_some b 0)
least_by_itself P true h = ((refl, h.0 refl), λ n below is. omega (arith, is.0))
least_by_itself P false h = λ n is. let no : false ≡ true = h.1 is.1 in cc

-- the class goes along with the offer at this place, as with those from `start` to it
pub none_stays_on : (w : WorldRecord) (home : DomainId) (offers : List Offer) (start : ℕ) (c : ClassId) (i : ℕ) (o : Offer)
    → slice_get offers i ≡ Some o → GoesAlong w home offers o.to c → (StaysBehind w home offers start i c → ⊥) → StaysBehind w home offers start (i + 1) c → ⊥
none_stays_on w home offers start c i o at goes none (j, p, low, below, at_p, never) =
    elim (cases_lt j i) [
      | inl less ↦ none (j, p, low, less, at_p, never)
      | inr least ↦
          let here : j ≡ i = omega (arith, below, least) in
          let same : p ≡ o = same_Some p o (sym at_p ∙ ap (slice_get offers) here ∙ at) in
          never (subst (λ (x : Offer). GoesAlong w home offers x.to c) (sym same) goes)
    ]

module _ (w : WorldRecord) (home : DomainId) (first : ClassId) (offers : List Offer) where
  pub none_exposed : IsEarliest w.classes (ExposedBefore 0 w home first offers) None
  none_exposed c n (is, (i, o, below, at, p)) = omega arith

  -- the offers from `start` to `end`, which are those of class c
  pub next_run : (start end : ℕ) (c : ClassId) (o : Offer) → slice_get offers start ≡ Some o → o.class ≡ c → IsRun offers start end
      → IsOneMore w.classes (ExposedBefore start w home first offers) c (λ n. (n ≡ 0) × ExposesInRun w home first offers start end c)
      (ExposedBefore end w home first offers)
  next_run start end c o at of_c (some, within, same) = record {
    split = λ d n (is, (i, p, below, at_p, (of_d, (low, (r, at_r, (j, x, at_x, never)))))).
        elim (cases_lt i start) [
          | inl less ↦ inl (is, (i, p, less, at_p, (of_d, (low, (r, at_r, (j, x, at_x, never))))))
          | inr least ↦
              let of_run : p.class ≡ c = same i p o least below at_p at ∙ of_c in
              let folder : first.0 ≤ c.0 = subst (λ (y : ClassId). first.0 ≤ y.0) of_run low in
              let known : record_of w.classes c ≡ Some r = subst (λ (y : ClassId). record_of w.classes y ≡ Some r) of_run at_r in
              inr (sym of_d ∙ of_run, (is, (folder, (r, known, (j, x, at_x, (i, p, least, below, at_p, never))))))
        ];
    kept = λ d n (is, (i, p, below, at_p, so)). (is, (i, p, omega (arith, below, some), at_p, so));
    here = λ n (is, (folder, (r, known, (j, x, at_x, (i, p, least, below, at_p, never))))).
        let of_run : p.class ≡ c = same i p o least below at_p at ∙ of_c in
        let low : first.0 ≤ p.class.0 = subst (λ (y : ClassId). first.0 ≤ y.0) (sym of_run) folder in
        let at_r : record_of w.classes p.class ≡ Some r = subst (λ (y : ClassId). record_of w.classes y ≡ Some r) (sym of_run) known in
        (is, (i, p, below, at_p, (of_run, (low, (r, at_r, (j, x, at_x, never))))));
    low = λ m n old new. omega (arith, old.0);
  }

  pub all_offers : (place : ℕ) → length offers ≤ place → (best : Option Breach) → IsEarliest w.classes (ExposedBefore place w home first offers) best
      → IsEarliest w.classes (BreaksC26 w home first offers) best
  all_offers place all best =
      said_so w.classes (ExposedBefore place w home first offers) (BreaksC26 w home first offers) there back best
    where
      there : (c : ClassId) (n : ℕ) → ExposedBefore place w home first offers c n → BreaksC26 w home first offers c n
      there c n (is, (i, o, below, at, (of_c, (low, (r, at_r, exposed))))) =
          let high : o.class.0 < length w.classes = slice_get_within w.classes o.class.0 r at_r in
          let of_folder : IsOfFolder w.classes first c = subst (IsOfFolder w.classes first) of_c (low, high) in
          let in_offers : Contains offers o = (i, slice_get_within offers i o at, get_or_from_slice_get offers i o o at) in
          let found : record_of w.classes c ≡ Some r = subst (λ (x : ClassId). record_of w.classes x ≡ Some r) of_c at_r in
          (of_folder, is, (o, in_offers, of_c, (r, found, exposed)))

      back : (c : ClassId) (n : ℕ) → BreaksC26 w home first offers c n → ExposedBefore place w home first offers c n
      back c n (of_folder, is, (o, (i, within, at), of_c, (r, at_r, exposed))) =
          let found : slice_get offers i ≡ Some o = slice_get-get_or offers i o within ∙ ap Some at in
          let low : first.0 ≤ o.class.0 = subst (λ (x : ClassId). first.0 ≤ x.0) (sym of_c) of_folder.0 in
          let known : record_of w.classes o.class ≡ Some r = subst (λ (x : ClassId). record_of w.classes x ≡ Some r) (sym of_c) at_r in
          (is, (i, o, lt_of_lt_of_le within all, found, (of_c, (low, (r, known, exposed)))))
