-- Whether a class goes along with an offer is told by its home.
use Rattle.std.proofs.Common.{◌≡◌, ◌≢◌, ℕ, ◌↔◌, inl, inr, Bool, IsTrue, List, Option, Some, None, refl, sym, ◌∙◌, ap, subst}
use Rattle.std.proofs.lemmas.Option.{same_Some}
use Rattle.jk_model.specs.declared.identifiers.ClassId.{ClassId}
use Rattle.jk_model.specs.declared.identifiers.DomainId.{DomainId}
use Rattle.jk_model_classes.specs.declared.records.ClassRecord.{ClassRecord}
use Rattle.jk_model_classes.specs.declared.sharing.Offer.{Offer}
use Rattle.jk_model_classes.specs.Classes.{record_of}
use Rattle.jk_model_classes.specs.SharedRules.{GoesAlong}
use Rattle.jk_model_classes.specs.Worlds.{WorldRecord, DomainRecord, domain_of, IsOfferedAs}
use Rattle.shared_interfaces.specs.Shapes.{IsOfferedBy}

-- a class that goes along with an offer to all goes along with each
pub goes_with_each : (w : WorldRecord) (home : DomainId) (offers : List Offer) (to : Option (List ℕ)) (c : ClassId) → GoesAlong w home offers None c
    → GoesAlong w home offers to c
goes_with_each w home offers to c (r, at, inl none) = (r, at, inl none)
goes_with_each w home offers to c (r, at, inr (d, of_home, from, these, offered)) = (r, at, inr (d, of_home, from, these, each to offered))
  where
    each : (t : Option (List ℕ)) → IsOfferedAs of_home c None → IsOfferedAs of_home c t
    each None all = all
    each (Some name) all = inl all

module _ (w : WorldRecord) (home : DomainId) (offers : List Offer) (to : Option (List ℕ)) (c : ClassId) where
  pub no_class_goes : record_of w.classes c ≡ None → GoesAlong w home offers to c → ⊥
  no_class_goes none (r, at, h) = let no : None ≡ Some r = sym none ∙ at in cc

  module _ (r : ClassRecord) (at : record_of w.classes c ≡ Some r) where
    pub system_goes : r.home ≡ None → GoesAlong w home offers to c
    system_goes none = (r, at, inl none)

    pub goes_by_home : (d : DomainId) (b : Bool) → r.home ≡ Some d → IsTrue b ↔ IsOfferedBy w home offers to d c → IsTrue b ↔ GoesAlong w home offers to c
    goes_by_home d b from h = (λ t. there (h.0 t), λ g. h.1 (back g))
      where
        there : IsOfferedBy w home offers to d c → GoesAlong w home offers to c
        there (of_home, these, offered) = (r, at, inr (d, of_home, from, these, offered))

        back : GoesAlong w home offers to c → IsOfferedBy w home offers to d c
        back (s, at_s, inl none) =
            let one : s ≡ r = same_Some s r (sym at_s ∙ at) in
            let no : None ≡ Some d = sym none ∙ ap (λ (x : ClassRecord). x.home) one ∙ from in absurd cc
        back (s, at_s, inr (e, of_home, from_e, these, offered)) =
            let one : s ≡ r = same_Some s r (sym at_s ∙ at) in
            let one_home : e ≡ d = same_Some e d (sym from_e ∙ ap (λ (x : ClassRecord). x.home) one ∙ from) in
            subst (λ (x : DomainId). IsOfferedBy w home offers to x c) one_home (of_home, these, offered)

  -- ---- What a domain offers.

  pub own_offers : (d : DomainId) (b : Bool) → d ≡ home → IsTrue b ↔ IsOfferedAs offers c to → IsTrue b ↔ IsOfferedBy w home offers to d c
  own_offers d b same h = (λ t. there (h.0 t), λ g. h.1 (back g))
    where
      there : IsOfferedAs offers c to → IsOfferedBy w home offers to d c
      there offered = (offers, inl (same, refl), offered)

      back : IsOfferedBy w home offers to d c → IsOfferedAs offers c to
      back (of_home, inl (own, these), offered) = subst (λ (l : List Offer). IsOfferedAs l c to) these offered
      back (of_home, inr (other, domain), offered) = absurd (other same)

  module _ (d : DomainId) (other : d ≢ home) where
    pub others_offers : (b : Bool) (r : DomainRecord) → domain_of w d ≡ Some r → IsTrue b ↔ IsOfferedAs r.offers c to
        → IsTrue b ↔ IsOfferedBy w home offers to d c
    others_offers b r at h = (λ t. there (h.0 t), λ g. h.1 (back g))
      where
        there : IsOfferedAs r.offers c to → IsOfferedBy w home offers to d c
        there offered = (r.offers, inr (other, (r, at, refl)), offered)

        back : IsOfferedBy w home offers to d c → IsOfferedAs r.offers c to
        back (of_home, inl (own, these), offered) = absurd (other own)
        back (of_home, inr (not_own, (s, at_s, these)), offered) =
            let one : s ≡ r = same_Some s r (sym at_s ∙ at) in
            let same_offers : of_home ≡ r.offers = these ∙ ap (λ (x : DomainRecord). x.offers) one in
            subst (λ (l : List Offer). IsOfferedAs l c to) same_offers offered

    pub no_domain_offers : domain_of w d ≡ None → IsOfferedBy w home offers to d c → ⊥
    no_domain_offers none (of_home, inl (own, these), offered) = other own
    no_domain_offers none (of_home, inr (not_own, (s, at_s, these)), offered) = let no : None ≡ Some s = sym none ∙ at_s in cc
