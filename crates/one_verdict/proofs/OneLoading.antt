-- Files that break no rule bring one thing, but for how names and offers are listed.
use Rattle.std.proofs.Common.{◌≡◌, ℕ, ◌<◌, List, Contains, sym, ap, subst, ◌∙◌, arith}
use Rattle.list_lemmas.proofs.ItemsOfLists.{Contains-at as contained}
use Rattle.jk_model.specs.declared.identifiers.ClassId.{ClassId}
use Rattle.jk_model_classes.specs.declared.records.ClassRecord.{ClassRecord}
use Rattle.jk_model_classes.specs.declared.sharing.Offer.{Offer}
use Rattle.jk_model_classes.specs.declared.sharing.Stub.{Stub}
use Rattle.jk_model_classes.specs.Stubs.{IsStub}
use Rattle.jk_model_classes.specs.Worlds.{WorldRecord, class_named}
use Rattle.jk_model_folders.specs.declared.files.FolderFiles.{FolderFiles}
use Rattle.jk_model_folders.specs.Loads.{AreStubs}
use Rattle.one_verdict.specs.Verdicts.{Brings, Brought, IsSameBrought}
use Rattle.one_verdict.proofs.OneFolder.{TwoWays, one_list_of_classes, one_table, same_offers, swapped}
use Rattle.one_verdict.proofs.OneVerdict.{both_ways, places_of}
use Rattle.one_verdict.proofs.RisingLists.{IsIn, in_list, rising_same}

-- ---- Stubs.

one_stub : (classes : List ClassRecord) (a b : Stub) → a.class ≡ b.class → IsStub classes a.class a → IsStub classes b.class b → a ≡ b
one_stub classes a b class h k =
    let own : IsStub classes a.class b = subst (λ (c : ClassId). IsStub classes c b) (sym class) k in
    let interfaces : a.interfaces ≡ b.interfaces =
    rising_same (λ (x y : ClassId). x.0 < y.0) (λ x y less more. omega (arith, less, more)) a.interfaces b.interfaces h.rising own.rising
    (λ z (i, at). in_list b.interfaces z (own.all z (h.listed z (contained a.interfaces i z at))))
    (λ z (i, at). in_list a.interfaces z (h.all z (own.listed z (contained b.interfaces i z at)))) in
    λ d. record { class = class d; interfaces = interfaces d }

stub_there : (classes : List ClassRecord) (first : ClassId) (xs ys : List Stub) → AreStubs classes first xs → AreStubs classes first ys → (z : Stub)
    → IsIn z xs → IsIn z ys
stub_there classes first xs ys h k z (i, at) =
    let (of_folder, is) = h.each z (contained xs i z at) in
    let (other, there, class) = k.all z.class of_folder is.remote in
    let same : other ≡ z = one_stub classes other z class (k.each other there).1 is in
    in_list ys z (subst (λ (x : Stub). Contains ys x) same there)

one_list_of_stubs : (classes : List ClassRecord) (first : ClassId) (xs ys : List Stub) → AreStubs classes first xs → AreStubs classes first ys → xs ≡ ys
one_list_of_stubs classes first xs ys h k =
    rising_same (λ (x y : Stub). x.class.0 < y.class.0) (λ x y less more. omega (arith, less, more)) xs ys h.rising k.rising
    (stub_there classes first xs ys h k) (stub_there classes first ys xs k h)

-- ---- All that is brought.

module _ (f : FolderFiles) (w : WorldRecord) (name : List ℕ) (a b : Brought) (h : Brings f w name a) (k : Brings f w name b) where
  abbrev ways : TwoWays
  ways = both_ways f w name (places_of f w name a h) (places_of f w name b k)

  classes : h.placed.classes ≡ k.placed.classes
  classes = one_list_of_classes ways

  first_is : a.first ≡ b.first
  first_is =
      let number : a.first.0 ≡ b.first.0 = h.first_is ∙ sym k.first_is in
      λ d. record { 0 = number d }

  offers_there : (t : TwoWays) (xs ys : List Offer) → xs ≡ t.one.offers → ys ≡ t.other.offers → (o : Offer) → Contains xs o → Contains ys o
  offers_there t xs ys e g o there =
      subst (λ (os : List Offer). Contains os o) (sym g) (same_offers t o (subst (λ (os : List Offer). Contains os o) e there))

  stubs_here : AreStubs k.placed.classes b.first a.stubs
  stubs_here =
      subst (λ (c : ClassId). AreStubs k.placed.classes c a.stubs) first_is
      (subst (λ (rs : List ClassRecord). AreStubs rs a.first a.stubs) classes h.stubs_are)

  pub one_loading : IsSameBrought a b
  one_loading = record {
    first = first_is;
    names = ap class_named h.table_is ∙ one_table ways ∙ sym (ap class_named k.table_is);
    offers = λ o. (
      offers_there ways a.offers b.offers h.offers_are k.offers_are o,
      offers_there (swapped ways) b.offers a.offers k.offers_are h.offers_are o,
    );
    stubs = one_list_of_stubs k.placed.classes b.first a.stubs b.stubs stubs_here k.stubs_are;
    world = h.world ∙ ap (λ (rs : List ClassRecord). let x : WorldRecord = record w { classes = rs } in x) classes ∙ sym k.world;
  }
