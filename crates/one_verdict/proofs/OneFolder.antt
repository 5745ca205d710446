-- The classes of a folder are put behind the others in one way, as far as a rule can tell.
use Rattle.std.proofs.Common.{◌≡◌, ℕ, zero, suc, ◌+◌, inl, inr, List, [], ◌∷◌, ◌++◌, length, map, Contains, Option, Some, None, slice_get, refl, sym, ap, subst, ◌∙◌, arith}
use Rattle.std.proofs.lemmas.Option.{slice_get_within}
use Rattle.list_lemmas.proofs.ItemsByPlace.{item_there as item_at}
use Rattle.jk_model.specs.declared.class_file.ClassFile.{ClassFile}
use Rattle.jk_model.specs.declared.identifiers.ClassId.{ClassId}
use Rattle.jk_model.specs.declared.identifiers.DomainId.{DomainId}
use Rattle.jk_model_classes.specs.declared.records.ClassRecord.{ClassRecord}
use Rattle.jk_model_classes.specs.declared.sharing.Offer.{Offer}
use Rattle.jk_model_classes.specs.declared.sharing.ResolverLine.{ResolverLine}
use Rattle.jk_model_classes.specs.LinkRules.{LinkScope}
use Rattle.jk_model_classes.specs.Worlds.{NamedClass, WorldRecord, class_named}
use Rattle.jk_model_folders.specs.FolderRules.{AreOuterNames, IsPlaced, PlacedFolder, link_scope}
use Rattle.jk_model_folders.specs.LinkedClasses.{AreLinksFor, IsRecordFor, without_links}
use Rattle.one_verdict.proofs.OneAttribute.{IsJudged}
use Rattle.one_verdict.proofs.OneLinks.{one_list_of_links}
use Rattle.one_verdict.proofs.OneOrder.{one_order}
use Rattle.one_verdict.proofs.OneRecord.{one_record}
use Rattle.one_verdict.proofs.RisingLists.{list_is}

-- ---- What names mean.

option_is : {X : Type 0} (a b : Option X) → ((x : X) → a ≡ Some x → b ≡ Some x) → ((x : X) → b ≡ Some x → a ≡ Some x) → a ≡ b
option_is None None into back = refl
option_is None (Some y) into back = back y refl
option_is (Some x) None into back = sym (into x refl)
option_is (Some x) (Some y) into back = sym (into x refl)

pub one_meaning : (w : WorldRecord) (into : List ℕ) (lines : List ResolverLine) (names others : List NamedClass) → AreOuterNames w into lines names
    → AreOuterNames w into lines others → class_named names ≡ class_named others
one_meaning w into lines names others h k = λ d name. same name d
  where
    same : (name : List ℕ) → class_named names name ≡ class_named others name
    same name =
        option_is (class_named names name) (class_named others name) (λ c e. (k name c).1 ((h name c).0 e)) (λ c e. (h name c).1 ((k name c).0 e))

-- ---- Lists of records.

maps_are : {X Y : Type 0} (f : X → Y) (xs ys : List X) → length xs ≡ length ys
    → ((i : ℕ) (x y : X) → slice_get xs i ≡ Some x → slice_get ys i ≡ Some y → f x ≡ f y) → map f xs ≡ map f ys
maps_are f [] [] long same = refl
maps_are f [] (y ∷ ys) long same = absurd (omega (arith, long))
maps_are f (x ∷ xs) [] long same = absurd (omega (arith, long))
maps_are f (x ∷ xs) (y ∷ ys) long same =
    let first : f x ≡ f y = same zero x y refl refl in
    let more : map f xs ≡ map f ys = maps_are f xs ys (omega (arith, long)) (λ i a b at there. same (suc i) a b at there) in
    λ d. first d ∷ more d

-- ---- The folder.

-- The classes of a folder, put behind the others in two ways, by names that mean the same.
pub record TwoWays : Type 0 where
  pub world : WorldRecord
  pub lines : List ResolverLine
  pub files : List ClassFile
  pub names : List NamedClass
  pub others : List NamedClass
  pub same_names : class_named names ≡ class_named others
  pub judged : (i : ℕ) (c : ClassFile) → slice_get files i ≡ Some c → IsJudged c
  pub one : PlacedFolder
  pub other : PlacedFolder
  pub is_one : IsPlaced world lines files names one
  pub is_other : IsPlaced world lines files others other

abbrev pub swapped : TwoWays → TwoWays
swapped t = record {
  world = t.world;
  lines = t.lines;
  files = t.files;
  names = t.others;
  others = t.names;
  same_names = sym t.same_names;
  judged = t.judged;
  one = t.other;
  other = t.one;
  is_one = t.is_other;
  is_other = t.is_one;
}

module _ (t : TwoWays) where
  pub one_home : t.one.home ≡ t.other.home
  one_home =
      let number : t.one.home.0 ≡ t.other.home.0 = t.is_one.home ∙ sym t.is_other.home in
      λ d. record { 0 = number d }

  pub one_order_of : t.one.order ≡ t.other.order
  one_order_of = one_order t.files t.one.order t.other.order t.is_one.order t.is_other.order

  -- what names mean in the domain
  means_there : (name : List ℕ) (c : ClassId) → class_named t.one.table name ≡ Some c → class_named t.other.table name ≡ Some c
  means_there name c e = elim ((t.is_one.table name c).0 e) [
    | inl outer ↦ (t.is_other.table name c).1 (inl ((λ d. sym t.same_names d name) ∙ outer))
    | inr (i, f, at, called, (n, place, is)) ↦
        (t.is_other.table name c).1 (inr (i, f, at, called, (n, subst (λ (o : List ℕ). slice_get o n ≡ Some i) one_order_of place, is)))
  ]

  means_here : (name : List ℕ) (c : ClassId) → class_named t.other.table name ≡ Some c → class_named t.one.table name ≡ Some c
  means_here name c e = elim ((t.is_other.table name c).0 e) [
    | inl outer ↦ (t.is_one.table name c).1 (inl ((λ d. t.same_names d name) ∙ outer))
    | inr (i, f, at, called, (n, place, is)) ↦
        (t.is_one.table name c).1 (inr (i, f, at, called, (n, subst (λ (o : List ℕ). slice_get o n ≡ Some i) (sym one_order_of) place, is)))
  ]

  meaning_at : (name : List ℕ) → class_named t.one.table name ≡ class_named t.other.table name
  meaning_at name = option_is (class_named t.one.table name) (class_named t.other.table name) (means_there name) (means_here name)

  pub one_table : class_named t.one.table ≡ class_named t.other.table
  one_table = λ d name. meaning_at name d

  -- ---- The records, without their links.

  abbrev number : ℕ → ClassId
  number n = record { 0 = length t.world.classes + n }

  file_at : (n : ℕ) (a : ClassRecord) → slice_get t.is_one.added n ≡ Some a
      → (i : ℕ) × (c : ClassFile) × (slice_get t.one.order n ≡ Some i) × (slice_get t.files i ≡ Some c)
  file_at n a at =
      let within = slice_get_within t.is_one.added n a at in
      let place = item_at t.one.order n (omega (arith, within, t.is_one.as_many, t.is_one.order.as_many)) in
      let file = item_at t.files place.0 (t.is_one.order.places n place.0 place.1) in
      (place.0, file.0, place.1, file.1)

  also_there : (n i : ℕ) → slice_get t.one.order n ≡ Some i → slice_get t.other.order n ≡ Some i
  also_there n i place = subst (λ (o : List ℕ). slice_get o n ≡ Some i) one_order_of place

  bare : (n : ℕ) (a b : ClassRecord) → slice_get t.is_one.added n ≡ Some a → slice_get t.is_other.added n ≡ Some b → without_links a ≡ without_links b
  bare n a b at there =
      let (i, c, place, file) = file_at n a at in
      let left : IsRecordFor (link_scope t.one (number n)) t.one.home c a = (t.is_one.records n i c a place file at).0 in
      let right : IsRecordFor (link_scope t.other (number n)) t.other.home c b = (t.is_other.records n i c b (also_there n i place) file there).0 in
      one_record (link_scope t.one (number n)) (link_scope t.other (number n)) one_table c (t.judged i c file) t.other.home a b
      (subst (λ (home : DomainId). IsRecordFor (link_scope t.one (number n)) home c a) one_home left) right

  as_many_added : length t.is_one.added ≡ length t.is_other.added
  as_many_added = t.is_one.as_many ∙ sym t.is_other.as_many

  pub one_unlinked : t.one.unlinked ≡ t.other.unlinked
  one_unlinked =
      t.is_one.unlinked
      ∙ ap (λ (rs : List ClassRecord). t.world.classes ++ rs) (maps_are without_links t.is_one.added t.is_other.added as_many_added bare)
      ∙ sym t.is_other.unlinked

  pub one_scope : (self : ClassId) → link_scope t.one self ≡ link_scope t.other self
  one_scope self = λ d. record { meaning = one_table d; classes = one_unlinked d; self = self }

  -- ---- The records.

  whole : (n : ℕ) (a b : ClassRecord) → slice_get t.is_one.added n ≡ Some a → slice_get t.is_other.added n ≡ Some b → a ≡ b
  whole n a b at there =
      let (i, c, place, file) = file_at n a at in
      let left : AreLinksFor (link_scope t.one (number n)) c a.links = (t.is_one.records n i c a place file at).1 in
      let right : AreLinksFor (link_scope t.other (number n)) c b.links = (t.is_other.records n i c b (also_there n i place) file there).1 in
      let links : a.links ≡ b.links =
      one_list_of_links (link_scope t.other (number n)) c a.links b.links
      (subst (λ (s : LinkScope). AreLinksFor s c a.links) (one_scope (number n)) left) right in
      let rest : without_links a ≡ without_links b = bare n a b at there in
      λ d. record (rest d) { links = links d }

  pub one_added : t.is_one.added ≡ t.is_other.added
  one_added = list_is t.is_one.added t.is_other.added as_many_added whole

  pub one_list_of_classes : t.one.classes ≡ t.other.classes
  one_list_of_classes = t.is_one.classes ∙ ap (λ (rs : List ClassRecord). t.world.classes ++ rs) one_added ∙ sym t.is_other.classes

  -- ---- Offers.

  pub same_offers : (o : Offer) → Contains t.one.offers o → Contains t.other.offers o
  same_offers o there =
      let (line, of_lines, (name, to, says, means, is)) = (t.is_one.offers o).0 there in
      (t.is_other.offers o).1 (line, of_lines, (name, to, says, (λ d. sym one_table d name) ∙ means, is))
